-- Variables that aren't to be assigned, or not to be named yet: what is noted is what the relations say.
use Rattle.std.proofs.Common.{◌≡◌, ℕ, List, Some}
use Rattle.std.specs.Prelude.{◌↔◌}
use Rattle.jr_ast.specs.Tree as tree
use Rattle.jr_table.specs.Decls.{Decl}
use Rattle.jr_table.specs.Rows.{Row}
use Rattle.jr_table.specs.Conditions.{AreRows}
use Rattle.jr_table.specs.Found.{one}
use Rattle.jr_table.specs.Lookup.{FindsVariable, find_variable}
use Rattle.jr_table.specs.LookupLaws.{KeysAreFound}
use Rattle.jr_table.specs.Context.{Context, scope_of, IsFinal}
use Rattle.jr_table.specs.Binding.{FieldFinds, SuperFieldFinds, Role}
use Rattle.jr_table.specs.ExpressionRules.{IsFixed, FinalBehind, IsForward, FinalTarget, FinalAssigned, Forward}
use Rattle.jr_table.specs.Meanings.{field_found, own_superclass, class_on, at_word}
use Rattle.jr_table.specs.Notes.{breaks, Has, is_final_decl, is_fixed, is_fixed_behind, is_forward, test_found, final_notes, target_notes, forward_notes}
use Rattle.jr_table.proofs.ReferenceLaws.{field_finds, super_field_finds}
use Rattle.jr_table.proofs.DeclarationTests.{found_test, final_iff, fixed_iff, behind_iff, forward_iff}
use Rattle.jr_table.proofs.Breaking.{rule_when, no_note}
use Rattle.jr_table.specs.declared.rules.Rule.{Rule}
use Rattle.jr_table.specs.declared.rules.Rule.TheVariants as rule

module _ (rows : List Row) (fit : AreRows rows) (found : KeysAreFound rows) (c : Context) where
  module _ {A : Type 0} (begins : A → ℕ → ℕ) (role : Role) (base : ℕ) where
    -- a target whose parent begins at `from`
    abbrev FinalRule : (from : ℕ) → tree.Exp A → (at : ℕ) → Rule → Type 0
    FinalRule from e at r = (r ≡ rule.FinalAssigned) × FinalTarget begins rows c role base from (Some e) at

    finals : (from : ℕ) (e : tree.Exp A) (at : ℕ) (r : Rule) → Has (final_notes begins rows c role base from e) (breaks at r) ↔ FinalRule from e at r
    finals from (tree.name m w) at r = rule_when (test_found (is_fixed rows c) (find_variable rows (scope_of c) w.text)) ((d : Decl) × FindsVariable rows (scope_of c) w.text (one d) × IsFixed rows c d)
        (found_test (find_variable rows (scope_of c) w.text) (FindsVariable rows (scope_of c) w.text) (found.variable (scope_of c) w.text) (is_fixed rows c) (IsFixed rows c) (fixed_iff rows fit c)) (at_word begins m from w) at rule.FinalAssigned r
    finals from (tree.field m e w) at r = rule_when (test_found (is_fixed_behind rows c e) (field_found rows c (class_on rows c e) w.text)) ((d : Decl) × FieldFinds rows c e w.text (one d) × FinalBehind rows c e d)
        (found_test (field_found rows c (class_on rows c e) w.text) (FieldFinds rows c e w.text) (field_finds rows fit found c e w.text) (is_fixed_behind rows c e) (FinalBehind rows c e) (behind_iff rows fit c e)) (at_word begins m from w) at rule.FinalAssigned r
    finals from (tree.super_field m w) at r = rule_when (test_found (is_final_decl rows c) (field_found rows c (own_superclass rows c) w.text)) ((d : Decl) × SuperFieldFinds rows c w.text (one d) × IsFinal rows c d)
        (found_test (field_found rows c (own_superclass rows c) w.text) (SuperFieldFinds rows c w.text) (super_field_finds rows fit found c w.text) (is_final_decl rows c) (IsFinal rows c) (final_iff rows fit c)) (at_word begins m from w) at rule.FinalAssigned r
    finals from e at r = no_note at r (FinalRule from e at r) (λ h. h.1)

    -- a final variable that is assigned
    abbrev pub TargetRules : tree.Exp A → (at : ℕ) → Rule → Type 0
    TargetRules e at r = (r ≡ rule.FinalAssigned) × FinalAssigned begins rows c role base e at

    pub targets : (e : tree.Exp A) (at : ℕ) (r : Rule) → Has (target_notes begins rows c role base e) (breaks at r) ↔ TargetRules e at r
    targets (tree.assign m x y) at r = finals (begins m base) x at r
    targets (tree.compound m o x y) at r = finals (begins m base) x at r
    targets (tree.bump m o e) at r = finals (begins m base) e at r
    targets e at r = no_note at r (TargetRules e at r) (λ h. h.1)

    -- a variable that is named too early
    abbrev pub ForwardRules : tree.Exp A → (at : ℕ) → Rule → Type 0
    ForwardRules e at r = (r ≡ rule.Forward) × Forward begins rows c role base e at

    pub forwards : (e : tree.Exp A) (at : ℕ) (r : Rule) → Has (forward_notes begins rows c role base e) (breaks at r) ↔ ForwardRules e at r
    forwards (tree.name m w) at r = rule_when (test_found (is_forward rows c) (find_variable rows (scope_of c) w.text)) ((d : Decl) × FindsVariable rows (scope_of c) w.text (one d) × IsForward rows c d)
        (found_test (find_variable rows (scope_of c) w.text) (FindsVariable rows (scope_of c) w.text) (found.variable (scope_of c) w.text) (is_forward rows c) (IsForward rows c) (forward_iff rows fit c)) (at_word begins m base w) at rule.Forward r
    forwards e at r = no_note at r (ForwardRules e at r) (λ h. h.1)
