-- Rules that a statement breaks itself, and what its references are bound to: what is noted is what the relations say, kind by kind.
use Rattle.std.proofs.Common.{◌≡◌, ◌≢◌, ℕ, List, [], ◌++◌, Option, Some, None, Bool, true, false, refl, sym, ap, subst, ◌∙◌, inl, inr}
use Rattle.std.specs.Prelude.{◌⊎◌, ◌↔◌, ◌&&◌, not, is_some, option_and_then, if◌then◌else◌}
use Rattle.jr_ast.specs.Tree as tree
use Rattle.jr_ast.specs.StatementTree as statement
use Rattle.jr_ast.specs.Marks.{exp_mark}
use Rattle.jr_table.specs.Keys.{ClassKey, Ty, int, boolean, void, null, class}
use Rattle.jr_table.specs.Decls.{MemberKey, head, field, method, constructor, LocalKey, Decl, method_decl}
use Rattle.jr_table.specs.SameKeys.{same_ty, ty_decides}
use Rattle.jr_table.specs.Rows.{Row}
use Rattle.jr_table.specs.Found.{one}
use Rattle.jr_table.specs.Conditions.{AreRows}
use Rattle.jr_table.specs.Scope.{ScopeLocal, FindsLocal, last_named}
use Rattle.jr_table.specs.LookupLaws.{KeysAreFound}
use Rattle.jr_table.specs.Context.{Context, scope_of, in_own, local_of, WritesType, Returns}
use Rattle.jr_table.specs.Binding.{HasType, TypeRefers}
use Rattle.jr_table.specs.ExpressionRules.{Suits, IsConstant}
use Rattle.jr_table.specs.Completing.{IsTrueLiteral}
use Rattle.jr_table.specs.StatementRules.{value_at, StmtBindsItself, LocalNoType, LocalPrivate, StmtMismatches, Redeclared, ReturnForm, ConstantCondition, StmtBreaks}
use Rattle.jr_table.specs.Meanings.{row_of, type_of, written_type, type_references}
use Rattle.jr_table.specs.Notes.{Note, refers, breaks, Has, reference_notes, unless, when, is_ty, suits, is_constant, is_true_literal, value_type, returned_type, is_class_type, value_return_notes, condition_notes, own_stmt_notes}
use Rattle.jr_table.proofs.ScopeLaws.{the_local, last_is, SaysLast}
use Rattle.jr_table.proofs.RowTypes.{chain, some_iff, part_iff, written_iff}
use Rattle.jr_table.proofs.Typing.{typed}
use Rattle.jr_table.proofs.TypeTests.{and_iff, not_iff, is_ty_iff, suits_iff}
use Rattle.jr_table.proofs.Breaking.{has_append, one_iff, unless_iff, when_iff, unless_binds_none, when_binds_none}
use Rattle.jr_table.proofs.TypeNotes.{TypeRules, type_breaks, type_binds}
use Rattle.jr_table.proofs.FlowTests.{some_test, constant_test, literal_test}
use Rattle.jr_table.specs.declared.rules.Rule.{Rule}
use Rattle.jr_table.specs.declared.rules.Rule.TheVariants as rule

-- tests

-- the last local of the name is one
named_iff : (ls : List ScopeLocal) (name : List ℕ) → (is_some (last_named name ls) ≡ true) ↔ ((k : LocalKey) × FindsLocal ls name k)
named_iff ls name = (to (last_named name ls) (last_is ls name), back)
  where
    to : (o : Option LocalKey) → SaysLast ls name o → is_some o ≡ true → (k : LocalKey) × FindsLocal ls name k
    to None none e = absurd cc
    to (Some k) h e = (k, record { place = h.place; local = h.local; stands = h.stands; named = h.named; is = h.is; last = h.last })

    back : ((k : LocalKey) × FindsLocal ls name k) → is_some (last_named name ls) ≡ true
    back (k, h) = ap is_some (the_local ls name k h)

class_type_iff : (o : Option Ty) (Has : Ty → Type 0) → ((t : Ty) → (o ≡ Some t) ↔ Has t) → (is_class_type o ≡ true) ↔ ((k : ClassKey) × Has (class k))
class_type_iff None Has is = (λ h. absurd cc, λ h. let e = (is (class h.0)).1 h.1 in absurd cc)
class_type_iff (Some (class k)) Has is = (λ h. (k, (is (class k)).0 refl), λ h. refl)
class_type_iff (Some int) Has is = (λ h. absurd cc, λ h. let e = (is (class h.0)).1 h.1 in absurd cc)
class_type_iff (Some boolean) Has is = (λ h. absurd cc, λ h. let e = (is (class h.0)).1 h.1 in absurd cc)
class_type_iff (Some void) Has is = (λ h. absurd cc, λ h. let e = (is (class h.0)).1 h.1 in absurd cc)
class_type_iff (Some null) Has is = (λ h. absurd cc, λ h. let e = (is (class h.0)).1 h.1 in absurd cc)

-- no type where it is `void`
value_type_iff : (o : Option Ty) (t : Ty) → (value_type o ≡ Some t) ↔ ((o ≡ Some t) × (t ≢ void))
value_type_iff None t = (λ e. absurd cc, λ h. let e = h.0 in absurd cc)
value_type_iff (Some u) t = of (same_ty u void) refl
  where
    of : (b : Bool) → same_ty u void ≡ b → ((if b then None else Some u) ≡ Some t) ↔ ((Some u ≡ Some t) × (t ≢ void))
    of true e = (λ h. absurd cc, λ h. let i : u ≡ t = let j = h.0 in cc in absurd (h.1 (sym i ∙ (ty_decides u void).0 e)))
    of false e = (λ h. (h, λ v. let i : u ≡ t = cc in let z = (ty_decides u void).1 (i ∙ v) in absurd cc), λ h. h.0)

module _ (rows : List Row) (fit : AreRows rows) where
  -- what a member returns
  pub returned_iff : (k : MemberKey) (t : Ty) → (returned_type rows k ≡ Some t) ↔ Returns rows k t
  returned_iff (method k) t = chain (value_type_iff (option_and_then (λ (r : Row). r.type) (row_of rows (method_decl k))) t)
      (λ h. ((part_iff rows fit (λ (r : Row). r.type) (method_decl k) t).0 h.0, h.1), λ h. ((part_iff rows fit (λ (r : Row). r.type) (method_decl k) t).1 h.0, h.1))
  returned_iff (head k) t = (λ e. absurd cc, λ h. absurd h)
  returned_iff (field k) t = (λ e. absurd cc, λ h. absurd h)
  returned_iff (constructor k) t = (λ e. absurd cc, λ h. absurd h)

  module _ (found : KeysAreFound rows) (c : Context) {A : Type 0} where
    is_type_iff : (t : Ty) (e : tree.Exp A) → (is_ty t (type_of rows c e) ≡ true) ↔ HasType rows c e t
    is_type_iff t e = chain (is_ty_iff t (type_of rows c e)) (typed rows fit found c e t)

    class_iff : (e : tree.Exp A) → (is_class_type (type_of rows c e) ≡ true) ↔ ((k : ClassKey) × HasType rows c e (class k))
    class_iff e = class_type_iff (type_of rows c e) (HasType rows c e) (typed rows fit found c e)

    -- a returned value, where this is to be returned
    abbrev Mismatch : tree.Exp A → (Ty → Type 0) → Type 0
    Mismatch e Due = (t : Ty) × Due t × (Suits rows c e (λ u. u ≡ t) → ⊥)

    abbrev ValueRules : tree.Exp A → (Ty → Type 0) → (here place at : ℕ) → Rule → Type 0
    ValueRules e Due here place at r = ((r ≡ rule.ReturnForm) × ((at ≡ here) × ((t : Ty) → Due t → ⊥))) ⊎ ((r ≡ rule.TypeMismatch) × ((at ≡ place) × Mismatch e Due))

    value_returned : (e : tree.Exp A) (o : Option Ty) (Due : Ty → Type 0) → ((t : Ty) → (o ≡ Some t) ↔ Due t) → (here place at : ℕ) (r : Rule)
        → Has (value_return_notes rows here place (type_of rows c e) o) (breaks at r) ↔ ValueRules e Due here place at r
    value_returned e None Due is here place at r = chain (one_iff here at rule.ReturnForm r) (λ h. inl (h.1, (h.0, λ t due. let x = (is t).1 due in absurd cc)), back)
      where
        back : ValueRules e Due here place at r → (at ≡ here) × (r ≡ rule.ReturnForm)
        back (inl (i, (a, none))) = (a, i)
        back (inr (i, (a, h))) = let x = (is h.0).1 h.1 in absurd cc
    value_returned e (Some u) Due is here place at r = chain
        (unless_iff (suits rows (type_of rows c e) (Some u)) (Suits rows c e (λ v. v ≡ u)) (suits_iff rows fit (type_of rows c e) (Some u) (HasType rows c e) (λ v. v ≡ u) (typed rows fit found c e) (λ v. some_iff u v)) place at rule.TypeMismatch r)
        (λ h. inr (h.1, (h.0, (u, (is u).0 refl, h.2))), back)
      where
        back : ValueRules e Due here place at r → (at ≡ place) × (r ≡ rule.TypeMismatch) × (Suits rows c e (λ v. v ≡ u) → ⊥)
        back (inl (i, (a, none))) = absurd (none u ((is u).0 refl))
        back (inr (i, (a, (t, due, n)))) = let x = (is t).1 due in let same : u ≡ t = cc in (a, i, subst (λ z. Suits rows c e (λ v. v ≡ z) → ⊥) (sym same) n)

-- the rules of statements, one by one

module _ {A : Type 0} (begins : A → ℕ → ℕ) (rows : List Row) (number : ℕ) (c : Context) (base : ℕ) where
  -- notes on a local's name and value, and on a condition that is constant
  abbrev name_notes : A → tree.Word A → List Note
  name_notes m w = when (is_some (last_named w.text (scope_of c).locals)) (breaks (begins w.mark (begins m base)) rule.Redeclared)

  abbrev init_notes : A → Bool → tree.TypeName A → tree.Word A → tree.Exp A → List Note
  init_notes m f t w e = unless (suits rows (type_of rows (in_own c (local_of c number f t w)) e) (written_type rows (scope_of c) t)) (breaks (begins (exp_mark e) (begins m base)) rule.TypeMismatch)

  abbrev constant_notes : A → tree.Exp A → List Note
  constant_notes m e = when (not (is_true_literal e) && is_constant rows c e) (breaks (begins (exp_mark e) (begins m base)) rule.ConstantCondition)

  data StmtRule (x : statement.Stmt A) (at : ℕ) (r : Rule) : Type 0 where
    no_type : (is : r ≡ rule.NoType) (has : LocalNoType begins rows number c base x at) → StmtRule x at r
    hidden : (is : r ≡ rule.Private) (has : LocalPrivate begins rows number c base x at) → StmtRule x at r
    mismatch : (is : r ≡ rule.TypeMismatch) (has : StmtMismatches begins rows number c base x at) → StmtRule x at r
    again : (is : r ≡ rule.Redeclared) (has : Redeclared begins rows number c base x at) → StmtRule x at r
    form : (is : r ≡ rule.ReturnForm) (has : ReturnForm begins rows number c base x at) → StmtRule x at r
    constant : (is : r ≡ rule.ConstantCondition) (has : ConstantCondition begins rows number c base x at) → StmtRule x at r

  one_rule : (x : statement.Stmt A) (at : ℕ) (r : Rule) → StmtRule x at r ↔ StmtBreaks begins rows number c base x at r
  one_rule x at r = (to, back r)
    where
      carry : (q : Rule) → r ≡ q → StmtBreaks begins rows number c base x at q → StmtBreaks begins rows number c base x at r
      carry q is h = subst (λ p. StmtBreaks begins rows number c base x at p) (sym is) h

      to : StmtRule x at r → StmtBreaks begins rows number c base x at r
      to (no_type is h) = carry rule.NoType is h
      to (hidden is h) = carry rule.Private is h
      to (mismatch is h) = carry rule.TypeMismatch is h
      to (again is h) = carry rule.Redeclared is h
      to (form is h) = carry rule.ReturnForm is h
      to (constant is h) = carry rule.ConstantCondition is h

      back : (q : Rule) → StmtBreaks begins rows number c base x at q → StmtRule x at q
      back rule.NoType h = no_type refl h
      back rule.Private h = hidden refl h
      back rule.TypeMismatch h = mismatch refl h
      back rule.Redeclared h = again refl h
      back rule.ReturnForm h = form refl h
      back rule.ConstantCondition h = constant refl h
      back rule.NoVariable h = absurd h
      back rule.NoMethod h = absurd h
      back rule.Ambiguous h = absurd h
      back rule.StaticContext h = absurd h
      back rule.StaticThroughValue h = absurd h
      back rule.InstanceThroughType h = absurd h
      back rule.Operands h = absurd h
      back rule.BadCast h = absurd h
      back rule.FinalAssigned h = absurd h
      back rule.Forward h = absurd h
      back rule.VoidValue h = absurd h
      back rule.MissingReturn h = absurd h
      back rule.Unreachable h = absurd h
      back rule.Override h = absurd h
      back rule.SuperCtor h = absurd h
      back rule.FinalClass h = absurd h
      back rule.ObjectMethod h = absurd h
      back rule.Deep h = absurd h

  -- a statement that breaks no rule itself
  none_broken : (x : statement.Stmt A) (at : ℕ) (r : Rule) → (StmtRule x at r → ⊥) → Has [] (breaks at r) ↔ StmtRule x at r
  none_broken x at r none = (λ h. absurd h, λ h. none h)

  module _ (fit : AreRows rows) (found : KeysAreFound rows) where
    -- a condition
    condition : (m : A) (e : tree.Exp A) (at : ℕ) (r : Rule) → Has (condition_notes begins rows number c base m e) (breaks at r) ↔ ((at ≡ value_at begins rows number c base m e) × (r ≡ rule.TypeMismatch) × (HasType rows c e boolean → ⊥))
    condition m e at r = unless_iff (is_ty boolean (type_of rows c e)) (HasType rows c e boolean) (is_type_iff rows fit found c boolean e) (value_at begins rows number c base m e) at rule.TypeMismatch r

    local_rules : (m : A) (f : Bool) (t : tree.TypeName A) (w : tree.Word A) (e : tree.Exp A) (at : ℕ) (r : Rule) → Has (own_stmt_notes begins rows number c base (statement.local m f t w e)) (breaks at r) ↔ StmtRule (statement.local m f t w e) at r
    unfolding own_stmt_notes
    local_rules m f t w e at r = chain (has_append (reference_notes (type_references begins rows c (begins m base) t)) _ (breaks at r)) (to, back)
      where
        types : Has (reference_notes (type_references begins rows c (begins m base) t)) (breaks at r) ↔ TypeRules begins rows c fit found (begins m base) t at r
        types = type_breaks begins rows c fit found (begins m base) t at r

        names : Has (name_notes m w) (breaks at r) ↔ ((at ≡ begins w.mark (begins m base)) × (r ≡ rule.Redeclared) × ((k : LocalKey) × FindsLocal (scope_of c).locals w.text k))
        names = when_iff (is_some (last_named w.text (scope_of c).locals)) ((k : LocalKey) × FindsLocal (scope_of c).locals w.text k) (named_iff (scope_of c).locals w.text) (begins w.mark (begins m base)) at rule.Redeclared r

        values : Has (init_notes m f t w e) (breaks at r) ↔ ((at ≡ begins (exp_mark e) (begins m base)) × (r ≡ rule.TypeMismatch) × (Suits rows (in_own c (local_of c number f t w)) e (WritesType rows (scope_of c) t) → ⊥))
        values = unless_iff (suits rows (type_of rows (in_own c (local_of c number f t w)) e) (written_type rows (scope_of c) t)) (Suits rows (in_own c (local_of c number f t w)) e (WritesType rows (scope_of c) t))
            (suits_iff rows fit (type_of rows (in_own c (local_of c number f t w)) e) (written_type rows (scope_of c) t) (HasType rows (in_own c (local_of c number f t w)) e) (WritesType rows (scope_of c) t)
            (typed rows fit found (in_own c (local_of c number f t w)) e) (written_iff rows fit found (scope_of c) t)) (begins (exp_mark e) (begins m base)) at rule.TypeMismatch r

        behind : (Has (name_notes m w) (breaks at r) ⊎ Has (init_notes m f t w e) (breaks at r)) → StmtRule (statement.local m f t w e) at r
        behind (inl h) = let g = names.0 h in again g.1 (g.0, g.2)
        behind (inr h) = let g = values.0 h in mismatch g.1 (g.0, g.2)

        of_type : TypeRules begins rows c fit found (begins m base) t at r → StmtRule (statement.local m f t w e) at r
        of_type (inl (is, h)) = no_type is h
        of_type (inr (is, h)) = hidden is h

        to : (Has (reference_notes (type_references begins rows c (begins m base) t)) (breaks at r) ⊎ Has (name_notes m w ++ init_notes m f t w e) (breaks at r)) → StmtRule (statement.local m f t w e) at r
        to (inl h) = of_type (types.0 h)
        to (inr h) = behind ((has_append (name_notes m w) (init_notes m f t w e) (breaks at r)).0 h)

        back : StmtRule (statement.local m f t w e) at r → Has (reference_notes (type_references begins rows c (begins m base) t)) (breaks at r) ⊎ Has (name_notes m w ++ init_notes m f t w e) (breaks at r)
        back (no_type is h) = inl (types.1 (inl (is, h)))
        back (hidden is h) = inl (types.1 (inr (is, h)))
        back (mismatch is h) = inr ((has_append (name_notes m w) (init_notes m f t w e) (breaks at r)).1 (inr (values.1 (h.0, is, h.1))))
        back (again is h) = inr ((has_append (name_notes m w) (init_notes m f t w e) (breaks at r)).1 (inl (names.1 (h.0, is, h.1))))
        back (form is h) = absurd h
        back (constant is h) = absurd h

    branch_rules : (m : A) (e : tree.Exp A) (x : statement.Stmt A) (other : statement.Else A) (at : ℕ) (r : Rule) → Has (own_stmt_notes begins rows number c base (statement.branch m e x other)) (breaks at r) ↔ StmtRule (statement.branch m e x other) at r
    unfolding own_stmt_notes
    branch_rules m e x other at r = chain (condition m e at r) (λ h. mismatch h.1 (h.0, h.2), back)
      where
        back : StmtRule (statement.branch m e x other) at r → (at ≡ value_at begins rows number c base m e) × (r ≡ rule.TypeMismatch) × (HasType rows c e boolean → ⊥)
        back (mismatch is h) = (h.0, is, h.1)
        back (no_type is h) = absurd h
        back (hidden is h) = absurd h.1
        back (again is h) = absurd h
        back (form is h) = absurd h
        back (constant is h) = absurd h

    loop_rules : (m : A) (e : tree.Exp A) (x : statement.Stmt A) (at : ℕ) (r : Rule) → Has (own_stmt_notes begins rows number c base (statement.loop m e x)) (breaks at r) ↔ StmtRule (statement.loop m e x) at r
    unfolding own_stmt_notes
    loop_rules m e x at r = chain (has_append (condition_notes begins rows number c base m e) (constant_notes m e) (breaks at r)) (to, back)
      where
        constants : Has (constant_notes m e) (breaks at r) ↔ ((at ≡ value_at begins rows number c base m e) × (r ≡ rule.ConstantCondition) × ((IsTrueLiteral e → ⊥) × IsConstant rows c e))
        constants = when_iff (not (is_true_literal e) && is_constant rows c e) ((IsTrueLiteral e → ⊥) × IsConstant rows c e)
            (and_iff (not (is_true_literal e)) (is_constant rows c e) (IsTrueLiteral e → ⊥) (IsConstant rows c e) (not_iff (is_true_literal e) (IsTrueLiteral e) (literal_test e)) (constant_test rows fit found c e))
            (value_at begins rows number c base m e) at rule.ConstantCondition r

        to : (Has (condition_notes begins rows number c base m e) (breaks at r) ⊎ Has (constant_notes m e) (breaks at r)) → StmtRule (statement.loop m e x) at r
        to (inl h) = let g = (condition m e at r).0 h in mismatch g.1 (g.0, g.2)
        to (inr h) = let g = constants.0 h in constant g.1 (g.0, g.2.0, g.2.1)

        back : StmtRule (statement.loop m e x) at r → Has (condition_notes begins rows number c base m e) (breaks at r) ⊎ Has (constant_notes m e) (breaks at r)
        back (mismatch is h) = inl ((condition m e at r).1 (h.0, is, h.1))
        back (constant is h) = inr (constants.1 (h.0, is, (h.1, h.2)))
        back (no_type is h) = absurd h
        back (hidden is h) = absurd h.1
        back (again is h) = absurd h
        back (form is h) = absurd h

    return_rules : (m : A) (o : Option (tree.Exp A)) (at : ℕ) (r : Rule) → Has (own_stmt_notes begins rows number c base (statement.return m o)) (breaks at r) ↔ StmtRule (statement.return m o) at r
    unfolding own_stmt_notes
    return_rules m (Some e) at r = chain (value_returned rows fit found c e (returned_type rows c.member) (Returns rows c.member) (returned_iff rows fit c.member) (begins m base) (begins (exp_mark e) (begins m base)) at r) (to, back)
      where
        to : ValueRules rows fit found c e (Returns rows c.member) (begins m base) (begins (exp_mark e) (begins m base)) at r → StmtRule (statement.return m (Some e)) at r
        to (inl (is, h)) = form is h
        to (inr (is, h)) = mismatch is h

        back : StmtRule (statement.return m (Some e)) at r → ValueRules rows fit found c e (Returns rows c.member) (begins m base) (begins (exp_mark e) (begins m base)) at r
        back (form is h) = inl (is, h)
        back (mismatch is h) = inr (is, h)
        back (no_type is h) = absurd h
        back (hidden is h) = absurd h.1
        back (again is h) = absurd h
        back (constant is h) = absurd h
    return_rules m None at r = chain (when_iff (is_some (returned_type rows c.member)) ((t : Ty) × Returns rows c.member t) (some_test (returned_type rows c.member) (Returns rows c.member) (returned_iff rows fit c.member)) (begins m base) at rule.ReturnForm r)
        (λ h. form h.1 (h.0, h.2), back)
      where
        back : StmtRule (statement.return m None) at r → (at ≡ begins m base) × (r ≡ rule.ReturnForm) × ((t : Ty) × Returns rows c.member t)
        back (form is h) = (h.0, is, h.1)
        back (mismatch is h) = absurd h
        back (no_type is h) = absurd h
        back (hidden is h) = absurd h.1
        back (again is h) = absurd h
        back (constant is h) = absurd h

    sync_rules : (m : A) (e : tree.Exp A) (body : statement.Stmts A) (at : ℕ) (r : Rule) → Has (own_stmt_notes begins rows number c base (statement.sync m e body)) (breaks at r) ↔ StmtRule (statement.sync m e body) at r
    unfolding own_stmt_notes
    sync_rules m e body at r = chain (unless_iff (is_class_type (type_of rows c e)) ((k : ClassKey) × HasType rows c e (class k)) (class_iff rows fit found c e) (begins (exp_mark e) (begins m base)) at rule.TypeMismatch r)
        (λ h. mismatch h.1 (h.0, λ k is. h.2 (k, is)), back)
      where
        back : StmtRule (statement.sync m e body) at r → (at ≡ begins (exp_mark e) (begins m base)) × (r ≡ rule.TypeMismatch) × (((k : ClassKey) × HasType rows c e (class k)) → ⊥)
        back (mismatch is h) = (h.0, is, λ k. h.1 k.0 k.1)
        back (no_type is h) = absurd h
        back (hidden is h) = absurd h.1
        back (again is h) = absurd h
        back (form is h) = absurd h
        back (constant is h) = absurd h

    quiet : (x : statement.Stmt A) (at : ℕ) (r : Rule) → (LocalNoType begins rows number c base x at → ⊥) → (LocalPrivate begins rows number c base x at → ⊥) → (StmtMismatches begins rows number c base x at → ⊥)
        → (Redeclared begins rows number c base x at → ⊥) → (ReturnForm begins rows number c base x at → ⊥) → (ConstantCondition begins rows number c base x at → ⊥) → Has [] (breaks at r) ↔ StmtRule x at r
    quiet x at r a b d f g i = none_broken x at r of
      where
        of : StmtRule x at r → ⊥
        of (no_type is h) = a h
        of (hidden is h) = b h
        of (mismatch is h) = d h
        of (again is h) = f h
        of (form is h) = g h
        of (constant is h) = i h

    own_rules : (x : statement.Stmt A) (at : ℕ) (r : Rule) → Has (own_stmt_notes begins rows number c base x) (breaks at r) ↔ StmtRule x at r
    unfolding own_stmt_notes
    own_rules (statement.local m f t w e) at r = local_rules m f t w e at r
    own_rules (statement.eval m e) at r = quiet (statement.eval m e) at r (λ h. h) (λ h. h.1) (λ h. h) (λ h. h) (λ h. h) (λ h. h)
    own_rules (statement.branch m e x other) at r = branch_rules m e x other at r
    own_rules (statement.loop m e x) at r = loop_rules m e x at r
    own_rules (statement.return m o) at r = return_rules m o at r
    own_rules (statement.block m body) at r = quiet (statement.block m body) at r (λ h. h) (λ h. h.1) (λ h. h) (λ h. h) (λ h. h) (λ h. h)
    own_rules (statement.sync m e body) at r = sync_rules m e body at r
    own_rules (statement.empty m) at r = quiet (statement.empty m) at r (λ h. h) (λ h. h.1) (λ h. h) (λ h. h) (λ h. h) (λ h. h)

    -- what a statement notes itself is what it breaks itself
    pub stmt_breaks : (x : statement.Stmt A) (at : ℕ) (r : Rule) → Has (own_stmt_notes begins rows number c base x) (breaks at r) ↔ StmtBreaks begins rows number c base x at r
    stmt_breaks x at r = chain (own_rules x at r) (one_rule x at r)

    -- references

    value_binds : (here place : ℕ) (t o : Option Ty) (at : ℕ) (d : Decl) → Has (value_return_notes rows here place t o) (refers at d) → ⊥
    value_binds here place t None at d (inl e) = cc
    value_binds here place t None at d (inr h) = h
    value_binds here place t (Some u) at d h = unless_binds_none (suits rows t (Some u)) place at rule.TypeMismatch d h

    local_binds : (m : A) (f : Bool) (t : tree.TypeName A) (w : tree.Word A) (e : tree.Exp A) (at : ℕ) (d : Decl) → Has (own_stmt_notes begins rows number c base (statement.local m f t w e)) (refers at d) ↔ TypeRefers begins rows c (begins m base) t at (one d)
    unfolding own_stmt_notes
    local_binds m f t w e at d = chain (has_append (reference_notes (type_references begins rows c (begins m base) t)) (name_notes m w ++ init_notes m f t w e) (refers at d)) (to, λ h. inl (types.1 h))
      where
        types : Has (reference_notes (type_references begins rows c (begins m base) t)) (refers at d) ↔ TypeRefers begins rows c (begins m base) t at (one d)
        types = type_binds begins rows c fit found (begins m base) t at d

        none : (Has (name_notes m w) (refers at d) ⊎ Has (init_notes m f t w e) (refers at d)) → ⊥
        none (inl h) = when_binds_none (is_some (last_named w.text (scope_of c).locals)) (begins w.mark (begins m base)) at rule.Redeclared d h
        none (inr h) = unless_binds_none (suits rows (type_of rows (in_own c (local_of c number f t w)) e) (written_type rows (scope_of c) t)) (begins (exp_mark e) (begins m base)) at rule.TypeMismatch d h

        to : (Has (reference_notes (type_references begins rows c (begins m base) t)) (refers at d) ⊎ Has (name_notes m w ++ init_notes m f t w e) (refers at d)) → TypeRefers begins rows c (begins m base) t at (one d)
        to (inl h) = types.0 h
        to (inr h) = absurd (none ((has_append (name_notes m w) (init_notes m f t w e) (refers at d)).0 h))

    condition_binds : (m : A) (e : tree.Exp A) (at : ℕ) (d : Decl) → Has (condition_notes begins rows number c base m e) (refers at d) → ⊥
    condition_binds m e at d h = unless_binds_none (is_ty boolean (type_of rows c e)) (value_at begins rows number c base m e) at rule.TypeMismatch d h

    loop_binds : (m : A) (e : tree.Exp A) (x : statement.Stmt A) (at : ℕ) (d : Decl) → Has (own_stmt_notes begins rows number c base (statement.loop m e x)) (refers at d) → ⊥
    unfolding own_stmt_notes
    loop_binds m e x at d h = of ((has_append (condition_notes begins rows number c base m e) (constant_notes m e) (refers at d)).0 h)
      where
        of : (Has (condition_notes begins rows number c base m e) (refers at d) ⊎ Has (constant_notes m e) (refers at d)) → ⊥
        of (inl g) = condition_binds m e at d g
        of (inr g) = when_binds_none (not (is_true_literal e) && is_constant rows c e) (begins (exp_mark e) (begins m base)) at rule.ConstantCondition d g

    return_binds : (m : A) (o : Option (tree.Exp A)) (at : ℕ) (d : Decl) → Has (own_stmt_notes begins rows number c base (statement.return m o)) (refers at d) → ⊥
    unfolding own_stmt_notes
    return_binds m (Some e) at d h = value_binds (begins m base) (begins (exp_mark e) (begins m base)) (type_of rows c e) (returned_type rows c.member) at d h
    return_binds m None at d h = when_binds_none (is_some (returned_type rows c.member)) (begins m base) at rule.ReturnForm d h

    -- what a statement's references are bound to is what is noted of them
    pub stmt_binds : (x : statement.Stmt A) (at : ℕ) (d : Decl) → Has (own_stmt_notes begins rows number c base x) (refers at d) ↔ StmtBindsItself begins rows number c base x at d
    unfolding own_stmt_notes
    stmt_binds (statement.local m f t w e) at d = local_binds m f t w e at d
    stmt_binds (statement.eval m e) at d = (λ h. h, λ h. h)
    stmt_binds (statement.branch m e x other) at d = (λ h. condition_binds m e at d h, λ h. absurd h)
    stmt_binds (statement.loop m e x) at d = (λ h. loop_binds m e x at d h, λ h. absurd h)
    stmt_binds (statement.return m o) at d = (λ h. return_binds m o at d h, λ h. absurd h)
    stmt_binds (statement.block m body) at d = (λ h. h, λ h. h)
    stmt_binds (statement.sync m e body) at d = (λ h. unless_binds_none (is_class_type (type_of rows c e)) (begins (exp_mark e) (begins m base)) at rule.TypeMismatch d h, λ h. absurd h)
    stmt_binds (statement.empty m) at d = (λ h. h, λ h. h)
