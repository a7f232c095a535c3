-- Rules that an expression breaks itself: what is noted is what the relations say, list by list.
use Rattle.std.proofs.Common.{◌≡◌, ◌≢◌, ℕ, List, [], ◌∷◌, ◌++◌, Option, Some, None, Bool, true, false, refl, sym, ap, subst, ◌∙◌, inl, inr}
use Rattle.std.specs.Prelude.{◌⊎◌, ◌↔◌}
use Rattle.jr_ast.specs.Tree as tree
use Rattle.jr_ast.specs.Marks.{exp_mark}
use Rattle.jr_table.specs.Keys.{Ty, int}
use Rattle.jr_table.specs.Decls.{Decl}
use Rattle.jr_table.specs.Rows.{Row}
use Rattle.jr_table.specs.Conditions.{AreRows}
use Rattle.jr_table.specs.LookupLaws.{KeysAreFound}
use Rattle.jr_table.specs.Context.{Context, scope_of}
use Rattle.jr_table.specs.Binding.{HasType, Role}
use Rattle.jr_table.specs.ExpressionRules.{NamesObject, Mismatches, Operands, BadCast, Suits, Takes, TakesOne, Both, Casts}
use Rattle.jr_table.specs.Meanings.{type_of, written_type}
use Rattle.jr_table.specs.Notes.{Note, refers, breaks, Has, when, unless, is_ty, are_ty, takes, takes_one, suits, comparable, object_notes, operand_notes}
use Rattle.jr_table.proofs.RowTypes.{chain}
use Rattle.jr_table.proofs.TypeTests.{takes_iff, takes_one_iff, int_iff, both_iff, assigned_iff, casts_iff}
use Rattle.jr_table.specs.declared.rules.Rule.{Rule}
use Rattle.jr_table.specs.declared.rules.Rule.TheVariants as rule

pub has_append : (xs ys : List Note) (n : Note) → Has (xs ++ ys) n ↔ (Has xs n ⊎ Has ys n)
has_append [] ys n = (λ h. inr h, back)
  where
    back : (⊥ ⊎ Has ys n) → Has ys n
    back (inl h) = absurd h
    back (inr h) = h
has_append (x ∷ xs) ys n = (to (has_append xs ys n), back (has_append xs ys n))
  where
    later : (Has xs n ⊎ Has ys n) → ((x ≡ n) ⊎ Has xs n) ⊎ Has ys n
    later (inl k) = inl (inr k)
    later (inr k) = inr k

    to : (Has (xs ++ ys) n ↔ (Has xs n ⊎ Has ys n)) → ((x ≡ n) ⊎ Has (xs ++ ys) n) → ((x ≡ n) ⊎ Has xs n) ⊎ Has ys n
    to again (inl e) = inl (inl e)
    to again (inr h) = later (again.0 h)

    back : (Has (xs ++ ys) n ↔ (Has xs n ⊎ Has ys n)) → (((x ≡ n) ⊎ Has xs n) ⊎ Has ys n) → (x ≡ n) ⊎ Has (xs ++ ys) n
    back again (inl (inl e)) = inl e
    back again (inl (inr h)) = inr (again.1 (inl h))
    back again (inr h) = inr (again.1 (inr h))

-- a note in two logs, one behind the other
pub two : (xs ys : List Note) (n : Note) (P Q : Type 0) → (Has xs n ↔ P) → (Has ys n ↔ Q) → Has (xs ++ ys) n ↔ (P ⊎ Q)
two xs ys n P Q f g = chain (has_append xs ys n) (to, back)
  where
    to : (Has xs n ⊎ Has ys n) → P ⊎ Q
    to (inl h) = inl (f.0 h)
    to (inr h) = inr (g.0 h)

    back : (P ⊎ Q) → Has xs n ⊎ Has ys n
    back (inl h) = inl (f.1 h)
    back (inr h) = inr (g.1 h)

-- one note of a broken rule
pub one_iff : (here at : ℕ) (q r : Rule) → Has (breaks here q ∷ []) (breaks at r) ↔ ((at ≡ here) × (r ≡ q))
one_iff here at q r = (to, λ h. inl (λ i. breaks (sym h.0 i) (sym h.1 i)))
  where
    to : ((breaks here q ≡ breaks at r) ⊎ ⊥) → (at ≡ here) × (r ≡ q)
    to (inl e) = (let i : here ≡ at = cc in sym i, let i : q ≡ r = cc in sym i)
    to (inr h) = absurd h

pub unless_iff : (b : Bool) (P : Type 0) → ((b ≡ true) ↔ P) → (here at : ℕ) (q r : Rule) → Has (unless b (breaks here q)) (breaks at r) ↔ ((at ≡ here) × (r ≡ q) × (P → ⊥))
unless_iff true P f here at q r = (λ h. absurd h, λ h. h.2 (f.0 refl))
unless_iff false P f here at q r = chain (one_iff here at q r) (λ h. (h.0, h.1, λ p. let x = f.1 p in absurd cc), λ h. (h.0, h.1))

pub when_iff : (b : Bool) (P : Type 0) → ((b ≡ true) ↔ P) → (here at : ℕ) (q r : Rule) → Has (when b (breaks here q)) (breaks at r) ↔ ((at ≡ here) × (r ≡ q) × P)
when_iff true P f here at q r = chain (one_iff here at q r) (λ h. (h.0, h.1, f.0 refl), λ h. (h.0, h.1))
when_iff false P f here at q r = (λ h. absurd h, λ h. let x = f.1 h.2 in absurd cc)

-- what notes no reference
pub unless_binds_none : (b : Bool) (here at : ℕ) (q : Rule) (d : Decl) → Has (unless b (breaks here q)) (refers at d) → ⊥
unless_binds_none true here at q d h = h
unless_binds_none false here at q d (inl e) = cc
unless_binds_none false here at q d (inr h) = h

pub when_binds_none : (b : Bool) (here at : ℕ) (q : Rule) (d : Decl) → Has (when b (breaks here q)) (refers at d) → ⊥
when_binds_none false here at q d h = h
when_binds_none true here at q d (inl e) = cc
when_binds_none true here at q d (inr h) = h

-- a rule with what breaks it at a place
pub rule_when : (b : Bool) (P : Type 0) → ((b ≡ true) ↔ P) → (here at : ℕ) (q r : Rule) → Has (when b (breaks here q)) (breaks at r) ↔ ((r ≡ q) × ((at ≡ here) × P))
rule_when b P f here at q r = chain (when_iff b P f here at q r) (λ h. (h.1, (h.0, h.2)), λ h. (h.1.0, h.0, h.1.1))

pub no_note : (at : ℕ) (r : Rule) (P : Type 0) → (P → ⊥) → Has [] (breaks at r) ↔ P
no_note at r P none = (λ h. absurd h, λ p. none p)

module _ (rows : List Row) (fit : AreRows rows) (found : KeysAreFound rows) (c : Context) where
  module _ {A : Type 0} (begins : A → ℕ → ℕ) (role : Role) (base : ℕ) where
    -- `this` and `super` where there is no object
    pub objects : (e : tree.Exp A) (at : ℕ) (r : Rule) → Has (object_notes begins rows c role base e) (breaks at r) ↔ (NamesObject begins rows c role base e at × (r ≡ rule.StaticContext) × (c.is_static ≡ true))
    objects (tree.this m) at r = when_iff c.is_static (c.is_static ≡ true) (λ h. h, λ h. h) (begins m base) at rule.StaticContext r
    objects (tree.super_field m w) at r = when_iff c.is_static (c.is_static ≡ true) (λ h. h, λ h. h) (begins m base) at rule.StaticContext r
    objects (tree.super_call m w args) at r = when_iff c.is_static (c.is_static ≡ true) (λ h. h, λ h. h) (begins m base) at rule.StaticContext r
    objects (tree.number m n) at r = no_note at r _ (λ h. h.0)
    objects (tree.truth m b) at r = no_note at r _ (λ h. h.0)
    objects (tree.null m) at r = no_note at r _ (λ h. h.0)
    objects (tree.string m s) at r = no_note at r _ (λ h. h.0)
    objects (tree.name m w) at r = no_note at r _ (λ h. h.0)
    objects (tree.field m e w) at r = no_note at r _ (λ h. h.0)
    objects (tree.class_literal m t) at r = no_note at r _ (λ h. h.0)
    objects (tree.call m to w args) at r = no_note at r _ (λ h. h.0)
    objects (tree.create m t args) at r = no_note at r _ (λ h. h.0)
    objects (tree.paren m e) at r = no_note at r _ (λ h. h.0)
    objects (tree.cast m t e) at r = no_note at r _ (λ h. h.0)
    objects (tree.unary m o e) at r = no_note at r _ (λ h. h.0)
    objects (tree.bump m o e) at r = no_note at r _ (λ h. h.0)
    objects (tree.binary m o x y) at r = no_note at r _ (λ h. h.0)
    objects (tree.assign m x y) at r = no_note at r _ (λ h. h.0)
    objects (tree.compound m o x y) at r = no_note at r _ (λ h. h.0)

    -- operators, assignments and casts
    abbrev pub OperandRules : tree.Exp A → ℕ → Rule → Type 0
    OperandRules e at r = ((r ≡ rule.TypeMismatch) × Mismatches begins rows c role base e at) ⊎ (((r ≡ rule.Operands) × Operands begins rows c role base e at) ⊎ ((r ≡ rule.BadCast) × BadCast begins rows c role base e at))

    no_operands : (e : tree.Exp A) (at : ℕ) (r : Rule) → (Mismatches begins rows c role base e at → ⊥) → (Operands begins rows c role base e at → ⊥) → (BadCast begins rows c role base e at → ⊥)
        → Has [] (breaks at r) ↔ OperandRules e at r
    no_operands e at r f g h = (λ x. absurd x, back)
      where
        back : OperandRules e at r → ⊥
        back (inl x) = f x.1
        back (inr (inl x)) = g x.1
        back (inr (inr x)) = h x.1

    abbrev Fails : (at here : ℕ) → Type 0 → Type 0
    Fails at here P = (at ≡ here) × (P → ⊥)

    operator : (b : Bool) (P : Type 0) → ((b ≡ true) ↔ P) → (here at : ℕ) (r : Rule) (Other Third : Type 0) → (Other → ⊥) → (Third → ⊥)
        → Has (unless b (breaks here rule.Operands)) (breaks at r) ↔ (((r ≡ rule.TypeMismatch) × Other) ⊎ (((r ≡ rule.Operands) × Fails at here P) ⊎ ((r ≡ rule.BadCast) × Third)))
    operator b P f here at r Other Third other third = chain (unless_iff b P f here at rule.Operands r) (λ h. inr (inl (h.1, (h.0, h.2))), back)
      where
        back : (((r ≡ rule.TypeMismatch) × Other) ⊎ (((r ≡ rule.Operands) × Fails at here P) ⊎ ((r ≡ rule.BadCast) × Third))) → (at ≡ here) × (r ≡ rule.Operands) × (P → ⊥)
        back (inl h) = absurd (other h.1)
        back (inr (inl h)) = (h.1.0, h.0, h.1.1)
        back (inr (inr h)) = absurd (third h.1)

    pub operands : (e : tree.Exp A) (at : ℕ) (r : Rule) → Has (operand_notes begins rows c role base e) (breaks at r) ↔ OperandRules e at r
    operands (tree.assign m x y) at r = chain (unless_iff (suits rows (type_of rows c y) (type_of rows c x)) (Suits rows c y (HasType rows c x)) (assigned_iff rows fit found c x y) (begins (exp_mark y) (begins m base)) at rule.TypeMismatch r) (λ h. inl (h.1, (h.0, h.2)), back)
      where
        back : OperandRules (tree.assign m x y) at r → (at ≡ begins (exp_mark y) (begins m base)) × (r ≡ rule.TypeMismatch) × (Suits rows c y (HasType rows c x) → ⊥)
        back (inl h) = (h.1.0, h.0, h.1.1)
        back (inr (inl h)) = absurd h.1
        back (inr (inr h)) = absurd h.1
    operands (tree.cast m of e) at r = chain (unless_iff (comparable rows (written_type rows (scope_of c) of) (type_of rows c e)) (Casts rows c of e) (casts_iff rows fit found c of e) (begins m base) at rule.BadCast r) (λ h. inr (inr (h.1, (h.0, h.2))), back)
      where
        back : OperandRules (tree.cast m of e) at r → (at ≡ begins m base) × (r ≡ rule.BadCast) × (Casts rows c of e → ⊥)
        back (inl h) = absurd h.1
        back (inr (inl h)) = absurd h.1
        back (inr (inr h)) = (h.1.0, h.0, h.1.1)
    operands (tree.unary m o e) at r = operator (takes_one o (type_of rows c e)) (TakesOne rows c o e) (takes_one_iff rows fit found c o e) (begins m base) at r ⊥ ⊥ (λ h. h) (λ h. h)
    operands (tree.bump m o e) at r = operator (is_ty int (type_of rows c e)) (HasType rows c e int) (int_iff rows fit found c e) (begins m base) at r ⊥ ⊥ (λ h. h) (λ h. h)
    operands (tree.binary m o x y) at r = operator (takes rows o (type_of rows c x) (type_of rows c y)) (Takes rows c o x y) (takes_iff rows fit found c o x y) (begins m base) at r ⊥ ⊥ (λ h. h) (λ h. h)
    operands (tree.compound m o x y) at r = operator (are_ty int (type_of rows c x) (type_of rows c y)) (Both rows c int x y) (both_iff rows fit found c int x y) (begins m base) at r ⊥ ⊥ (λ h. h) (λ h. h)
    operands (tree.number m n) at r = no_operands (tree.number m n) at r (λ h. h) (λ h. h) (λ h. h)
    operands (tree.truth m b) at r = no_operands (tree.truth m b) at r (λ h. h) (λ h. h) (λ h. h)
    operands (tree.null m) at r = no_operands (tree.null m) at r (λ h. h) (λ h. h) (λ h. h)
    operands (tree.string m s) at r = no_operands (tree.string m s) at r (λ h. h) (λ h. h) (λ h. h)
    operands (tree.this m) at r = no_operands (tree.this m) at r (λ h. h) (λ h. h) (λ h. h)
    operands (tree.class_literal m t) at r = no_operands (tree.class_literal m t) at r (λ h. h) (λ h. h) (λ h. h)
    operands (tree.name m w) at r = no_operands (tree.name m w) at r (λ h. h) (λ h. h) (λ h. h)
    operands (tree.field m e w) at r = no_operands (tree.field m e w) at r (λ h. h) (λ h. h) (λ h. h)
    operands (tree.super_field m w) at r = no_operands (tree.super_field m w) at r (λ h. h) (λ h. h) (λ h. h)
    operands (tree.call m to w args) at r = no_operands (tree.call m to w args) at r (λ h. h) (λ h. h) (λ h. h)
    operands (tree.super_call m w args) at r = no_operands (tree.super_call m w args) at r (λ h. h) (λ h. h) (λ h. h)
    operands (tree.create m t args) at r = no_operands (tree.create m t args) at r (λ h. h) (λ h. h) (λ h. h)
    operands (tree.paren m e) at r = no_operands (tree.paren m e) at r (λ h. h) (λ h. h) (λ h. h)
