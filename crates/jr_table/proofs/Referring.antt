-- References of an expression itself: those that are computed are those of the relation, and each that finds one declaration is
-- noted.
use Rattle.std.proofs.Common.{◌≡◌, ◌≢◌, ℕ, List, [], ◌∷◌, ◌++◌, Option, Some, None, Bool, true, false, refl, sym, ap, subst, ◌∙◌, inl, inr}
use Rattle.std.specs.Prelude.{◌⊎◌, ◌↔◌}
use Rattle.jr_ast.specs.Tree as tree
use Rattle.jr_table.specs.Keys.{ClassKey, Ty, class}
use Rattle.jr_table.specs.Decls.{Decl, class_decl}
use Rattle.jr_table.specs.Rows.{Row}
use Rattle.jr_table.specs.Conditions.{AreRows}
use Rattle.jr_table.specs.Found.{Found, one, nothing, many, not_accessible, from_static}
use Rattle.jr_table.specs.Lookup.{FindsVariable, find_variable, FindsTypeNamed, find_type_named, FindsTypeOf, find_type_of, FindsLeft}
use Rattle.jr_table.specs.Lookup as lookup
use Rattle.jr_table.specs.LookupLaws.{Decided, KeysAreFound}
use Rattle.jr_table.specs.Context.{Context, scope_of, WritesType, IsSuperclass}
use Rattle.jr_table.specs.Binding.{HasType, IsClassName, HaveTypes, IsOn, On, FindsIn, FieldFinds, SuperFieldFinds, CallFinds, SuperCallFinds, CreationFinds, TargetFinds, Role, value, left, Sought, variable, type, word_at, TypeRefers, NameFinds, DottedFinds, Refers}
use Rattle.jr_table.specs.Binding as sought
use Rattle.jr_table.specs.Meanings.{class_found, find_in, find_left, field_found, call_found, ctor_found, own_superclass, created_class, type_of, class_name_of, target_found, types_of, class_on, on_class, Reference, reference, InReferences, type_references, name_reference, left_reference, dotted_reference, references}
use Rattle.jr_table.specs.Meanings as meanings
use Rattle.jr_table.specs.Notes.{Note, refers, breaks, Has, missing_rule, found_note, reference_notes}
use Rattle.jr_table.proofs.RowTypes.{chain, class_found_iff}
use Rattle.jr_table.proofs.Typing.{in_iff, left_iff, left_of_iff, named}
use Rattle.jr_table.proofs.ReferenceLaws.{field_finds, super_field_finds, call_finds, super_call_finds, creation_finds}

first_iff : (here : ℕ) (s : Sought) (g : Found) (Finds : Found → Type 0) → Decided g Finds → (rest : List Reference) (Rest : ℕ → Sought → Found → Type 0)
    → ((at : ℕ) (q : Sought) (f : Found) → InReferences rest at q f ↔ Rest at q f)
    → (at : ℕ) (q : Sought) (f : Found) → InReferences (reference here s g ∷ rest) at q f ↔ (((at ≡ here) × (q ≡ s) × Finds f) ⊎ Rest at q f)
first_iff here s g Finds is rest Rest others at q f = (to, back)
  where
    to : (((at ≡ here) × (q ≡ s) × (g ≡ f)) ⊎ InReferences rest at q f) → ((at ≡ here) × (q ≡ s) × Finds f) ⊎ Rest at q f
    to (inl h) = inl (h.0, h.1, (is f).0 h.2)
    to (inr h) = inr ((others at q f).0 h)

    back : (((at ≡ here) × (q ≡ s) × Finds f) ⊎ Rest at q f) → ((at ≡ here) × (q ≡ s) × (g ≡ f)) ⊎ InReferences rest at q f
    back (inl h) = inl (h.0, h.1, (is f).1 h.2)
    back (inr h) = inr ((others at q f).1 h)

abbrev Two : Type 0 → Type 0 → Type 0
Two Q R = Q × R

nest : {X P Q R : Type 0} → (X ↔ (P × Q × R)) → X ↔ (P × Two Q R)
nest f = (λ x. let h = f.0 x in (h.0, (h.1, h.2)), λ h. f.1 (h.0, h.1.0, h.1.1))

pub none_iff : (at : ℕ) (q : Sought) (f : Found) → InReferences [] at q f ↔ ⊥
none_iff at q f = (λ h. h, λ h. h)

pub only_iff : (here : ℕ) (s : Sought) (g : Found) (Finds : Found → Type 0) → Decided g Finds
    → (at : ℕ) (q : Sought) (f : Found) → InReferences (reference here s g ∷ []) at q f ↔ ((at ≡ here) × (q ≡ s) × Finds f)
only_iff here s g Finds is at q f = chain (first_iff here s g Finds is [] (λ a b d. ⊥) none_iff at q f) (to, λ h. inl h)
  where
    to : (((at ≡ here) × (q ≡ s) × Finds f) ⊎ ⊥) → (at ≡ here) × (q ≡ s) × Finds f
    to (inl h) = h
    to (inr h) = absurd h

module _ (rows : List Row) (fit : AreRows rows) (found : KeysAreFound rows) (c : Context) where
  module _ {A : Type 0} (begins : A → ℕ → ℕ) where
    abbrev Within : tree.Word A → tree.Word A → Found → Type 0
    Within o w g = FindsIn (λ k. FindsTypeNamed rows (scope_of c) o.text (one (class_decl k))) (λ k h. FindsTypeOf rows (scope_of c) k w.text h) g

    within : (o w : tree.Word A) → Decided (find_in (class_found (find_type_named rows (scope_of c) o.text)) (λ k. find_type_of rows (scope_of c) k w.text)) (Within o w)
    within o w = in_iff (class_found (find_type_named rows (scope_of c) o.text)) (λ k. find_type_of rows (scope_of c) k w.text) (λ k. FindsTypeNamed rows (scope_of c) o.text (one (class_decl k)))
        (λ k h. FindsTypeOf rows (scope_of c) k w.text h)
        (λ k. chain (class_found_iff (find_type_named rows (scope_of c) o.text) k) (found.type_named (scope_of c) o.text (one (class_decl k)))) (λ k. found.type_of (scope_of c) k w.text)

    pub type_iff : (base : ℕ) (t : tree.TypeName A) (at : ℕ) (q : Sought) (f : Found) → InReferences (type_references begins rows c base t) at q f ↔ ((q ≡ type) × TypeRefers begins rows c base t at f)
    type_iff base (tree.int m) at q f = (λ h. absurd h, λ h. h.1)
    type_iff base (tree.boolean m) at q f = (λ h. absurd h, λ h. h.1)
    type_iff base (tree.named m None w) at q f = chain (only_iff (word_at begins m base w) type (find_type_named rows (scope_of c) w.text) (FindsTypeNamed rows (scope_of c) w.text) (found.type_named (scope_of c) w.text) at q f)
        (λ h. (h.1, (h.0, h.2)), λ h. (h.1.0, h.0, h.1.1))
    type_iff base (tree.named m (Some o) w) at q f = chain
        (first_iff (word_at begins m base o) type (find_type_named rows (scope_of c) o.text) (FindsTypeNamed rows (scope_of c) o.text) (found.type_named (scope_of c) o.text)
        (reference (word_at begins m base w) type (find_in (class_found (find_type_named rows (scope_of c) o.text)) (λ k. find_type_of rows (scope_of c) k w.text)) ∷ [])
        (λ a p g. (a ≡ word_at begins m base w) × (p ≡ type) × Within o w g)
        (only_iff (word_at begins m base w) type (find_in (class_found (find_type_named rows (scope_of c) o.text)) (λ k. find_type_of rows (scope_of c) k w.text)) (Within o w) (within o w)) at q f)
        (to, back)
      where
        to : (((at ≡ word_at begins m base o) × (q ≡ type) × FindsTypeNamed rows (scope_of c) o.text f) ⊎ ((at ≡ word_at begins m base w) × (q ≡ type) × Within o w f)) → (q ≡ type) × TypeRefers begins rows c base (tree.named m (Some o) w) at f
        to (inl h) = (h.1, inl (h.0, h.2))
        to (inr h) = (h.1, inr (h.0, h.2))

        back : ((q ≡ type) × TypeRefers begins rows c base (tree.named m (Some o) w) at f) → ((at ≡ word_at begins m base o) × (q ≡ type) × FindsTypeNamed rows (scope_of c) o.text f) ⊎ ((at ≡ word_at begins m base w) × (q ≡ type) × Within o w f)
        back (s, inl h) = inl (h.0, s, h.1)
        back (s, inr h) = inr (h.0, s, h.1)

    name_iff : (role : Role) (here : ℕ) (name : List ℕ) (at : ℕ) (q : Sought) (f : Found) → InReferences (name_reference begins rows c role here name ∷ []) at q f ↔ ((at ≡ here) × NameFinds begins rows c role name q f)
    name_iff left here name at q f = nest (only_iff here type (find_left rows (scope_of c) name) (FindsLeft rows (scope_of c) name) (left_iff rows fit found c name) at q f)
    name_iff value here name at q f = nest (only_iff here variable (find_variable rows (scope_of c) name) (FindsVariable rows (scope_of c) name) (found.variable (scope_of c) name) at q f)
    name_iff sought.statement here name at q f = nest (only_iff here variable (find_variable rows (scope_of c) name) (FindsVariable rows (scope_of c) name) (found.variable (scope_of c) name) at q f)

    left_reference_iff : (e : tree.Exp A) (here : ℕ) (name : List ℕ) (o : Option ClassKey) → ((k : ClassKey) → (o ≡ Some k) ↔ IsClassName rows c e k)
        → (at : ℕ) (q : Sought) (f : Found) → InReferences (left_reference begins rows c here o (class_on rows c e) name ∷ []) at q f ↔ ((at ≡ here) × DottedFinds begins rows c left e name q f)
    left_reference_iff e here name None is at q f = chain (only_iff here variable (field_found rows c (class_on rows c e) name) (FieldFinds rows c e name) (field_finds rows fit found c e name) at q f) (to, back)
      where
        to : ((at ≡ here) × (q ≡ variable) × FieldFinds rows c e name f) → (at ≡ here) × DottedFinds begins rows c left e name q f
        to h = (h.0, inr (λ k n. let x = (is k).1 n in absurd cc, h.1, h.2))

        back : ((at ≡ here) × DottedFinds begins rows c left e name q f) → (at ≡ here) × (q ≡ variable) × FieldFinds rows c e name f
        back (a, inl h) = let x = (is h.0).1 h.1 in absurd cc
        back (a, inr h) = (a, h.1, h.2)
    left_reference_iff e here name (Some o) is at q f = chain (only_iff here type (meanings.find_left_of rows (scope_of c) o name) _ (left_of_iff rows fit found c o name) at q f) (to, back)
      where
        to : ((at ≡ here) × (q ≡ type) × lookup.FindsLeftOf rows (scope_of c) o name f) → (at ≡ here) × DottedFinds begins rows c left e name q f
        to h = (h.0, inl (o, (is o).0 refl, h.1, h.2))

        back : ((at ≡ here) × DottedFinds begins rows c left e name q f) → (at ≡ here) × (q ≡ type) × lookup.FindsLeftOf rows (scope_of c) o name f
        back (a, inl h) = let x = (is h.0).1 h.1 in let same : o ≡ h.0 = cc in (a, h.2, subst (λ k. lookup.FindsLeftOf rows (scope_of c) k name f) (sym same) h.3)
        back (a, inr h) = absurd (h.0 o ((is o).0 refl))

    dotted_iff : (role : Role) (here : ℕ) (e : tree.Exp A) (name : List ℕ) (at : ℕ) (q : Sought) (f : Found) → InReferences (dotted_reference begins rows c role here e name ∷ []) at q f ↔ ((at ≡ here) × DottedFinds begins rows c role e name q f)
    dotted_iff left here e name at q f = left_reference_iff e here name (class_name_of rows c e) (named rows fit found c e) at q f
    dotted_iff value here e name at q f = nest (only_iff here variable (field_found rows c (class_on rows c e) name) (FieldFinds rows c e name) (field_finds rows fit found c e name) at q f)
    dotted_iff sought.statement here e name at q f = nest (only_iff here variable (field_found rows c (class_on rows c e) name) (FieldFinds rows c e name) (field_finds rows fit found c e name) at q f)

    -- the references that are computed are those of the expression
    pub references_iff : (role : Role) (base : ℕ) (e : tree.Exp A) (at : ℕ) (q : Sought) (f : Found) → InReferences (references begins rows c role base e) at q f ↔ Refers begins rows c role base e at q f
    references_iff role base (tree.number m n) at q f = none_iff at q f
    references_iff role base (tree.truth m b) at q f = none_iff at q f
    references_iff role base (tree.null m) at q f = none_iff at q f
    references_iff role base (tree.string m s) at q f = none_iff at q f
    references_iff role base (tree.this m) at q f = none_iff at q f
    references_iff role base (tree.name m w) at q f = name_iff role (word_at begins m base w) w.text at q f
    references_iff role base (tree.field m e w) at q f = dotted_iff role (word_at begins m base w) e w.text at q f
    references_iff role base (tree.super_field m w) at q f = only_iff (word_at begins m base w) variable (field_found rows c (own_superclass rows c) w.text) (SuperFieldFinds rows c w.text) (super_field_finds rows fit found c w.text) at q f
    references_iff role base (tree.class_literal m of) at q f = type_iff (begins m base) of at q f
    references_iff role base (tree.call m to w args) at q f = only_iff (word_at begins m base w) sought.method (target_found rows c to w.text (types_of rows c args)) (CallFinds rows c to w.text args) (call_finds rows fit found c to w.text args) at q f
    references_iff role base (tree.super_call m w args) at q f = only_iff (word_at begins m base w) sought.method (call_found rows c (own_superclass rows c) w.text (types_of rows c args)) (SuperCallFinds rows c w.text args) (super_call_finds rows fit found c w.text args) at q f
    references_iff role base (tree.create m of args) at q f = first_iff (begins m base) sought.method (ctor_found rows c (created_class rows c of) (types_of rows c args)) (CreationFinds rows c of args) (creation_finds rows fit found c of args)
        (type_references begins rows c (begins m base) of) (λ a p g. (p ≡ type) × TypeRefers begins rows c (begins m base) of a g) (type_iff (begins m base) of) at q f
    references_iff role base (tree.paren m e) at q f = none_iff at q f
    references_iff role base (tree.cast m of e) at q f = type_iff (begins m base) of at q f
    references_iff role base (tree.unary m o e) at q f = none_iff at q f
    references_iff role base (tree.bump m o e) at q f = none_iff at q f
    references_iff role base (tree.binary m o x y) at q f = none_iff at q f
    references_iff role base (tree.assign m x y) at q f = none_iff at q f
    references_iff role base (tree.compound m o x y) at q f = none_iff at q f
