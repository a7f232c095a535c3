-- Notes on types' names: in a body, and in a declaration, where nothing that is found is no note.
use Rattle.std.proofs.Common.{◌≡◌, ℕ, List, [], ◌∷◌, Some, None, refl, sym, ap, subst, inl, inr}
use Rattle.std.specs.Prelude.{◌⊎◌, ◌↔◌}
use Rattle.jr_ast.specs.Tree as tree
use Rattle.jr_table.specs.declared.answers.Answer.TheVariants as number
use Rattle.jr_table.specs.Keys.{ClassKey}
use Rattle.jr_table.specs.Decls.{Decl}
use Rattle.jr_table.specs.Rows.{Row}
use Rattle.jr_table.specs.Conditions.{AreRows}
use Rattle.jr_table.specs.Found.{Found, one, nothing, many, not_accessible, from_static}
use Rattle.jr_table.specs.Scope.{Scope}
use Rattle.jr_table.specs.Lookup.{FindsTypeNamed, FindsTypeOf}
use Rattle.jr_table.specs.LookupLaws.{KeysAreFound}
use Rattle.jr_table.specs.Context.{Context, scope_of}
use Rattle.jr_table.specs.Binding.{FindsIn, Sought, variable, type, method, TypeRefers}
use Rattle.jr_table.specs.Meanings.{Reference, InReferences, type_references}
use Rattle.jr_table.specs.Notes.{refers, breaks, Has, reference_notes}
use Rattle.jr_table.specs.HeadNotes.{declared_note, declared_notes}
use Rattle.jr_table.proofs.RowTypes.{chain}
use Rattle.jr_table.proofs.Breaking.{has_append, one_iff}
use Rattle.jr_table.proofs.Referring.{type_iff}
use Rattle.jr_table.proofs.BreakingReferences.{references_break, references_bind, IsRuleOf}
use Rattle.jr_table.specs.declared.rules.Rule.{Rule}
use Rattle.jr_table.specs.declared.rules.Rule.TheVariants as rule

-- what a type's name may find: never several, nor what wants an object
abbrev pub IsTypeAnswer : Found → Type 0
IsTypeAnswer (one d) = Unit {0}
IsTypeAnswer nothing = Unit {0}
IsTypeAnswer (not_accessible d) = Unit {0}
IsTypeAnswer (many d e) = ⊥
IsTypeAnswer (from_static d) = ⊥

module _ (rows : List Row) (s : Scope) where
  named_answer : (name : List ℕ) (f : Found) → FindsTypeNamed rows s name f → IsTypeAnswer f
  named_answer name (one d) h = tt
  named_answer name nothing h = tt
  named_answer name (not_accessible d) h = tt
  named_answer name (many d e) (number.One j, finds, shows) = shows
  named_answer name (many d e) (number.Nothing, finds, shows) = shows
  named_answer name (many d e) (number.Many j k, finds, shows) = finds
  named_answer name (many d e) (number.NotAccessible j, finds, shows) = shows
  named_answer name (many d e) (number.FromStatic j, finds, shows) = shows
  named_answer name (from_static d) (number.One j, finds, shows) = shows
  named_answer name (from_static d) (number.Nothing, finds, shows) = shows
  named_answer name (from_static d) (number.Many j k, finds, shows) = shows
  named_answer name (from_static d) (number.NotAccessible j, finds, shows) = shows
  named_answer name (from_static d) (number.FromStatic j, finds, shows) = finds

  member_answer : (of : ClassKey) (name : List ℕ) (f : Found) → FindsTypeOf rows s of name f → IsTypeAnswer f
  member_answer of name (one d) h = tt
  member_answer of name nothing h = tt
  member_answer of name (not_accessible d) h = tt
  member_answer of name (many d e) (number.One j, finds, shows) = shows
  member_answer of name (many d e) (number.Nothing, finds, shows) = shows
  member_answer of name (many d e) (number.Many j k, finds, shows) = finds
  member_answer of name (many d e) (number.NotAccessible j, finds, shows) = shows
  member_answer of name (many d e) (number.FromStatic j, finds, shows) = shows
  member_answer of name (from_static d) (number.One j, finds, shows) = shows
  member_answer of name (from_static d) (number.Nothing, finds, shows) = shows
  member_answer of name (from_static d) (number.Many j k, finds, shows) = shows
  member_answer of name (from_static d) (number.NotAccessible j, finds, shows) = shows
  member_answer of name (from_static d) (number.FromStatic j, finds, shows) = finds

in_answer : (Class : ClassKey → Type 0) (Finds : ClassKey → Found → Type 0) → ((k : ClassKey) (f : Found) → Finds k f → IsTypeAnswer f) → (f : Found) → FindsIn Class Finds f → IsTypeAnswer f
in_answer Class Finds each f (inl (k, is, h)) = each k f h
in_answer Class Finds each f (inr (none, e)) = subst IsTypeAnswer (sym e) tt

module _ {A : Type 0} (begins : A → ℕ → ℕ) (rows : List Row) (c : Context) where
  pub type_answer : (base : ℕ) (t : tree.TypeName A) (at : ℕ) (f : Found) → TypeRefers begins rows c base t at f → IsTypeAnswer f
  type_answer base (tree.int m) at f h = absurd h
  type_answer base (tree.boolean m) at f h = absurd h
  type_answer base (tree.named m None w) at f h = named_answer rows (scope_of c) w.text f h.1
  type_answer base (tree.named m (Some o) w) at f (inl h) = named_answer rows (scope_of c) o.text f h.1
  type_answer base (tree.named m (Some o) w) at f (inr h) = in_answer _ (λ k g. FindsTypeOf rows (scope_of c) k w.text g) (λ k g. member_answer rows (scope_of c) k w.text g) f h.1

  module _ (fit : AreRows rows) (found : KeysAreFound rows) (base : ℕ) (t : tree.TypeName A) where
    -- a type in a body: what isn't found, and what isn't accessible
    abbrev pub TypeRules : (at : ℕ) → Rule → Type 0
    TypeRules at r = ((r ≡ rule.NoType) × TypeRefers begins rows c base t at nothing) ⊎ ((r ≡ rule.Private) × ((d : Decl) × TypeRefers begins rows c base t at (not_accessible d)))

    abbrev Refer : ℕ → Sought → Found → Type 0
    Refer at q f = (q ≡ type) × TypeRefers begins rows c base t at f

    pub type_breaks : (at : ℕ) (r : Rule) → Has (reference_notes (type_references begins rows c base t)) (breaks at r) ↔ TypeRules at r
    type_breaks at r = chain (references_break (type_references begins rows c base t) Refer (λ a q f. type_iff rows fit found c begins base t a q f) at r) (λ h. to h.0 h.1 h.2 h.3, back)
      where
        to : (q : Sought) (f : Found) → Refer at q f → IsRuleOf q f r → TypeRules at r
        to q (one d) h is = absurd is
        to variable nothing h is = let e = h.0 in absurd cc
        to type nothing h is = inl (is, h.1)
        to method nothing h is = let e = h.0 in absurd cc
        to q (many d e) h is = absurd (type_answer base t at (many d e) h.1)
        to q (not_accessible d) h is = inr (is, (d, h.1))
        to q (from_static d) h is = absurd (type_answer base t at (from_static d) h.1)

        back : TypeRules at r → (q : Sought) × (f : Found) × Refer at q f × IsRuleOf q f r
        back (inl (e, h)) = (type, nothing, (refl, h), e)
        back (inr (e, (d, h))) = (type, not_accessible d, (refl, h), e)

    pub type_binds : (at : ℕ) (d : Decl) → Has (reference_notes (type_references begins rows c base t)) (refers at d) ↔ TypeRefers begins rows c base t at (one d)
    type_binds at d = chain (references_bind (type_references begins rows c base t) Refer (λ a q f. type_iff rows fit found c begins base t a q f) at d) (λ h. h.1.1, λ h. (type, (refl, h)))

-- types of a declaration

declared_break_one : (here : ℕ) (f : Found) (at : ℕ) (r : Rule) → Has (declared_note here f) (breaks at r) ↔ ((r ≡ rule.Private) × ((d : Decl) × (at ≡ here) × (f ≡ not_accessible d)))
declared_break_one here (one d) at r = (to, λ h. let e = h.1.2 in absurd cc)
  where
    to : ((refers here d ≡ breaks at r) ⊎ ⊥) → (r ≡ rule.Private) × ((x : Decl) × (at ≡ here) × (one d ≡ not_accessible x))
    to (inl e) = absurd cc
    to (inr h) = absurd h
declared_break_one here nothing at r = (λ h. absurd h, λ h. let e = h.1.2 in absurd cc)
declared_break_one here (many x y) at r = (λ h. absurd h, λ h. let e = h.1.2 in absurd cc)
declared_break_one here (not_accessible d) at r = chain (one_iff here at rule.Private r) (λ h. (h.1, (d, h.0, refl)), λ h. (h.1.1, h.0))
declared_break_one here (from_static x) at r = (λ h. absurd h, λ h. let e = h.1.2 in absurd cc)

declared_bind_one : (here : ℕ) (f : Found) (at : ℕ) (d : Decl) → Has (declared_note here f) (refers at d) ↔ ((at ≡ here) × (f ≡ one d))
declared_bind_one here (one x) at d = (to, λ h. let e = h.1 in let i : x ≡ d = cc in inl (λ j. refers (sym h.0 j) (i j)))
  where
    to : ((refers here x ≡ refers at d) ⊎ ⊥) → (at ≡ here) × (one x ≡ one d)
    to (inl e) = (let i : here ≡ at = cc in sym i, let i : x ≡ d = cc in ap one i)
    to (inr h) = absurd h
declared_bind_one here nothing at d = (λ h. absurd h, λ h. let e = h.1 in absurd cc)
declared_bind_one here (many x y) at d = (λ h. absurd h, λ h. let e = h.1 in absurd cc)
declared_bind_one here (not_accessible x) at d = (to, λ h. let e = h.1 in absurd cc)
  where
    to : ((breaks here rule.Private ≡ refers at d) ⊎ ⊥) → (at ≡ here) × (not_accessible x ≡ one d)
    to (inl e) = absurd cc
    to (inr h) = absurd h
declared_bind_one here (from_static x) at d = (λ h. absurd h, λ h. let e = h.1 in absurd cc)

-- of references that are those of a relation
module _ (xs : List Reference) (Refer : ℕ → Found → Type 0) (are : (at : ℕ) (q : Sought) (f : Found) → InReferences xs at q f ↔ ((q ≡ type) × Refer at f)) where
  abbrev Hidden : List Reference → (at : ℕ) → Rule → Type 0
  Hidden ys at r = (r ≡ rule.Private) × ((q : Sought) × (d : Decl) × InReferences ys at q (not_accessible d))

  hidden_iff : (ys : List Reference) (at : ℕ) (r : Rule) → Has (declared_notes ys) (breaks at r) ↔ Hidden ys at r
  hidden_iff [] at r = (λ h. absurd h, λ h. absurd h.1.2)
  hidden_iff (y ∷ ys) at r = chain (has_append (declared_note y.at y.found) (declared_notes ys) (breaks at r)) (to (hidden_iff ys at r), back (hidden_iff ys at r))
    where
      to : (Has (declared_notes ys) (breaks at r) ↔ Hidden ys at r) → (Has (declared_note y.at y.found) (breaks at r) ⊎ Has (declared_notes ys) (breaks at r)) → Hidden (y ∷ ys) at r
      to again (inl h) = let g = (declared_break_one y.at y.found at r).0 h in (g.0, (y.sought, g.1.0, inl (g.1.1, refl, g.1.2)))
      to again (inr h) = let g = again.0 h in (g.0, (g.1.0, g.1.1, inr g.1.2))

      back : (Has (declared_notes ys) (breaks at r) ↔ Hidden ys at r) → Hidden (y ∷ ys) at r → Has (declared_note y.at y.found) (breaks at r) ⊎ Has (declared_notes ys) (breaks at r)
      back again (e, (q, d, inl h)) = inl ((declared_break_one y.at y.found at r).1 (e, (d, h.0, h.2)))
      back again (e, (q, d, inr h)) = inr (again.1 (e, (q, d, h)))

  abbrev Bound : List Reference → (at : ℕ) → Decl → Type 0
  Bound ys at d = (q : Sought) × InReferences ys at q (one d)

  bound_iff : (ys : List Reference) (at : ℕ) (d : Decl) → Has (declared_notes ys) (refers at d) ↔ Bound ys at d
  bound_iff [] at d = (λ h. absurd h, λ h. absurd h.1)
  bound_iff (y ∷ ys) at d = chain (has_append (declared_note y.at y.found) (declared_notes ys) (refers at d)) (to (bound_iff ys at d), back (bound_iff ys at d))
    where
      to : (Has (declared_notes ys) (refers at d) ↔ Bound ys at d) → (Has (declared_note y.at y.found) (refers at d) ⊎ Has (declared_notes ys) (refers at d)) → Bound (y ∷ ys) at d
      to again (inl h) = let g = (declared_bind_one y.at y.found at d).0 h in (y.sought, inl (g.0, refl, g.1))
      to again (inr h) = let g = again.0 h in (g.0, inr g.1)

      back : (Has (declared_notes ys) (refers at d) ↔ Bound ys at d) → Bound (y ∷ ys) at d → Has (declared_note y.at y.found) (refers at d) ⊎ Has (declared_notes ys) (refers at d)
      back again (q, inl h) = inl ((declared_bind_one y.at y.found at d).1 (h.0, h.2))
      back again (q, inr h) = inr (again.1 (q, h))

  pub declared_breaks : (at : ℕ) (r : Rule) → Has (declared_notes xs) (breaks at r) ↔ ((r ≡ rule.Private) × ((d : Decl) × Refer at (not_accessible d)))
  declared_breaks at r = chain (hidden_iff xs at r) (λ h. (h.0, (h.1.1, ((are at h.1.0 (not_accessible h.1.1)).0 h.1.2).1)), λ h. (h.0, (type, h.1.0, (are at type (not_accessible h.1.0)).1 (refl, h.1.1))))

  pub declared_binds : (at : ℕ) (d : Decl) → Has (declared_notes xs) (refers at d) ↔ Refer at (one d)
  declared_binds at d = chain (bound_iff xs at d) (λ h. ((are at h.0 (one d)).0 h.1).1, λ h. (type, (are at type (one d)).1 (refl, h)))
