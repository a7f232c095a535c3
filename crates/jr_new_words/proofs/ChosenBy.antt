-- What is chosen by a way, as what is chosen of one kind of declaration.
use Rattle.std.proofs.Common.{◌≡◌, ℕ, List, [], Some, None, true, false, sym, ap, subst, ◌∙◌, inl, inr}
use Rattle.std.specs.Prelude.{Option, option_map}
use Rattle.jr_table.specs.Keys.{ClassKey, Ty}
use Rattle.jr_table.specs.Decls.{LocalKey, Decl, class_decl, field_decl, local_decl}
use Rattle.jr_table.specs.Rows.{Row}
use Rattle.jr_table.specs.Found.{Found, one}
use Rattle.jr_table.specs.Lookup.{FindsVariable, FindsTypeNamed}
use Rattle.jr_table.specs.Context.{Context, scope_of}
use Rattle.jr_rewrite.specs.Respellings.{Choice}
use Rattle.jr_images.specs.Spelling.{OfImage}
use Rattle.jr_new_words.specs.Mappings.{Mapping, class_to, local_to}
use Rattle.jr_new_words.specs.Chosen.{ChoosesOf, VariableIsChosen, QualifiedTypeIsChosen}
use Rattle.jr_new_words.specs.Ways.{Way, local, own_field, type_behind, leads_to, is_local, is_field, Finds, OfDecl, SpellsTo, Gone, SpellsBy, IsChosenFor, IsChosenBy}
use Rattle.jr_new_words.proofs.DeclKinds.{local_decls, field_decls}

module _ (rows : List Row) (g : Mapping) (c : Context) (at : ℕ) (old : List ℕ) where
  -- the one declaration that is found, and its choice
  pub found_by : (from to : Way) (types images : List Ty) → ((a b : Found) → Finds rows (scope_of c) from old types a → Finds rows (scope_of c) from old types b → a ≡ b)
      → (d : Decl) → Finds rows (scope_of c) from old types (one d) → (o : Option Choice)
      → IsChosenFor rows g c to images at old d o → IsChosenBy rows g c from types to images at old o
  found_by from to types images each d finds (Some h) (kind, spells) = (d, (kind, finds), spells)
  found_by from to types images each d finds None never = λ e (kind, others).
      let same : one e ≡ one d = each (one e) (one d) others finds in
      let is : e ≡ d = cc in
      let t : leads_to to d ≡ true = ap (leads_to to) (sym is) ∙ kind in
      let f : true ≡ false = sym t ∙ never in
      cc

  -- with the values that are asked in place of those that they are equal to
  pub asked_so : (from : Way) (types ts : List Ty) (to way : Way) (images is : List Ty) → types ≡ ts → to ≡ way → images ≡ is → (o : Option Choice)
      → IsChosenBy rows g c from types to images at old o → IsChosenBy rows g c from ts way is at old o
  asked_so from types ts to way images is e same also o x =
      subst (λ ts. IsChosenBy rows g c from ts way is at old o) e
      (subst (λ w. IsChosenBy rows g c from types w is at old o) same
      (subst (λ us. IsChosenBy rows g c from types to us at old o) also x))

  -- where the way leads to one kind of declarations
  pub of_kind : {K : Type 0} (decl : K → Decl) (from to : Way) (types images : List Ty) → ((d : Decl) → leads_to to d ≡ true → (k : K) × (d ≡ decl k))
      → ((k : K) → leads_to to (decl k) ≡ true) → (o : Option Choice) → IsChosenBy rows g c from types to images at old o
      → ChoosesOf (λ k. Finds rows (scope_of c) from old types (one (decl k))) (λ k h. SpellsBy rows g c to images at old (decl k) h) o
  of_kind decl from to types images are leads (Some h) (d, (kind, finds), spells) =
      let k = are d kind in (
        k.0,
        subst (λ d. Finds rows (scope_of c) from old types (one d)) k.1 finds,
        subst (λ d. SpellsBy rows g c to images at old d h) k.1 spells,
      )
  of_kind decl from to types images are leads None never = λ k finds. never (decl k) (leads k, finds)

  -- a member class behind the one class that has the name
  pub behind : (outer : List ℕ) (o : ClassKey) → FindsTypeNamed rows (scope_of c) outer (one (class_decl o))
      → ((a b : ClassKey) → FindsTypeNamed rows (scope_of c) outer (one (class_decl a)) → FindsTypeNamed rows (scope_of c) outer (one (class_decl b)) → a ≡ b)
      → (x : Option Choice)
      → ChoosesOf (λ k. Finds rows (scope_of c) (type_behind outer) old [] (one (class_decl k))) (λ k h. SpellsBy rows g c (type_behind (class_to g o).name) [] at old (class_decl k) h) x
      → QualifiedTypeIsChosen rows g c at outer old x
  behind outer o named same (Some h) (k, inl (p, also, within), spells) =
      ((p, k), (also, within), subst (λ (o : ClassKey). SpellsBy rows g c (type_behind (class_to g o).name) [] at old (class_decl k) h) (same o p named also) spells)
  behind outer o named same (Some h) (k, inr (never, e), spells) = absurd cc
  behind outer o named same None never = λ (p, k) (also, within). never k (inl (p, also, within))

  -- ---- variables

  -- with the local's image in place of the declaration's
  of_local : (Kept : Decl → Type 0) (Lost : Type 0) (o : Option LocalKey) → OfDecl (option_map (λ (l : LocalKey). local_decl l) o) Kept Lost → OfImage o (λ i. Kept (local_decl i)) Lost
  of_local Kept Lost (Some i) x = x
  of_local Kept Lost None x = x

  module _ (each : (a b : Found) → FindsVariable rows (scope_of c) old a → FindsVariable rows (scope_of c) old b → a ≡ b)
      (d : Decl) (finds : FindsVariable rows (scope_of c) old (one d)) where
    pub a_local : is_local d ≡ true → (o : Option Choice) → IsChosenFor rows g c local [] at old d o → VariableIsChosen rows g c at old o
    a_local is (Some h) (kind, spells) =
        let k = local_decls d kind in
        inl (
          k.0,
          (
            subst (λ d. FindsVariable rows (scope_of c) old (one d)) k.1 finds,
            of_local (λ i. SpellsTo rows g c i local [] at old (local_decl k.0) h) (Gone rows g c local [] at old (local_decl k.0) h) (local_to g k.0) (subst (λ d. SpellsBy rows g c local [] at old d h) k.1 spells),
          ),
        )
    a_local is None never = let f : true ≡ false = sym is ∙ never in absurd cc

    pub no_local : is_local d ≡ false → (o : Option Choice) → IsChosenFor rows g c own_field [] at old d o → VariableIsChosen rows g c at old o
    no_local is (Some h) (kind, spells) =
        let k = field_decls d kind in
        inr (k.0, (subst (λ d. FindsVariable rows (scope_of c) old (one d)) k.1 finds, subst (λ d. SpellsBy rows g c own_field [] at old d h) k.1 spells))
    no_local is None never = (
      λ k h.
          let e : one d ≡ one (local_decl k) = each (one d) (one (local_decl k)) finds h in
          let same : d ≡ local_decl k = cc in
          let t : is_local d ≡ true = ap is_local same in
          let f : true ≡ false = sym t ∙ is in
          cc,
      λ k h.
          let e : one d ≡ one (field_decl k) = each (one d) (one (field_decl k)) finds h in
          let same : d ≡ field_decl k = cc in
          let t : is_field d ≡ true = ap is_field same in
          let f : true ≡ false = sym t ∙ never in
          cc,
    )
