-- Places of references: one behind the other, and which references they are of.
use Rattle.std.proofs.Common.{◌≡◌, ℕ, zero, suc, ◌+◌, ◌<◌, ◌≤◌, ◌==◌, Bool, true, false, List, [], ◌∷◌, ◌++◌, length, get_or, drop, map, Option, Some, None, if◌then◌else◌, slice_get, refl, ap, sym, subst, ◌∙◌, append_assoc, add-one}
use Rattle.std.proofs.Math.Seq.{drop-cons}
use Rattle.std.proofs.lemmas.Bool.{eqb-true}
use Rattle.std.proofs.lemmas.List.{drop_all, append-nil}
use Rattle.std.proofs.lemmas.Option.{none-some, same_Some}
use Rattle.jr_table.specs.Decls.{Decl}
use Rattle.jr_table.specs.SameDecls.{decl_decides}
use Rattle.jr_bind.specs.Bounds.{Reference, decl_in}
use Rattle.jr_bind.specs.declared.bounds.Reference as raw
use Rattle.jr_bind.specs.BoundView.{reference_of}
use Rattle.jr_local_moves.specs.ReferencePlaces.{is_decl, place_if, places_of, ReferencesHavePlaces}

-- ---- the loop

pub left_is : {T : Type 0} (xs : List T) (i : ℕ) (x : T) → i < length xs → x ≡ get_or xs i x → drop i xs ≡ x ∷ drop (i + 1) xs
left_is xs i x lt is = drop-cons xs i x lt ∙ ap (λ z. z ∷ drop (suc i) xs) (sym is) ∙ ap (λ n. x ∷ drop n xs) (sym (add-one i))

module _ (start : ℕ) (d : Decl) (all : List Reference) where
  -- the places so far, with those that are left, are all
  abbrev pub AreSo : List raw.Reference → List ℕ → (i : ℕ) → Type 0
  AreSo rs places i = places ++ places_of start d all (map reference_of (drop i rs)) ≡ places_of start d all (map reference_of rs)

  pub goes_on : (rs : List raw.Reference) (old new : List ℕ) (i : ℕ) (r : raw.Reference) → drop i rs ≡ r ∷ drop (i + 1) rs → new ≡ old ++ place_if start d r.at (decl_in all r.at) → AreSo rs old i → AreSo rs new (i + 1)
  goes_on rs old new i r left put h =
      ap (λ ps. ps ++ places_of start d all (map reference_of (drop (i + 1) rs))) put
      ∙ append_assoc old (place_if start d r.at (decl_in all r.at)) (places_of start d all (map reference_of (drop (i + 1) rs)))
      ∙ ap (λ qs. old ++ places_of start d all (map reference_of qs)) (sym left) ∙ h

  pub all_told : (rs : List raw.Reference) (places : List ℕ) (i : ℕ) → length rs ≤ i → AreSo rs places i → places ≡ places_of start d all (map reference_of rs)
  all_told rs places i over h = sym (ap (λ qs. places ++ places_of start d all (map reference_of qs)) (drop_all i rs over) ∙ append-nil places) ∙ h

-- ---- what is found at a place

is_found : (d : Decl) (o : Option Decl) → is_decl d o ≡ true → o ≡ Some d
is_found d None e = absurd cc
is_found d (Some x) e = ap Some ((decl_decides x d).0 e)

found_is : (d : Decl) (o : Option Decl) → o ≡ Some d → is_decl d o ≡ true
found_is d None e = absurd (none-some d e)
found_is d (Some x) e = (decl_decides x d).1 (same_Some x d e)

module _ (start : ℕ) (d : Decl) (at : ℕ) (o : Option Decl) (old : List ℕ) where
  abbrev put_if : Bool → List ℕ
  put_if b = old ++ (if b then (start + at) ∷ [] else [])

  pub is_put : (n : ℕ) → o ≡ Some d → n ≡ start + at → old ++ n ∷ [] ≡ old ++ place_if start d at o
  is_put n e is = ap (λ m. old ++ m ∷ []) is ∙ ap put_if (sym (found_is d o e))

  other : (o ≡ Some d → ⊥) → is_decl d o ≡ false
  other apart = by (is_decl d o) refl
    where
      by : (b : Bool) → is_decl d o ≡ b → is_decl d o ≡ false
      by true e = absurd (apart (is_found d o e))
      by false e = e

  pub is_none : (o ≡ Some d → ⊥) → old ≡ old ++ place_if start d at o
  is_none apart = sym (append-nil old) ∙ ap put_if (sym (other apart))

-- ---- which they are of

module _ (start : ℕ) (d : Decl) (all : List Reference) where
  abbrev Stands : List ℕ → ℕ → Type 0
  Stands ps n = (i : ℕ) × (slice_get ps i ≡ Some n)

  -- some reference of the list begins there
  abbrev Begins : List Reference → ℕ → Type 0
  Begins rs at = (i : ℕ) × (r : Reference) × (slice_get rs i ≡ Some r) × (r.at ≡ at)

  begins_there : (rs : List Reference) (at : ℕ) (e : Decl) → decl_in rs at ≡ Some e → Begins rs at
  begins_there [] at e h = absurd (none-some e h)
  begins_there (r ∷ rs) at e h = by (r.at == at) refl h (begins_there rs at e)
    where
      by : (b : Bool) → (r.at == at) ≡ b → (if b then Some r.decl else decl_in rs at) ≡ Some e → (decl_in rs at ≡ Some e → Begins rs at) → Begins (r ∷ rs) at
      by true t h on = (0, r, refl, eqb-true r.at at t)
      by false t h on = (let q = on h in (suc q.0, q.1, q.2, q.3))

  behind : (b : Bool) (n : ℕ) (ps : List ℕ) (m : ℕ) → Stands ps m → Stands ((if b then n ∷ [] else []) ++ ps) m
  behind true n ps m (i, e) = (suc i, e)
  behind false n ps m s = s

  at_first : (b : Bool) (n : ℕ) (ps : List ℕ) → b ≡ true → Stands ((if b then n ∷ [] else []) ++ ps) n
  at_first true n ps e = (0, refl)
  at_first false n ps e = absurd cc

  listed : (rs : List Reference) (i : ℕ) (r : Reference) → slice_get rs i ≡ Some r → decl_in all r.at ≡ Some d → Stands (places_of start d all rs) (start + r.at)
  listed [] i r e h = absurd (none-some r e)
  listed (x ∷ rs) zero r e h =
      subst (λ (y : Reference). Stands (places_of start d all (x ∷ rs)) (start + y.at)) (same_Some x r e)
      (at_first (is_decl d (decl_in all x.at)) (start + x.at) (places_of start d all rs) (found_is d (decl_in all x.at) (ap (λ (y : Reference). decl_in all y.at) (same_Some x r e) ∙ h)))
  listed (x ∷ rs) (suc i) r e h = behind (is_decl d (decl_in all x.at)) (start + x.at) (places_of start d all rs) (start + r.at) (listed rs i r e h)

  -- such a place
  abbrev IsOne : ℕ → Type 0
  IsOne n = (at : ℕ) × (n ≡ start + at) × (decl_in all at ≡ Some d)

  each_of : (rs : List Reference) (i n : ℕ) → slice_get (places_of start d all rs) i ≡ Some n → IsOne n
  each_of [] i n e = absurd (none-some n e)
  each_of (r ∷ rs) i n e = by (is_decl d (decl_in all r.at)) refl i e (λ j. each_of rs j n)
    where
      by : (b : Bool) → is_decl d (decl_in all r.at) ≡ b → (i : ℕ) → slice_get ((if b then (start + r.at) ∷ [] else []) ++ places_of start d all rs) i ≡ Some n
          → ((j : ℕ) → slice_get (places_of start d all rs) j ≡ Some n → IsOne n) → IsOne n
      by true h zero e on = (r.at, sym (same_Some (start + r.at) n e), is_found d (decl_in all r.at) h)
      by true h (suc i) e on = on i e
      by false h i e on = on i e

pub references_have_places : ReferencesHavePlaces
references_have_places start d rs = record {
  all = λ at e. (let q = begins_there start d rs rs at d e in
      subst (λ n. (i : ℕ) × (slice_get (places_of start d rs rs) i ≡ Some (start + n))) q.3 (listed start d rs rs q.0 q.1 q.2 (ap (decl_in rs) q.3 ∙ e)));
  each = λ i n e. each_of start d rs rs i n e;
}
