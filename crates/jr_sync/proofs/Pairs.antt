-- First pairs, one site of the first piece after another.
use Rattle.std.proofs.Common.{◌≡◌, ◌⊎◌, ◌<◌, ℕ, ◌+◌, List, Some, None, sym, ap, subst, ◌∙◌, inl, inr, arith}
use Rattle.std.specs.Prelude.{slice_get}
use Rattle.std.proofs.lemmas.Bool.{cases_eq}
use Rattle.jr_sync.specs.declared.sites.Site.{Site}
use Rattle.jr_sync.specs.declared.sites.DepKind.{DepKind}
use Rattle.jr_sync.specs.declared.pieces.Test.{Test}
use Rattle.jr_sync.specs.Crossing.{Finds, IsFirstBeside, At, FirstAt}

same_site : {S : Type 0} (a b : S) → Some a ≡ Some b → a ≡ b
same_site a b e = cc

module _ {K L : Type 0} (F : K → K → Type 0) (M : L → L → Type 0) (test : Test) where
  -- none of the first so many sites is found beside a site
  abbrev pub NoneBeside : (a : Site K L) → (second : List (Site K L)) → (count : ℕ) → Type 0
  NoneBeside a second count = (n : ℕ) (b : Site K L) (kind : DepKind) → n < count → slice_get second n ≡ Some b → Finds F M test kind a b → ⊥

  pub beside_more : (a site : Site K L) (second : List (Site K L)) (count : ℕ) → slice_get second count ≡ Some site → ((kind : DepKind) → Finds F M test kind a site → ⊥)
      → NoneBeside a second count → NoneBeside a second (count + 1)
  beside_more a site second count is never before n b kind lt at h = by (cases_eq n count)
    where
      by : ((n ≡ count) ⊎ (n ≡ count → ⊥)) → ⊥
      by (inl same) =
          let here : Some b ≡ Some site = sym at ∙ ap (λ k. slice_get second k) same ∙ is in
          never kind (subst (λ (s : Site K L). Finds F M test kind a s) (same_site b site here) h)
      by (inr ne) = before n b kind (omega arith) at h

  module _ (first second : List (Site K L)) where
    -- the first so many sites of the first piece are in no pair
    abbrev pub NoneBefore : (count : ℕ) → Type 0
    NoneBefore count = (m n : ℕ) (kind : DepKind) → m < count → At F M first second test m n kind → ⊥

    pub before_more : (count : ℕ) (site : Site K L) → slice_get first count ≡ Some site → IsFirstBeside F M test site second None → NoneBefore count
        → NoneBefore (count + 1)
    before_more count site is never before m n kind lt h = by (cases_eq m count)
      where
        by : ((m ≡ count) ⊎ (m ≡ count → ⊥)) → ⊥
        by (inl same) =
            let here : Some h.0 ≡ Some site = sym h.2 ∙ ap (λ k. slice_get first k) same ∙ is in
            never n h.1 kind h.3 (subst (λ (s : Site K L). Finds F M test kind s h.1) (same_site h.0 site here) h.4)
        by (inr ne) = before m n kind (omega arith) h

    pub first_here : (count j : ℕ) (kind : DepKind) (site : Site K L) → slice_get first count ≡ Some site → IsFirstBeside F M test site second (Some (j, kind)) → NoneBefore count
        → FirstAt F M first second test count j kind
    first_here count j kind site is found before = ((site, found.0.0, is, found.0.1, found.0.2), λ m n other h early. by m n other h early)
      where
        by : (m n : ℕ) (other : DepKind) → At F M first second test m n other → ((m < count) ⊎ ((m ≡ count) × (n < j))) → ⊥
        by m n other h (inl lt) = before m n other lt h
        by m n other h (inr (same, lt)) =
            let here : Some h.0 ≡ Some site = sym h.2 ∙ ap (λ k. slice_get first k) same ∙ is in
            found.1 n h.1 other lt h.3 (subst (λ (s : Site K L). Finds F M test other s h.1) (same_site h.0 site here) h.4)
