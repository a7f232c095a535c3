-- A reference is found by halves.
use Rattle.std.proofs.Common.{◌≡◌, ℕ, zero, suc, ◌<◌, ◌≤◌, List, [], ◌∷◌, length, map, Option, Some, None, Bool, true, false, refl, ap, ◌∙◌, inl, inr, arith}
use Rattle.std.specs.Prelude.{◌⊎◌, ◌==◌, if◌then◌else◌, slice_get, slice_index_or}
use Rattle.std.specs.List.Sorted.{IsNonDecreasingBy}
use Rattle.std.proofs.lemmas.Bool.{eqb-true, eq-eqb}
use Rattle.jr_table.specs.Decls.{Decl}
use Rattle.jr_table.specs.KeyView.{decl_of}
use Rattle.jr_bind.specs.declared.bounds.Reference as raw
use Rattle.jr_bind.specs.Bounds.{decl_in}
use Rattle.jr_bind.specs.BoundView.{reference_of}

-- what stands at a number, if it has the place
abbrev pub at_number : ℕ → Option raw.Reference → Option Decl
at_number at None = None
at_number at (Some r) = if r.at == at then Some (decl_of r.decl.value) else None

pub neither : (a b : ℕ) (x : Bool) → (a == b) ≡ x → (a ≡ b → ⊥) → x ≡ false
neither a b true is h = absurd (h (eqb-true a b is))
neither a b false is h = refl

-- nothing is found where each stands behind the place
none_behind : (xs : List raw.Reference) (at : ℕ) → ((k : ℕ) (d : raw.Reference) → k < length xs → at < (slice_index_or xs k d).at) → decl_in (map reference_of xs) at ≡ None
none_behind [] at h = refl
none_behind (x ∷ xs) at h =
    let l : at < x.at = h 0 x (omega arith) in
    ap (λ b. if b then Some (decl_of x.decl.value) else decl_in (map reference_of xs) at) (neither x.at at (x.at == at) refl (λ e. omega (arith, l, e)))
    ∙ none_behind xs at (λ k d lt. h (suc k) d (omega (arith, lt)))

order_of : (a b : ℕ) → b ≤ a → (b < a) ⊎ (a ≡ b)
order_of a b le = grind arith

further : (a b c : ℕ) → (a == b) ≡ false → b ≤ a → a ≤ c → b < c
further a b c is le up = elim (order_of a b le) [
  | inl lt ↦ omega (arith, lt, up)
  | inr e ↦ (let t = eq-eqb a b e in absurd cc)
]

-- the first that isn't before the place decides
pub decides : (xs : List raw.Reference) (i at : ℕ) → IsNonDecreasingBy (λ (r : raw.Reference). r.at) xs
    → ((k : ℕ) (d : raw.Reference) → k < i → k < length xs → (slice_index_or xs k d).at < at) → ((k : ℕ) (d : raw.Reference) → i ≤ k → k < length xs → at ≤ (slice_index_or xs k d).at)
    → decl_in (map reference_of xs) at ≡ at_number at (slice_get xs i)
decides [] i at order before behind = refl
decides (x ∷ xs) zero at order before behind = by (x.at == at) refl
  where
    by : (b : Bool) → (x.at == at) ≡ b → (if b then Some (decl_of x.decl.value) else decl_in (map reference_of xs) at) ≡ (if b then Some (decl_of x.decl.value) else None)
    by true is = refl
    by false is = none_behind xs at (λ k d lt.
        further x.at at (slice_index_or xs k d).at is (behind 0 x (omega arith) (omega arith)) (order 0 (suc k) d (omega arith) (omega (arith, lt))))
decides (x ∷ xs) (suc i) at order before behind =
    let l : x.at < at = before 0 x (omega arith) (omega arith) in
    ap (λ b. if b then Some (decl_of x.decl.value) else decl_in (map reference_of xs) at) (neither x.at at (x.at == at) refl (λ e. omega (arith, l, e)))
    ∙ decides xs i at (λ j k d le lt. order (suc j) (suc k) d (omega (arith, le)) (omega (arith, lt)))
    (λ k d lt within. before (suc k) d (omega (arith, lt)) (omega (arith, within))) (λ k d le within. behind (suc k) d (omega (arith, le)) (omega (arith, within)))
