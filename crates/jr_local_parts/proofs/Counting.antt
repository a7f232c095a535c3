-- Numbers that stay, one behind the other.
use Rattle.std.proofs.Common.{◌≡◌, ℕ, zero, suc, ◌+◌, List, [], ◌∷◌, ◌++◌, Option, Some, sym, ap, ◌∙◌, arith, add-one}
use Rattle.jr_local_walks.specs.Mappings.{numbers_from}

one_more : (i n : ℕ) → numbers_from i n ++ Some (i + n) ∷ [] ≡ numbers_from i (suc n)
one_more i zero = let e : i + 0 ≡ i = omega arith in ap (λ (k : ℕ). Some k ∷ []) e
one_more i (suc n) =
    let e : i + suc n ≡ suc i + n = omega arith in
    ap (λ (xs : List (Option ℕ)). Some i ∷ xs) (ap (λ (k : ℕ). numbers_from (suc i) n ++ Some k ∷ []) e ∙ one_more (suc i) n)

pub goes_on : (n : ℕ) (old new : List (Option ℕ)) → old ≡ numbers_from 0 n → new ≡ old ++ Some n ∷ [] → new ≡ numbers_from 0 (n + 1)
goes_on n old new are put =
    let e : n ≡ 0 + n = omega arith in
    put ∙ ap (λ (xs : List (Option ℕ)). xs ++ Some n ∷ []) are ∙ ap (λ (k : ℕ). numbers_from 0 n ++ Some k ∷ []) e ∙ one_more 0 n ∙ ap (numbers_from 0) (sym (add-one n))

pub ends_at : (n count : ℕ) (xs : List (Option ℕ)) → n ≡ count → xs ≡ numbers_from 0 n → xs ≡ numbers_from 0 count
ends_at n count xs is are = are ∙ ap (numbers_from 0) is
