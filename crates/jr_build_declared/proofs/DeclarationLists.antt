-- Declared put one behind the other.
use Rattle.std.proofs.Common.{◌≡◌, ℕ, zero, suc, ◌+◌, ◌<◌, ◌≤◌, List, [], ◌∷◌, ◌++◌, length, get_or, drop, map, add-one, refl, sym, ap, subst, ◌∙◌, arith}
use Rattle.std.proofs.lemmas.List.{append_assoc, append-nil, drop_all}
use Rattle.std.proofs.Math.Seq.{drop-cons}

-- the rest of a row from one of its elements on
pub rest_is : {T : Type 0} (row : List T) (i : ℕ) (x : T) → i < length row → x ≡ get_or row i x → drop i row ≡ x ∷ drop (i + 1) row
rest_is row i x lt at = drop-cons row i x lt ∙ ap (λ y. y ∷ drop (suc i) row) (sym at) ∙ ap (λ n. x ∷ drop n row) (sym (add-one i))

-- all elements of a row meet what the row meets
pub each_meets : {T : Type 0} (All : List T → Type 0) (One : T → Type 0) → ((x : T) (xs : List T) → All (x ∷ xs) → One x × All xs)
    → (row : List T) (i : ℕ) (x : T) → i < length row → x ≡ get_or row i x → All row → One x
each_meets All One split [] i x lt at h = absurd (omega arith)
each_meets All One split (y ∷ ys) zero x lt at h = subst One (sym at) (split y ys h).0
each_meets All One split (y ∷ ys) (suc i) x lt at h = each_meets All One split ys i x (omega arith) at (split y ys h).1

module _ {T S : Type 0} (all_of : List T → List S) (one_of : T → List S) (adds : (x : T) (xs : List T) → all_of (x ∷ xs) ≡ one_of x ++ all_of xs) where
  -- one more
  pub one_more : (all now next : List S) (row : List T) (i : ℕ) (x : T) → i < length row → x ≡ get_or row i x → next ≡ now ++ one_of x
      → now ++ all_of (drop i row) ≡ all → next ++ all_of (drop (i + 1) row) ≡ all
  one_more all now next row i x lt at is so_far =
      ap (λ b. b ++ all_of (drop (i + 1) row)) is
      ∙ append_assoc now (one_of x) (all_of (drop (i + 1) row))
      ∙ ap (λ b. now ++ b) (sym (ap all_of (rest_is row i x lt at) ∙ adds x (drop (i + 1) row)))
      ∙ so_far

  -- all
  pub none_left : (all now : List S) (row : List T) (i : ℕ) → length row ≤ i → all_of [] ≡ [] → now ++ all_of (drop i row) ≡ all → now ≡ all
  none_left all now row i done none so_far =
      sym (append-nil now) ∙ ap (λ b. now ++ b) (sym none) ∙ ap (λ r. now ++ all_of r) (sym (drop_all i row done)) ∙ so_far

pub put_two : {S : Type 0} (b0 b1 b2 x y whole : List S) → b1 ≡ b0 ++ x → b2 ≡ b1 ++ y → x ++ y ≡ whole → b2 ≡ b0 ++ whole
put_two b0 b1 b2 x y whole e f w = f ∙ ap (λ b. b ++ y) e ∙ append_assoc b0 x y ∙ ap (λ z. b0 ++ z) w

-- a map of what is joined is the maps joined
pub map_join : {S U : Type 0} (f : S → U) (xs ys : List S) → map f (xs ++ ys) ≡ map f xs ++ map f ys
map_join f [] ys = refl
map_join f (x ∷ xs) ys = ap (λ zs. f x ∷ zs) (map_join f xs ys)
