-- Lists whose elements are compared by what they stand for.
use Rattle.std.proofs.Common.{◌≡◌, List, [], ◌∷◌, Bool, map, refl, ap}
use Rattle.std.specs.Prelude.{◌&&◌}
use Rattle.std.specs.Ordering.{on}
use Rattle.std.specs.Cmp.Lexicographic.{pointwise}

pub pointwise-on : {A B : Type 0} (f : A → B) (E : B → B → Bool) (xs ys : List A) → pointwise (on f E) xs ys ≡ pointwise E (map f xs) (map f ys)
pointwise-on f E [] [] = refl
pointwise-on f E [] (y ∷ ys) = refl
pointwise-on f E (x ∷ xs) [] = refl
pointwise-on f E (x ∷ xs) (y ∷ ys) = ap (λ b. E (f x) (f y) && b) (pointwise-on f E xs ys)
