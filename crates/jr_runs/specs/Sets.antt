-- Sets of locals, by number.
use Rattle.std.specs.Prelude.{ℕ, Bool, true, ◌||◌, List, [], ◌∷◌, IsTrue, nat_eq}

abbrev pub NumberSet : Type 0
NumberSet = ℕ → Bool

abbrev pub everything : NumberSet
everything i = true

abbrev pub with_one : NumberSet → ℕ → NumberSet
with_one A n = λ i. nat_eq n i || A i

abbrev pub with_all : NumberSet → List ℕ → NumberSet
with_all A [] = A
with_all A (n ∷ ns) = with_all (with_one A n) ns

abbrev pub Within : NumberSet → NumberSet → Type 0
Within A B = (i : ℕ) → IsTrue (A i) → IsTrue (B i)
