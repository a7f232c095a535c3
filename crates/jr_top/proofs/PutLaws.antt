-- Puts that follow one another, as one put of all their bytes.
use Rattle.std.proofs.Common.{◌≡◌, ℕ, ◌+◌, List, ◌++◌, Option, None, Some, length, take, drop, sym, ap, ◌∙◌, subst, append_assoc, take-append-drop, refl, Result, Ok, Err}
use lib.Seq.{take-append_seam}
use Rattle.jr_shelf.specs.Counts.{Rose}
use Rattle.jr_shelf.specs.Sink.{with_bytes, AppendedInPart, PutAll, PutInPart, Puts}

with_bytes-append : (taken : Option (List ℕ)) (a b : List ℕ) → with_bytes (with_bytes taken a) b ≡ with_bytes taken (a ++ b)
with_bytes-append None a b = refl
with_bytes-append (Some xs) a b = ap Some (append_assoc xs a b)

-- a front of the bytes is a prefix of them
front-in_part : (before after : Option (List ℕ)) (front back bytes : List ℕ) → bytes ≡ front ++ back → after ≡ with_bytes before front → AppendedInPart before after bytes
front-in_part before after front back bytes whole took =
    (length front, took ∙ ap (with_bytes before) (sym (ap (take (length front)) whole ∙ take-append_seam front back)))

-- nothing failed in the first puts, nor in the next ones
pub PutAll-then : (x y z : Option (List ℕ)) (f g h : ℕ) (a b : List ℕ) → PutAll x y f g a → PutAll y z g h b → PutAll x z f h (a ++ b)
PutAll-then x y z f g h a b one next = record {
  took = next.took ∙ ap (λ t. with_bytes t b) one.took ∙ with_bytes-append x a b;
  unfailed = next.unfailed ∙ one.unfailed;
}

-- the next ones failed
pub PutAll-then-part : (x y z : Option (List ℕ)) (f g h : ℕ) (a b : List ℕ) → PutAll x y f g a → PutInPart y z g h b → PutInPart x z f h (a ++ b)
PutAll-then-part x y z f g h a b one next =
    let n : ℕ = next.took.0 in
    let took : z ≡ with_bytes x (a ++ take n b) = next.took.1 ∙ ap (λ t. with_bytes t (take n b)) one.took ∙ with_bytes-append x a (take n b) in
    let whole : a ++ b ≡ (a ++ take n b) ++ drop n b = ap (λ l. a ++ l) (sym (take-append-drop n b)) ∙ sym (append_assoc a (take n b) (drop n b)) in
    record {
      took = front-in_part x z (a ++ take n b) (drop n b) (a ++ b) whole took;
      failed = subst (λ c. Rose c h) one.unfailed next.failed;
    }

-- the first ones failed, so that no others came
pub PutInPart-more : (x y : Option (List ℕ)) (f g : ℕ) (a b : List ℕ) → PutInPart x y f g a → PutInPart x y f g (a ++ b)
PutInPart-more x y f g a b one =
    let n : ℕ = one.took.0 in
    let whole : a ++ b ≡ take n a ++ (drop n a ++ b) = ap (λ l. l ++ b) (sym (take-append-drop n a)) ∙ append_assoc (take n a) (drop n a) b in
    record {
      took = front-in_part x y (take n a) (drop n a ++ b) (a ++ b) whole one.took.1;
      failed = one.failed;
    }

-- what was put, and then what a put made of the bytes
pub Puts-then : {T E : Type 0} (r : Result T E) (x y z : Option (List ℕ)) (f g h : ℕ) (a b : List ℕ) → PutAll x y f g a → Puts r y z g h b → Puts r x z f h (a ++ b)
Puts-then (Ok done) x y z f g h a b one next = PutAll-then x y z f g h a b one next
Puts-then (Err fault) x y z f g h a b one next = PutAll-then-part x y z f g h a b one next
