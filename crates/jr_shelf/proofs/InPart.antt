-- A writer that took the front of some bytes took a prefix of them.
use Rattle.std.proofs.Common.{◌≡◌, ℕ, ◌-◌, List, ◌++◌, Option, length, take, drop, sym, ap, ◌∙◌, subst, append_assoc, take-append-drop}
use Rattle.std.proofs.lemmas.List.{take_rest}
use lib.Seq.{take-append_seam}
use Rattle.std.specs.Io.KnownBytes.{Appends, Keeps}
use Rattle.std.proofs.KnownBytes.{Appends-trans, Appends-kept}

-- the bytes are what the writer took and a rest
abbrev pub Took : Option (List ℕ) → Option (List ℕ) → List ℕ → List ℕ → Type 0
Took before after bytes rest = (done : List ℕ) × (bytes ≡ done ++ rest) × Appends before after done

-- the writer took n bytes of the rest
pub Took-more : (before between after : Option (List ℕ)) (bytes rest : List ℕ) (n : ℕ) → Took before between bytes rest → Appends between after (take n rest)
    → Took before after bytes (take (length rest - n) (drop n rest))
Took-more before between after bytes rest n (done, whole, took) more =
    let left = ap (λ l. (done ++ take n rest) ++ l) (sym (take_rest rest n)) in
    let split = ap (λ l. done ++ l) (sym (take-append-drop n rest)) ∙ sym (append_assoc done (take n rest) (drop n rest)) ∙ left in
    (done ++ take n rest, whole ∙ split, Appends-trans _ _ _ _ _ took more)

-- the writer took nothing more
pub Took-kept : (before between after : Option (List ℕ)) (bytes rest : List ℕ) → Took before between bytes rest → Keeps between after → Took before after bytes rest
Took-kept before between after bytes rest (done, whole, took) kept = (done, whole, Appends-kept _ _ _ _ took kept)

pub Took-prefix : (before after : Option (List ℕ)) (bytes rest : List ℕ) → Took before after bytes rest → (n : ℕ) × Appends before after (take n bytes)
Took-prefix before after bytes rest (done, whole, took) =
    (length done, subst (Appends before after) (sym (ap (take (length done)) whole ∙ take-append_seam done rest)) took)
