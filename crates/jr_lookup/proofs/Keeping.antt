-- One more item of a list of which those are kept that pass.
use Rattle.std.proofs.Common.{◌≡◌, ℕ, List, [], ◌∷◌, ◌++◌, Bool, true, false, ap}
use Rattle.std.proofs.lemmas.List.{append_assoc, append-nil}
use Rattle.std.specs.Prelude.{if◌then◌else◌}

pub keep_one : (b : Bool) (kept xs : List ℕ) (n : ℕ) → (kept ++ (if b then n ∷ [] else [])) ++ xs ≡ kept ++ (if b then n ∷ xs else xs)
keep_one true kept xs n = append_assoc kept (n ∷ []) xs
keep_one false kept xs n = ap (λ (k : List ℕ). k ++ xs) (append-nil kept)
