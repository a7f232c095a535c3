-- What a call answers over a part that may not have been made.
use Rattle.std.proofs.Common.{◌≡◌, ◌&&◌, Bool, true, false, refl}
use Rattle.std.specs.Prelude.{Result, Ok, Err}
use Rattle.std.specs.Result.{IfOk, IsOkAnd}

module _ {S N E : Type 0} where
  pub over_part : (r : Result N E) (part : Result S E) {W : N → S → Type 0} {P : S → Type 0} {Q : N → Type 0} → IfOk r (λ n. IsOkAnd part (W n)) → IfOk part P → ((n : N) (s : S) → W n s → P s → Q n) → IfOk r Q
  over_part (Ok n) (Ok s) h k f = f n s h k
  over_part (Ok n) (Err e) h k f = absurd h
  over_part (Err e) part h k f = h

pub both_true : (a b : Bool) → (a && b) ≡ true → (a ≡ true) × (b ≡ true)
both_true true true h = (refl, refl)
both_true true false h = absurd cc
both_true false b h = absurd cc
