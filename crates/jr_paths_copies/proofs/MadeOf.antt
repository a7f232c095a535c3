-- What was made, and what it was made of.
use Rattle.std.proofs.Common.{◌≡◌, ℕ, ◌+◌, ◌<◌, List, [], ◌∷◌, ◌++◌, length, get_or, take, map, sym, subst}
use Rattle.std.specs.Prelude.{Result, Ok, Err, Box}
use Rattle.std.specs.Global.{Global}
use Rattle.std.specs.Result.{IfOk, IsOkAnd}
use Rattle.jr_paths_copies.proofs.Marking.{one_more}

module _ {T E : Type 0} where
  -- a part of a whole: what the whole says of it, and what else is known of it
  pub with_part : (part : Result T E) {W P : T → Type 0} {Q : Type 0} → IsOkAnd part W → IfOk part P → ((p : T) → W p → P p → Q) → Q
  with_part (Ok p) made known f = f p made known
  with_part (Err e) made known f = absurd made

  -- a row of copies, with one more that was made in a box
  pub one_more_made : {Y Z : Type 0} (p : T → Z) (q : Y → Z) (out new : List T) (row : List Y) (i : ℕ) (y : Y) (made : Result (Box T Global) E) → i < length row → y ≡ get_or row i y
      → IsOkAnd made (λ x. new ≡ out ++ x.value ∷ []) → map p out ≡ map q (take i row) → IfOk made (λ x. p x.value ≡ q y) → map p new ≡ map q (take (i + 1) row)
  one_more_made p q out new row i y (Ok x) lt at kept so_far same = one_more p q out new x.value row i y lt at kept so_far same
  one_more_made p q out new row i y (Err e) lt at kept so_far same = absurd kept

  -- of a part that was made, what holds of it
  pub that_ok : {part : Result T E} {p : T} (W : T → Type 0) → part ≡ Ok p → W p → IsOkAnd part W
  that_ok W is w = subst (λ r. IsOkAnd r W) (sym is) w
