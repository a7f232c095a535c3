-- What holds where a call went well.
use Rattle.std.specs.Prelude.{Result, Ok, Err, OnOk, IfOk}

pub on_ok : {X E P Q : Type 0} (r : Result X E) → (P → Q) → OnOk r P → IfOk r (λ _. Q)
on_ok (Ok x) to h = to h
on_ok (Err e) to h = tt
