-- What is kept where a test says so.
use Rattle.std.proofs.Common.{◌≡◌, refl}
use Rattle.std.specs.Prelude.{Option, Some, None, is_some, true}

pub filled : {X : Type 0} (o : Option X) → is_some o ≡ true → (x : X) × (o ≡ Some x)
filled None h = absurd cc
filled (Some x) h = (x, refl)
