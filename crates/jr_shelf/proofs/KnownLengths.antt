-- How long the bytes are that a reader had left.
use Rattle.std.proofs.Common.{ℕ, ◌<◌, List, Option, None, Some, IfSome, length, ap, arith, length-append}
use Rattle.std.specs.Io.KnownBytes.{Consumes}

-- a reader that gave more than m bytes had more than m bytes left
pub Consumes-longer : (m : ℕ) (before after : Option (List ℕ)) (bytes : List ℕ) → Consumes before after bytes → m < length bytes → IfSome before (λ left. m < length left)
Consumes-longer m None after bytes consumed longer = tt
Consumes-longer m (Some left) None bytes consumed longer = absurd consumed
Consumes-longer m (Some left) (Some rest) bytes consumed longer = omega (arith, ap length consumed, length-append bytes rest)
