use Rattle.std.proofs.Common.{arith}
use Rattle.std.proofs.lemmas.Bool.{false≢true}
use Rattle.jr_local_uses.proofs.places.fits.Goals as goal

pub returns-then-size-room : goal.returns-then-size-room
returns-then-size-room c = λ e. absurd (false≢true e)

pub returns : goal.returns
returns c = λ e. let below = c.if-size-room.false in omega (arith, below)
