use Rattle.std.proofs.Common.{refl}
use Rattle.jr_extract_lists.proofs.written_types.as_is.Goals as goal

pub returns : goal.returns
returns c = (c.in_ok-text.ensures.ok, refl, refl)
