use Rattle.std.proofs.Common.{sym, ◌∙◌}
use Rattle.jr_cache.proofs.sparing.has_key.Goals as goal

pub returns : goal.returns
returns c = λ t. sym c.member.ensures ∙ c.eq.ensures.0 t
