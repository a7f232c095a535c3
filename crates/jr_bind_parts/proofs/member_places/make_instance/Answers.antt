use Rattle.std.proofs.Common.{refl}
use Rattle.jr_bind_expr.specs.Places.{context_of}
use Rattle.jr_bind_parts.proofs.member_places.make_instance.Goals as goal

pub returns-clause-context : goal.returns-clause-context
unfolding context_of
returns-clause-context c = refl
