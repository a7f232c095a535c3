use Rattle.jr_cursor.proofs.OneTarget.{one_target}
use Rattle.jr_cursor.proofs.laws.one_is_target.Goals as goal

pub returns : goal.returns
returns c p is file at f stands d e h k =
    one_target c.items_are_placed.ensures.items c.lookups_are_exact.ensures.keys c.lookups_are_exact.ensures.one c.types_are_exact.ensures.bound c.members_are_written.ensures p is file f stands c.one_answer.ensures.items at d e h k
