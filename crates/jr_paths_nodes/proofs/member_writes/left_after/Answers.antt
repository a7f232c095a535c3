use Rattle.std.proofs.Common.{sym, ap, ◌∙◌, option_and_then}
use Rattle.jr_paths_nodes.specs.MemberLent.{left_of}
use Rattle.jr_paths_nodes.proofs.MemberPlaces.{left_at, left_none}
use Rattle.jr_paths_nodes.proofs.member_writes.left_after.Goals as goal

pub returns-then-number-count : goal.returns-then-number-count
returns-then-number-count c = left_none c.args.count c.in-Some.number c.if-number-count.true ∙ sym (ap (option_and_then (left_of c.args.count)) c.in-Some.is)

pub returns-else-number-count : goal.returns-else-number-count
returns-else-number-count c = left_at c.args.count c.in-Some.number c.if-number-count.false ∙ sym (ap (option_and_then (left_of c.args.count)) c.in-Some.is)
