use Rattle.std.proofs.Common.{ap, ◌∙◌}
use Rattle.std.proofs.lemmas.Result.{IfOk-weaker}
use Rattle.jr_members.specs.Fitting.{begins_by}
use Rattle.jr_members.specs.WrittenMembers.{members_at, written_members}
use Rattle.jr_members.proofs.keyed.written_members.Goals as goal

pub returns : goal.returns
unfolding written_members
returns g c = IfOk-weaker c.with_keys.result _ _ (λ v h. h ∙ ap (members_at (begins_by g.A.Mark.span_from) c.args.table.now 8) c.in_ok-parts.ensures) c.with_keys.ensures
