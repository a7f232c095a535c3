use Rattle.std.proofs.Common.{sym, subst}
use Rattle.jr_text.specs.declared.spans.Span.{Span}
use Rattle.jr_bind.specs.Programs.{Program}
use Rattle.jr_plan.specs.Reasons.{HasOnePlan}
use Rattle.jr_plan.specs.Renaming.{renaming}
use Rattle.jr_rename_laws.proofs.OneProgram.{IsWhole, is_beside, super_same}
use Rattle.jr_rename_laws.proofs.OnePlan.{one_plan}
use Rattle.jr_rename_laws.proofs.one_plan_laws.plan_is_one.Goals as goal

pub returns : goal.returns
returns c p q is also same file at f stands new name =
    let beside = is_beside p q is also same in
    let other = subst IsWhole (sym beside) also in
    let supers = super_same c.members_are_written.ensures p q.super_at q.bounds is other in
    subst (λ (r : Program Span). HasOnePlan p r (renaming p f.text file at new) (renaming r f.text file at new)) beside
    (one_plan p q.super_at q.bounds is other c.renamings_stay_fair.ensures c.rows_are_named.ensures.rows c.rows_are_named.ensures.names c.rewriting_is_one.ensures supers c.one_is_target.ensures file at f stands new name)
