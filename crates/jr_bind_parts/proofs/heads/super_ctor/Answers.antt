use Rattle.std.proofs.Common.{ap, ◌∙◌}
use Rattle.std.proofs.lemmas.Result.{IfOk-weaker}
use Rattle.jr_bind_expr.specs.ArgsView.{kinds_of}
use Rattle.jr_bind_expr.specs.Arms.{ctor_answer}
use Rattle.jr_bind_parts.proofs.Heading.{super_is}
use Rattle.jr_bind_parts.proofs.heads.super_ctor.Goals as goal

pub returns : goal.returns
returns c =
    let rows = c.args.table.now in
    IfOk-weaker c.ctor_in.result _ _ (λ a h. super_is rows c.keeps_rows.ensures c.args.class c.args.args.now a (h ∙ ap (λ o. ctor_answer rows c.args.class o (kinds_of c.args.args.now)) c.parent_of.ensures)) c.ctor_in.ensures
