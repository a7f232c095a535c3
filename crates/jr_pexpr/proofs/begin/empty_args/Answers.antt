use Rattle.std.proofs.Common.{◌∙◌, sym, ap, arith}
use Rattle.std.proofs.lemmas.Bool.{eqb-false}
use Rattle.jr_pexpr.specs.Machine.{emptied}
use Rattle.jr_pexpr.specs.Marked.{join}
use Rattle.jr_pexpr.specs.FrameView.{head_view}
use Rattle.jr_pexpr.specs.StackView.{stack}
use Rattle.jr_pexpr.proofs.Rows.{not_emptied}
use Rattle.jr_pexpr.proofs.begin.empty_args.Goals as goal

pub returns-then-not-is_empty : goal.returns-then-not-is_empty
returns-then-not-is_empty c =
    let at = rw c.in-Some-Args.field-0-is at c.in-Some-Args.ensures in
    not_emptied c.args.at (head_view c.in-Some-Args.head) c.in-Some-Args.args.items (stack c.pop_bracket.new.self)
    (λ e. eqb-false _ _ (sym c.is_empty.ensures ∙ c.if-not-is_empty.true) (omega (arith, c.in-Some-Args.args.ok.0)))
    ∙ ap (emptied join c.args.at) (sym at)
