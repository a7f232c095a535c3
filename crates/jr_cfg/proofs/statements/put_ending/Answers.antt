use Rattle.std.proofs.Common.{◌≡◌, [], ◌∷◌, ◌++◌, ap, sym, subst, ◌∙◌, append_assoc}
use Rattle.jr_cfg.specs.declared.statements.Ending.{Ending}
use Rattle.jr_expr_sites.specs.Steps as step
use Rattle.jr_expr_sites.specs.StepView.{steps_in}
use Rattle.jr_cfg.specs.StatementRoutes.{ending_steps}
use Rattle.jr_expr_sites.proofs.Walking.{on_ok_then, Seen}
use Rattle.jr_cfg.proofs.statements.put_ending.Goals as goal

pub returns-in_ok-put-in-Yes : goal.returns-in_ok-put-in-Yes
returns-in_ok-put-in-Yes c key =
    let o = steps_in key c.args.out.now.items in
    on_ok_then c.put_fork.result (λ h. subst (λ (e : Ending). steps_in key c.put_fork.new.out.items ≡ o ++ ending_steps e) (sym c.in-Yes.is)
    (h ∙ ap (λ (l : Seen). l ++ (step.fork ∷ step.row ∷ [])) (c.in_ok-put-in-Yes.ensures key) ∙ append_assoc o (step.pass ∷ []) (step.fork ∷ step.row ∷ []))) (c.put_fork.ensures key)

pub returns-in-No : goal.returns-in-No
returns-in-No c key =
    let o = steps_in key c.args.out.now.items in
    on_ok_then c.put_fork-in-No.result (λ h. subst (λ (e : Ending). steps_in key c.put_fork-in-No.new.out.items ≡ o ++ ending_steps e) (sym c.in-No.is) h) (c.put_fork-in-No.ensures key)

pub returns-in-Turn : goal.returns-in-Turn
returns-in-Turn c key =
    let o = steps_in key c.args.out.now.items in
    on_ok_then c.put-in-Turn.result (λ h. subst (λ (e : Ending). steps_in key c.put-in-Turn.new.out.items ≡ o ++ ending_steps e) (sym c.in-Turn.is) h) (c.put-in-Turn.ensures key)
