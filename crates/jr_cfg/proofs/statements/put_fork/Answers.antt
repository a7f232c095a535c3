use Rattle.std.proofs.Common.{[], ◌∷◌, ◌++◌, ap, ◌∙◌, append_assoc}
use Rattle.jr_expr_sites.specs.Steps as step
use Rattle.jr_expr_sites.specs.StepView.{steps_in}
use Rattle.jr_expr_sites.proofs.Walking.{on_ok_then, Seen}
use Rattle.jr_cfg.proofs.statements.put_fork.Goals as goal

pub returns : goal.returns
returns c key =
    on_ok_then c.put-2.result (λ h. h ∙ ap (λ (l : Seen). l ++ step.row ∷ []) (c.in_ok-put.ensures key) ∙ append_assoc (steps_in key c.args.out.now.items) (step.fork ∷ []) (step.row ∷ [])) (c.put-2.ensures key)
