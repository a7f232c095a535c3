use Rattle.std.proofs.Common.{◌≡◌, List, [], ◌++◌, ap, sym, refl, ◌∙◌, append_assoc, arith}
use Rattle.std.proofs.lemmas.List.{append-nil}
use Rattle.jr_cfg.specs.declared.statements.Ending.{Ending}
use Rattle.jr_expr_sites.specs.StepView.{steps_in}
use Rattle.jr_cfg.specs.StatementRoutes.{endings_steps, ending_steps}
use Rattle.jr_expr_sites.proofs.Walking.{Seen}
use Rattle.jr_cfg.proofs.Standing as standing
use Rattle.jr_cfg.proofs.statements.put_endings.Goals as goal

pub loop-endings-init : goal.loop-endings-init
loop-endings-init c key = refl

pub returns-in-None : goal.returns-in-None
returns-in-None c key =
    let l = c.loop-endings in
    let none : l.endings.items ≡ [] = standing.no_items l.endings.items (sym l.endings.ok.0 ∙ c.in-None.ensures.cases.0) in
    sym (append-nil (steps_in key l.out.items)) ∙ ap (λ (es : List Ending). steps_in key l.out.items ++ endings_steps es) (sym none) ∙ l.invariant key

pub loop-endings-preserved : goal.loop-endings-preserved
loop-endings-preserved c key =
    let l = c.loop-endings in
    let o = steps_in key l.out.items in
    let e = c.in-Some.ending in
    let rest = c.pop.new.self.items in
    ap (λ (s : Seen). s ++ endings_steps rest) (c.in_ok-put_ending-in-Some.ensures key) ∙ append_assoc o (ending_steps e) (endings_steps rest)
    ∙ ap (λ (s : Seen). o ++ s) (sym (standing.one_ending rest l.endings.items e c.in-Some.ensures.items)) ∙ l.invariant key

pub loop-endings-smaller : goal.loop-endings-smaller
loop-endings-smaller c = let less = c.in-Some.ensures.cases in omega (arith, less)
