use Rattle.std.proofs.Common.{◌≡◌, ◌++◌, ℕ, [], ◌∷◌, sym, ap, subst, ◌∙◌, append_assoc, arith}
use Rattle.std.proofs.lemmas.List.{append-nil}
use Rattle.jr_expr_sites.specs.Steps as step
use Rattle.jr_expr_sites.specs.StepView.{steps_in}
use Rattle.jr_expr_sites.proofs.Walking.{Seen, rows_more}
use Rattle.jr_expr_sites.proofs.puts.put_rows.Goals as goal

pub loop-number-init : goal.loop-number-init
loop-number-init c key = sym (append-nil (steps_in key c.args.out.now.items))

pub loop-number-preserved : goal.loop-number-preserved
loop-number-preserved c key =
    let n = c.loop-number._number in
    c.in_ok-put_row.ensures key ∙ ap (λ (l : Seen). l ++ step.row ∷ []) (c.loop-number.invariant key)
    ∙ append_assoc (steps_in key c.args.out.now.items) (step.rows n) (step.row ∷ []) ∙ ap (λ (l : Seen). steps_in key c.args.out.now.items ++ l) (sym (rows_more n))

pub returns : goal.returns
returns c key =
    let same : c.loop-number._number ≡ c.args.count = omega arith in
    subst (λ (n : ℕ). steps_in key c.loop-number.out.items ≡ steps_in key c.args.out.now.items ++ step.rows n) same (c.loop-number.invariant key)
