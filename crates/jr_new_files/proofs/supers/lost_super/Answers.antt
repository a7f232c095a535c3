use Rattle.std.proofs.Common.{ℕ, subst}
use Rattle.std.proofs.lemmas.Result.{IfOk-weaker}
use Rattle.jr_ast.specs.View.{exprs_of}
use Rattle.jr_new_bodies.specs.OutputView.{gathered}
use Rattle.jr_new_files.specs.Supers.{CallGathers}
use Rattle.jr_new_files.proofs.supers.lost_super.Goals as goal

pub returns : goal.returns
returns g c =
    IfOk-weaker c.lost_at.result _ _ (λ _ x. λ n stands. subst (λ (i : ℕ). CallGathers c.args.here.now i (exprs_of c.args.args.now) (gathered c.args.out.now) (gathered c.lost_at.new.out)) (c.super_at-at.ensures n stands) x) c.lost_at.ensures
