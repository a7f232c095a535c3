use Rattle.std.proofs.lemmas.Result.{IfOk-weaker}
use Rattle.jr_ast.specs.View.{exprs_of}
use Rattle.jr_new_bodies.specs.OutputView.{gathered}
use Rattle.jr_new_files.proofs.Giving.{super_gives}
use Rattle.jr_new_files.proofs.supers.super_call.Goals as goal

pub super_ctor-requires : goal.super_ctor-requires
super_ctor-requires g c = record { file = c.requires.file; known = c.requires.known; ready = (c.requires.ready.0.3, c.requires.ready.1) }

pub exprs-requires : goal.exprs-requires
exprs-requires g c = record { known = c.requires.known; ready = c.requires.ready.0 }

pub returns : goal.returns
returns g c =
    IfOk-weaker c.exprs.result _ _ (λ _ x. λ n stands. super_gives c.args.here.now n (exprs_of c.args.args.now) c.args.span.from (gathered c.args.out.now) (gathered c.super_ctor.new.out) (gathered c.exprs.new.out)
    (c.in_ok-super_ctor.ensures n stands) x) c.exprs.ensures
