use Rattle.std.proofs.Common.{true, map}
use Rattle.std.proofs.lemmas.Result.{IfOk-weaker}
use Rattle.jr_ast.specs.View.{param_of, exprs_of}
use Rattle.jr_table.specs.HeadRules.{with_parameters}
use Rattle.jr_new_bodies.specs.OutputView.{gathered}
use Rattle.jr_new_files.specs.Walking.{key_of}
use Rattle.jr_new_files.proofs.Placing.{super_there, super_back}
use Rattle.jr_new_files.proofs.ctors.super_part.Goals as goal

pub super_call-done-requires : goal.super_call-done-requires
super_call-done-requires g c =
    let w = c.args.of.now in
    let x = with_parameters (key_of w) true (map param_of c.args.params.now) in
    record {
      file = c.requires.file;
      known = c.in_ok-here.ensures.known;
      ready = super_there w c.in_ok-here.here x c.in_ok-here.ensures c.no_path-path.result.steps.items c.no_path-path.ensures c.args.first c.args.span.from (exprs_of c.args.args.now) c.requires.ready;
    }

pub returns : goal.returns
returns g c =
    let w = c.args.of.now in
    let x = with_parameters (key_of w) true (map param_of c.args.params.now) in
    let n = (g.V.View.program c.args.view.now).super_at (key_of w) in
    IfOk-weaker c.super_call-done.result _ _ (λ _ y. super_back w c.in_ok-here.here x c.in_ok-here.ensures n c.args.span.from (exprs_of c.args.args.now) (gathered c.args.out.now) (gathered c.super_call-done.new.out) (y n c.requires.stands)) c.super_call-done.ensures
