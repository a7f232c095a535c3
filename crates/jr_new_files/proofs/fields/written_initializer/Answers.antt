use Rattle.std.proofs.lemmas.Result.{IfOk-weaker}
use Rattle.std.specs.Prelude.{option_map}
use Rattle.jr_ast.specs.View.{expr_of}
use Rattle.jr_table.specs.HeadRules.{plain}
use Rattle.jr_new_bodies.specs.OutputView.{gathered}
use Rattle.jr_new_files.specs.Walking.{key_of}
use Rattle.jr_new_files.proofs.Placing.{init_there, init_back}
use Rattle.jr_new_files.proofs.fields.written_initializer.Goals as goal

pub maybe-done-requires : goal.maybe-done-requires
maybe-done-requires c =
    let w = c.args.of.now in
    let here = c.in_ok-here.ensures in
    record {
      known = here.known;
      ready = init_there w c.in_ok-here.here (plain (key_of w) c.args.is_static) here c.no_path-path.result.steps.items c.no_path-path.ensures c.args.step c.args.at (option_map expr_of c.args.init.now) c.requires.ready;
    }

pub returns : goal.returns
returns c =
    let w = c.args.of.now in
    IfOk-weaker c.maybe-done.result _ _ (λ _ x. init_back w c.in_ok-here.here (plain (key_of w) c.args.is_static) c.in_ok-here.ensures c.args.at (option_map expr_of c.args.init.now) (gathered c.args.out.now) (gathered c.maybe-done.new.out) x) c.maybe-done.ensures
