use Rattle.std.proofs.lemmas.Result.{IfOk-weaker}
use Rattle.jr_ast.specs.View.{type_of}
use Rattle.jr_table.specs.HeadRules.{plain}
use Rattle.std.proofs.Common.{false}
use Rattle.jr_new_bodies.specs.OutputView.{gathered}
use Rattle.jr_new_files.specs.Walking.{key_of}
use Rattle.jr_new_files.proofs.Placing.{type_there, type_back}
use Rattle.jr_new_files.proofs.fields.class_type.Goals as goal

pub written_type-done-requires : goal.written_type-done-requires
written_type-done-requires c =
    let w = c.args.of.now in
    let here = c.in_ok-here.ensures in
    record { known = here.known; fits = c.requires.ready.0; bound = type_there w c.in_ok-here.here (plain (key_of w) false) here c.args.at (type_of c.args.ty.now) c.requires.ready }

pub returns : goal.returns
returns c =
    let w = c.args.of.now in
    IfOk-weaker c.written_type-done.result _ _ (λ _ x. type_back w c.in_ok-here.here (plain (key_of w) false) c.in_ok-here.ensures c.args.at (type_of c.args.ty.now) (gathered c.args.out.now) (gathered c.written_type-done.new.out) x) c.written_type-done.ensures
