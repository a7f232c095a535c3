use Rattle.std.proofs.Common.{drop, map, false}
use Rattle.jr_ast.specs.View.{param_of}
use Rattle.jr_table.specs.HeadRules.{plain}
use Rattle.jr_new_bodies.specs.OutputView.{gathered}
use Rattle.jr_new_files.specs.Walking.{key_of, rows_of, mapping_of}
use Rattle.jr_new_files.specs.Ready.{ParamsReady}
use Rattle.jr_new_files.proofs.Giving.{Left}
use Rattle.jr_new_files.proofs.methods.parameters.Given as goal

-- what is left is ready, and with what it gives, all is given
abbrev pub invariant-loop-param : goal.invariant-loop-param
invariant-loop-param l = record {
  ready : ParamsReady (rows_of l.of) (plain (key_of l.of) false) (map param_of (drop l.param-index l.params));
  gives : Left (rows_of l.of) (mapping_of l.of) (key_of l.of) l.params (gathered l.fn.out) (gathered l.out) l.number (drop l.param-index l.params);
}
