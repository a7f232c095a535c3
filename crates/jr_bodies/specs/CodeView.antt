-- The pure code that that of the calls stands for.
use Rattle.std.specs.Prelude.{map}
use Rattle.jr_ast.specs.View.{param_of, stmts_of}
use Rattle.jr_bodies.specs.declared.codes.Code as raw
use Rattle.jr_bodies.specs.MemberCode.{Code}

abbrev pub code_of : raw.Code → Code
code_of x = record {
  params = map param_of x.params.now;
  list = stmts_of x.list.now;
  front = x.front;
}
