use Rattle.std.proofs.Common.{ap}
use Rattle.jr_ast.specs.View.{stmts_of}
use Rattle.jr_extract_lists.proofs.Places.{no_statement}
use Rattle.jr_extract_lists.proofs.walks.statement_of.Goals as goal

pub returns : goal.returns
returns c = ap stmts_of c.in-Some.ensures.cases.0

pub unreachable-requires : goal.unreachable-requires
unreachable-requires c = no_statement c.args.of.now c.in-None.ensures.cases c.requires
