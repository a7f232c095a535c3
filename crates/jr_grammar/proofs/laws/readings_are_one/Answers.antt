use Rattle.jr_ast.specs.Tree.{Exp}
use Rattle.jr_ast.specs.StatementTree.{Stmts}
use Rattle.jr_ast.specs.MemberTree.{Member, Unit as UnitTree}
use Rattle.jr_grammar.specs.Spelling.{toks}
use Rattle.jr_grammar.specs.Shape.{Shaped, ShapedStatement}
use Rattle.jr_grammar.specs.StatementSpelling.{stmts_toks}
use Rattle.jr_grammar.specs.StatementShape.{StmtsShaped}
use Rattle.jr_grammar.specs.MemberSpelling.{member_toks, unit_toks}
use Rattle.jr_grammar.specs.MemberShape.{MemberShaped, UnitShaped}
use Rattle.jr_grammar.specs.Bare.{Bare}
use Rattle.jr_grammar.proofs.OneAnswer.{one_reading}
use Rattle.jr_grammar.proofs.laws.readings_are_one.Goals as goal

pub returns-clause-expressions : goal.returns-clause-expressions
returns-clause-expressions c = one_reading (Exp Bare) toks Shaped

pub returns-clause-statement_expressions : goal.returns-clause-statement_expressions
returns-clause-statement_expressions c = one_reading (Exp Bare) toks ShapedStatement

pub returns-clause-lists : goal.returns-clause-lists
returns-clause-lists c = one_reading (Stmts Bare) stmts_toks StmtsShaped

pub returns-clause-members : goal.returns-clause-members
returns-clause-members c nested name = one_reading (Member Bare) member_toks (MemberShaped nested name)

pub returns-clause-units : goal.returns-clause-units
returns-clause-units c = one_reading (UnitTree Bare) unit_toks UnitShaped
