-- What a case says, and short names for its parts.
use Rattle.std.proofs.Common.{ℕ, List, Some, None}
use Rattle.jr_ast.specs.Tree.{Word, TypeName, named, Exp, name}
use Rattle.jr_ast.specs.StatementTree.{Stmt}
use Rattle.jr_ast.specs.MemberTree.{Unit as UnitTree}
use Rattle.jr_grammar.specs.Tokens.{Token}
use Rattle.jr_grammar.specs.Expressions.{IsExpression, IsStatementExpression}
use Rattle.jr_grammar.specs.Units.{IsStatement, IsUnit}
use Rattle.jr_grammar.specs.Bare.{Bare}

-- the tokens are this expression without marks
abbrev pub BareExpression : List Token → Exp Bare → Type 0
BareExpression tokens tree = IsExpression tokens tree

abbrev pub BareStatementExpression : List Token → Exp Bare → Type 0
BareStatementExpression tokens tree = IsStatementExpression tokens tree

-- this statement
abbrev pub BareStatement : List Token → Stmt Bare → Type 0
BareStatement tokens stmt = IsStatement tokens stmt

-- this unit
abbrev pub BareUnit : List Token → UnitTree Bare → Type 0
BareUnit tokens unit = IsUnit tokens unit

abbrev pub w : List ℕ → Word Bare
w x = record { mark = tt; text = x }

-- a variable's name
abbrev pub v : List ℕ → Exp Bare
v x = name tt (w x)

-- a class's name
abbrev pub ty : List ℕ → TypeName Bare
ty x = named tt None (w x)

-- a class's name behind that of its outer class
abbrev pub tyin : List ℕ → List ℕ → TypeName Bare
tyin o x = named tt (Some (w o)) (w x)
