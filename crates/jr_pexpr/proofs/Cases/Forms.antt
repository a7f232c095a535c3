-- What the machine tells of a case.
use Rattle.std.proofs.Common.{◌≡◌, List, Option, Some, None, sym, ap, ◌∙◌}
use Rattle.std.specs.Prelude.{option_and_then}
use Rattle.jr_ast.specs.Tree.{Exp}
use Rattle.jr_grammar.specs.Tokens.{Token}
use Rattle.jr_grammar.specs.Bare.{Bare}
use Rattle.jr_grammar.specs.Expressions.{IsNoExpression, IsNoStatementExpression}
use Rattle.jr_pexpr.specs.BareMachine.{bare_run, bare_whole, bare_statement_run, bare_statement_whole}
use Rattle.jr_pexpr.proofs.Reading.{start, reads}
use Rattle.jr_pexpr.proofs.Statements.{statement_reads}

-- the machine tells
abbrev pub read_of : List Token → Option (Exp Bare)
read_of tokens = option_and_then bare_whole (bare_run start tokens)

abbrev pub statement_of : List Token → Option (Exp Bare)
statement_of tokens = option_and_then bare_statement_whole (bare_statement_run start tokens)

pub expression_refused : (tokens : List Token) → read_of tokens ≡ None → IsNoExpression tokens
expression_refused tokens h tree k = let q : Some tree ≡ None = sym (reads tree k.shaped) ∙ ap read_of k.spells ∙ h in cc

pub statement_refused : (tokens : List Token) → statement_of tokens ≡ None → IsNoStatementExpression tokens
statement_refused tokens h tree k = let q : Some tree ≡ None = sym (statement_reads tree k.shaped) ∙ ap statement_of k.spells ∙ h in cc
