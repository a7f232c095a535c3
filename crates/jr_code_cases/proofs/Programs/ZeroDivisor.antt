-- class A { static int d;
-- static int go() { d = 1; d = 7 / (d - 1); return d; } }
use Rattle.std.proofs.Common.{[], ◌∷◌, None, Some, refl, arith}
use Rattle.std.specs.Prelude.{codes}
use Rattle.jr_ast.specs.declared.operators.ModWord.TheVariants as word
use Rattle.jr_ast.specs.declared.operators.BinOp.TheVariants as operator
use Rattle.jr_ast.specs.Tree as tree
use Rattle.jr_ast.specs.StatementTree as statement
use Rattle.jr_ast.specs.MemberTree as syntax
use Rattle.jr_grammar.specs.Bare.{Bare}
use Rattle.jr_grammar.proofs.Cases.Forms.{w, v}
use Rattle.jr_code_cases.specs.Cases.{number, text_of_zero_divisor, ZeroDivisor}
use Rattle.jr_code_cases.proofs.Computing.{computing}
use Rattle.jr_code_cases.proofs.Showing.{shows}

abbrev unit : syntax.Unit Bare
unit = record { mark = tt; package_name = []; classes = ((syntax.class tt [] (w (codes "A")) None (syntax.more (syntax.field tt ((record { mark = tt; word = word.Static }) ∷ []) (tree.int tt) (w (codes "d")) None) (syntax.more (syntax.method tt ((record { mark = tt; word = word.Static }) ∷ []) (Some (tree.int tt)) (w (codes "go")) [] (statement.more (statement.eval tt (tree.assign tt (v (codes "d")) (tree.number tt 1))) (statement.more (statement.eval tt (tree.assign tt (v (codes "d")) (tree.binary tt operator.Div (tree.number tt 7) (tree.paren tt (tree.binary tt operator.Sub (v (codes "d")) (tree.number tt 1)))))) (statement.more (statement.return tt (Some (v (codes "d")))) statement.end)))) syntax.end))) ∷ []) }

pub shown : ZeroDivisor
unfolding computing
shown = shows text_of_zero_divisor unit refl refl (grind arith) refl (λ s. refl) refl (refl, refl, (tt, ((refl, refl), tt)), tt) (record { object = refl; thread = refl; run = refl; start = refl }) _ _ _ refl (((tt, (tt, tt)), tt), tt) (record { answers = number 1 ∷ []; fuel = 4; out = _; trace_is = refl; end_is = refl; ending_is = refl }) (tt, tt, (refl, tt, tt))
