-- class A { static int go() { int x = 2147483647; x += 1; int y = -x;
-- return y / 3 % 10; } }
use Rattle.std.proofs.Common.{[], ◌∷◌, None, Some, false, refl, arith}
use Rattle.std.specs.Prelude.{codes}
use Rattle.jr_ast.specs.declared.operators.ModWord.TheVariants as word
use Rattle.jr_ast.specs.declared.operators.BinOp.TheVariants as operator
use Rattle.jr_ast.specs.declared.operators.UnOp.TheVariants as sign
use Rattle.jr_ast.specs.Tree as tree
use Rattle.jr_ast.specs.StatementTree as statement
use Rattle.jr_ast.specs.MemberTree as syntax
use Rattle.jr_grammar.specs.Bare.{Bare}
use Rattle.jr_grammar.proofs.Cases.Forms.{w, v}
use Rattle.jr_code_cases.specs.Cases.{text_of_overflow, Overflow}
use Rattle.jr_code_cases.proofs.Computing.{computing}
use Rattle.jr_code_cases.proofs.Showing.{shows_only}

abbrev unit : syntax.Unit Bare
unit = record { mark = tt; package_name = []; classes = ((syntax.class tt [] (w (codes "A")) None (syntax.more (syntax.method tt ((record { mark = tt; word = word.Static }) ∷ []) (Some (tree.int tt)) (w (codes "go")) [] (statement.more (statement.local tt false (tree.int tt) (w (codes "x")) (tree.number tt 2147483647)) (statement.more (statement.eval tt (tree.compound tt operator.Add (v (codes "x")) (tree.number tt 1))) (statement.more (statement.local tt false (tree.int tt) (w (codes "y")) (tree.unary tt sign.Minus (v (codes "x")))) (statement.more (statement.return tt (Some (tree.binary tt operator.Rem (tree.binary tt operator.Div (v (codes "y")) (tree.number tt 3)) (tree.number tt 10)))) statement.end))))) syntax.end)) ∷ []) }

pub shown : Overflow
unfolding computing
shown = shows_only text_of_overflow unit refl refl (grind arith) refl (λ s. refl) refl (refl, refl, ((refl, refl), tt), tt) (record { object = refl; thread = refl; run = refl; start = refl }) _ _ _ refl (((tt, tt), tt), tt) 4 _ refl refl refl tt
