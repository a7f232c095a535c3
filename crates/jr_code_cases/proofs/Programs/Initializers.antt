-- class A { static int n; int x = 1; A() { m(); } void m() { n = x; } }
-- class B extends A { int y = 5; void m() { n = y; }
-- static int go() { B b = new B(); return n * 10 + b.y; } }
use Rattle.std.proofs.Common.{[], ◌∷◌, None, Some, false, refl, arith}
use Rattle.std.specs.Prelude.{codes}
use Rattle.jr_ast.specs.declared.operators.ModWord.TheVariants as word
use Rattle.jr_ast.specs.declared.operators.BinOp.TheVariants as operator
use Rattle.jr_ast.specs.Tree as tree
use Rattle.jr_ast.specs.StatementTree as statement
use Rattle.jr_ast.specs.MemberTree as syntax
use Rattle.jr_grammar.specs.Bare.{Bare}
use Rattle.jr_grammar.proofs.Cases.Forms.{w, v, ty}
use Rattle.jr_code_cases.specs.Cases.{number, a_b, text_of_initializers, Initializers}
use Rattle.jr_code_cases.proofs.Computing.{computing}
use Rattle.jr_code_cases.proofs.Showing.{shows}

abbrev unit : syntax.Unit Bare
unit = record { mark = tt; package_name = []; classes = ((syntax.class tt [] (w (codes "A")) None (syntax.more (syntax.field tt ((record { mark = tt; word = word.Static }) ∷ []) (tree.int tt) (w (codes "n")) None) (syntax.more (syntax.field tt [] (tree.int tt) (w (codes "x")) (Some (tree.number tt 1))) (syntax.more (syntax.constructor tt [] (w (codes "A")) [] None (statement.more (statement.eval tt (tree.call tt tree.no_target (w (codes "m")) tree.end)) statement.end)) (syntax.more (syntax.method tt [] None (w (codes "m")) [] (statement.more (statement.eval tt (tree.assign tt (v (codes "n")) (v (codes "x")))) statement.end)) syntax.end))))) ∷ (syntax.class tt [] (w (codes "B")) (Some (ty (codes "A"))) (syntax.more (syntax.field tt [] (tree.int tt) (w (codes "y")) (Some (tree.number tt 5))) (syntax.more (syntax.method tt [] None (w (codes "m")) [] (statement.more (statement.eval tt (tree.assign tt (v (codes "n")) (v (codes "y")))) statement.end)) (syntax.more (syntax.method tt ((record { mark = tt; word = word.Static }) ∷ []) (Some (tree.int tt)) (w (codes "go")) [] (statement.more (statement.local tt false (ty (codes "B")) (w (codes "b")) (tree.create tt (ty (codes "B")) tree.end)) (statement.more (statement.return tt (Some (tree.binary tt operator.Add (tree.binary tt operator.Mul (v (codes "n")) (tree.number tt 10)) (tree.field tt (v (codes "b")) (w (codes "y")))))) statement.end))) syntax.end)))) ∷ []) }

pub shown : Initializers
unfolding computing
shown = shows text_of_initializers unit refl refl (grind arith) refl (λ s. refl) refl (refl, tt, (tt, (tt, ((refl, refl), ((refl, refl), tt)))), (refl, refl, (tt, ((refl, refl), ((refl, refl), tt))), tt)) (record { object = refl; thread = refl; run = refl; start = refl }) _ _ _ refl (((tt, (tt, (tt, (tt, tt)))), ((tt, (tt, (tt, tt))), tt)), tt) (record { answers = a_b ∷ number 0 ∷ number 0 ∷ number 5 ∷ []; fuel = 6; out = _; trace_is = refl; end_is = refl; ending_is = refl }) (refl, tt, (tt, tt, (refl, tt, (tt, tt, (tt, tt, (refl, tt, (refl, tt, tt)))))))
