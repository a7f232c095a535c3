-- class A { int f; static int go() { A a = new A(); a.f = 5;
-- int x = a.f++; a.f += x; return a.f; } }
use Rattle.std.proofs.Common.{[], ◌∷◌, None, Some, false, refl, arith}
use Rattle.std.specs.Prelude.{codes}
use Rattle.jr_ast.specs.declared.operators.ModWord.TheVariants as word
use Rattle.jr_ast.specs.declared.operators.BinOp.TheVariants as operator
use Rattle.jr_ast.specs.declared.operators.BumpOp.TheVariants as step
use Rattle.jr_ast.specs.Tree as tree
use Rattle.jr_ast.specs.StatementTree as statement
use Rattle.jr_ast.specs.MemberTree as syntax
use Rattle.jr_grammar.specs.Bare.{Bare}
use Rattle.jr_grammar.proofs.Cases.Forms.{w, v, ty}
use Rattle.jr_code_cases.specs.Cases.{number, an_a, text_of_bumps, Bumps}
use Rattle.jr_code_cases.proofs.Computing.{computing}
use Rattle.jr_code_cases.proofs.Showing.{shows}

abbrev unit : syntax.Unit Bare
unit = record { mark = tt; package_name = []; classes = ((syntax.class tt [] (w (codes "A")) None (syntax.more (syntax.field tt [] (tree.int tt) (w (codes "f")) None) (syntax.more (syntax.method tt ((record { mark = tt; word = word.Static }) ∷ []) (Some (tree.int tt)) (w (codes "go")) [] (statement.more (statement.local tt false (ty (codes "A")) (w (codes "a")) (tree.create tt (ty (codes "A")) tree.end)) (statement.more (statement.eval tt (tree.assign tt (tree.field tt (v (codes "a")) (w (codes "f"))) (tree.number tt 5))) (statement.more (statement.local tt false (tree.int tt) (w (codes "x")) (tree.bump tt step.PostInc (tree.field tt (v (codes "a")) (w (codes "f"))))) (statement.more (statement.eval tt (tree.compound tt operator.Add (tree.field tt (v (codes "a")) (w (codes "f"))) (v (codes "x")))) (statement.more (statement.return tt (Some (tree.field tt (v (codes "a")) (w (codes "f"))))) statement.end)))))) syntax.end))) ∷ []) }

pub shown : Bumps
unfolding computing
shown = shows text_of_bumps unit refl refl (grind arith) refl (λ s. refl) refl (refl, refl, (tt, ((refl, refl), tt)), tt) (record { object = refl; thread = refl; run = refl; start = refl }) _ _ _ refl (((tt, (tt, tt)), tt), tt) (record { answers = an_a ∷ number 5 ∷ number 6 ∷ number 11 ∷ []; fuel = 4; out = _; trace_is = refl; end_is = refl; ending_is = refl }) (refl, tt, (tt, tt, (refl, tt, (tt, tt, (refl, tt, (tt, tt, (refl, tt, tt)))))))
