-- class A { int f; synchronized int up() { f++; return f; }
-- static int go() { A a = new A(); return a.up(); } }
use Rattle.std.proofs.Common.{[], ◌∷◌, None, Some, false, refl, arith}
use Rattle.std.specs.Prelude.{codes}
use Rattle.jr_ast.specs.declared.operators.ModWord.TheVariants as word
use Rattle.jr_ast.specs.declared.operators.BumpOp.TheVariants as step
use Rattle.jr_ast.specs.Tree as tree
use Rattle.jr_ast.specs.StatementTree as statement
use Rattle.jr_ast.specs.MemberTree as syntax
use Rattle.jr_grammar.specs.Bare.{Bare}
use Rattle.jr_grammar.proofs.Cases.Forms.{w, v, ty}
use Rattle.jr_code_cases.specs.Cases.{number, an_a, text_of_monitor, Monitor}
use Rattle.jr_code_cases.proofs.Computing.{computing}
use Rattle.jr_code_cases.proofs.Showing.{shows}

abbrev unit : syntax.Unit Bare
unit = record { mark = tt; package_name = []; classes = ((syntax.class tt [] (w (codes "A")) None (syntax.more (syntax.field tt [] (tree.int tt) (w (codes "f")) None) (syntax.more (syntax.method tt ((record { mark = tt; word = word.Synchronized }) ∷ []) (Some (tree.int tt)) (w (codes "up")) [] (statement.more (statement.eval tt (tree.bump tt step.PostInc (v (codes "f")))) (statement.more (statement.return tt (Some (v (codes "f")))) statement.end))) (syntax.more (syntax.method tt ((record { mark = tt; word = word.Static }) ∷ []) (Some (tree.int tt)) (w (codes "go")) [] (statement.more (statement.local tt false (ty (codes "A")) (w (codes "a")) (tree.create tt (ty (codes "A")) tree.end)) (statement.more (statement.return tt (Some (tree.call tt (tree.on (v (codes "a"))) (w (codes "up")) tree.end))) statement.end))) syntax.end)))) ∷ []) }

pub shown : Monitor
unfolding computing
shown = shows text_of_monitor unit refl refl (grind arith) refl (λ s. refl) refl (refl, refl, (tt, ((refl, refl), ((refl, refl), tt))), tt) (record { object = refl; thread = refl; run = refl; start = refl }) _ _ _ refl (((tt, (tt, (tt, tt))), tt), tt) (record { answers = an_a ∷ number 0 ∷ number 1 ∷ []; fuel = 4; out = _; trace_is = refl; end_is = refl; ending_is = refl }) (refl, tt, (refl, tt, (refl, tt, (tt, tt, (refl, tt, (tt, tt, tt))))))
