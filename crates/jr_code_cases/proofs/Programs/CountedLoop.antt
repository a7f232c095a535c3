-- class A { static int s;
-- static int go() { int i = 0; while (i < 3) { s += i; i++; } return s; } }
use Rattle.std.proofs.Common.{[], ◌∷◌, None, Some, false, refl, arith}
use Rattle.std.specs.Prelude.{codes}
use Rattle.jr_ast.specs.declared.operators.ModWord.TheVariants as word
use Rattle.jr_ast.specs.declared.operators.BinOp.TheVariants as operator
use Rattle.jr_ast.specs.declared.operators.BumpOp.TheVariants as step
use Rattle.jr_ast.specs.Tree as tree
use Rattle.jr_ast.specs.StatementTree as statement
use Rattle.jr_ast.specs.MemberTree as syntax
use Rattle.jr_grammar.specs.Bare.{Bare}
use Rattle.jr_grammar.proofs.Cases.Forms.{w, v}
use Rattle.jr_code_cases.specs.Cases.{number, text_of_counted_loop, CountedLoop}
use Rattle.jr_code_cases.proofs.Computing.{computing}
use Rattle.jr_code_cases.proofs.Showing.{shows}

abbrev unit : syntax.Unit Bare
unit = record { mark = tt; package_name = []; classes = ((syntax.class tt [] (w (codes "A")) None (syntax.more (syntax.field tt ((record { mark = tt; word = word.Static }) ∷ []) (tree.int tt) (w (codes "s")) None) (syntax.more (syntax.method tt ((record { mark = tt; word = word.Static }) ∷ []) (Some (tree.int tt)) (w (codes "go")) [] (statement.more (statement.local tt false (tree.int tt) (w (codes "i")) (tree.number tt 0)) (statement.more (statement.loop tt (tree.binary tt operator.Lt (v (codes "i")) (tree.number tt 3)) (statement.block tt (statement.more (statement.eval tt (tree.compound tt operator.Add (v (codes "s")) (v (codes "i")))) (statement.more (statement.eval tt (tree.bump tt step.PostInc (v (codes "i")))) statement.end)))) (statement.more (statement.return tt (Some (v (codes "s")))) statement.end)))) syntax.end))) ∷ []) }

pub shown : CountedLoop
unfolding computing
shown = shows text_of_counted_loop unit refl refl (grind arith) refl (λ s. refl) refl (refl, refl, (tt, ((refl, refl), tt)), tt) (record { object = refl; thread = refl; run = refl; start = refl }) _ _ _ refl (((tt, (tt, tt)), tt), tt) (record { answers = number 0 ∷ number 0 ∷ number 1 ∷ number 3 ∷ []; fuel = 8; out = _; trace_is = refl; end_is = refl; ending_is = refl }) (refl, tt, (tt, tt, (refl, tt, (tt, tt, (refl, tt, (tt, tt, (refl, tt, tt)))))))
