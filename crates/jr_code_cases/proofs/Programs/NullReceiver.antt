-- class A { int f; static int n; static int next() { n = n + 1; return n; }
-- static int go() { A a = null; a.f = next(); return n; } }
use Rattle.std.proofs.Common.{[], ◌∷◌, None, Some, false, refl, arith}
use Rattle.std.specs.Prelude.{codes}
use Rattle.jr_ast.specs.declared.operators.ModWord.TheVariants as word
use Rattle.jr_ast.specs.declared.operators.BinOp.TheVariants as operator
use Rattle.jr_ast.specs.Tree as tree
use Rattle.jr_ast.specs.StatementTree as statement
use Rattle.jr_ast.specs.MemberTree as syntax
use Rattle.jr_grammar.specs.Bare.{Bare}
use Rattle.jr_grammar.proofs.Cases.Forms.{w, v, ty}
use Rattle.jr_code_cases.specs.Cases.{number, text_of_null_receiver, NullReceiver}
use Rattle.jr_code_cases.proofs.Computing.{computing}
use Rattle.jr_code_cases.proofs.Showing.{shows}

abbrev unit : syntax.Unit Bare
unit = record { mark = tt; package_name = []; classes = ((syntax.class tt [] (w (codes "A")) None (syntax.more (syntax.field tt [] (tree.int tt) (w (codes "f")) None) (syntax.more (syntax.field tt ((record { mark = tt; word = word.Static }) ∷ []) (tree.int tt) (w (codes "n")) None) (syntax.more (syntax.method tt ((record { mark = tt; word = word.Static }) ∷ []) (Some (tree.int tt)) (w (codes "next")) [] (statement.more (statement.eval tt (tree.assign tt (v (codes "n")) (tree.binary tt operator.Add (v (codes "n")) (tree.number tt 1)))) (statement.more (statement.return tt (Some (v (codes "n")))) statement.end))) (syntax.more (syntax.method tt ((record { mark = tt; word = word.Static }) ∷ []) (Some (tree.int tt)) (w (codes "go")) [] (statement.more (statement.local tt false (ty (codes "A")) (w (codes "a")) (tree.null tt)) (statement.more (statement.eval tt (tree.assign tt (tree.field tt (v (codes "a")) (w (codes "f"))) (tree.call tt tree.no_target (w (codes "next")) tree.end))) (statement.more (statement.return tt (Some (v (codes "n")))) statement.end)))) syntax.end))))) ∷ []) }

pub shown : NullReceiver
unfolding computing
shown = shows text_of_null_receiver unit refl refl (grind arith) refl (λ s. refl) refl (refl, refl, (tt, (tt, ((refl, refl), ((refl, refl), tt)))), tt) (record { object = refl; thread = refl; run = refl; start = refl }) _ _ _ refl (((tt, (tt, (tt, (tt, tt)))), tt), tt) (record { answers = number 0 ∷ number 1 ∷ []; fuel = 4; out = _; trace_is = refl; end_is = refl; ending_is = refl }) (refl, tt, (tt, tt, (refl, tt, tt)))
