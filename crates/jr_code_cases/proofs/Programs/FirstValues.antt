-- class A { static int t = 7; static boolean b = true; static int u;
-- static int go() { if (b) u = t * 3; return u; } }
use Rattle.std.proofs.Common.{[], ◌∷◌, None, Some, true, refl, arith}
use Rattle.std.specs.Prelude.{codes}
use Rattle.jr_ast.specs.declared.operators.ModWord.TheVariants as word
use Rattle.jr_ast.specs.declared.operators.BinOp.TheVariants as operator
use Rattle.jr_ast.specs.Tree as tree
use Rattle.jr_ast.specs.StatementTree as statement
use Rattle.jr_ast.specs.MemberTree as syntax
use Rattle.jr_grammar.specs.Bare.{Bare}
use Rattle.jr_grammar.proofs.Cases.Forms.{w, v}
use Rattle.jr_runs.specs.Values.{truth}
use Rattle.jr_code_cases.specs.Cases.{number, text_of_first_values, FirstValues}
use Rattle.jr_code_cases.proofs.Computing.{computing}
use Rattle.jr_code_cases.proofs.Showing.{shows}

abbrev unit : syntax.Unit Bare
unit = record { mark = tt; package_name = []; classes = ((syntax.class tt [] (w (codes "A")) None (syntax.more (syntax.field tt ((record { mark = tt; word = word.Static }) ∷ []) (tree.int tt) (w (codes "t")) (Some (tree.number tt 7))) (syntax.more (syntax.field tt ((record { mark = tt; word = word.Static }) ∷ []) (tree.boolean tt) (w (codes "b")) (Some (tree.truth tt true))) (syntax.more (syntax.field tt ((record { mark = tt; word = word.Static }) ∷ []) (tree.int tt) (w (codes "u")) None) (syntax.more (syntax.method tt ((record { mark = tt; word = word.Static }) ∷ []) (Some (tree.int tt)) (w (codes "go")) [] (statement.more (statement.branch tt (v (codes "b")) (statement.eval tt (tree.assign tt (v (codes "u")) (tree.binary tt operator.Mul (v (codes "t")) (tree.number tt 3)))) statement.no_else) (statement.more (statement.return tt (Some (v (codes "u")))) statement.end))) syntax.end))))) ∷ []) }

pub shown : FirstValues
unfolding computing
shown = shows text_of_first_values unit refl refl (grind arith) refl (λ s. refl) refl (refl, refl, (tt, (tt, (tt, ((refl, refl), tt)))), tt) (record { object = refl; thread = refl; run = refl; start = refl }) _ _ _ refl (((refl, (refl, (tt, (tt, tt)))), tt), tt) (record { answers = truth true ∷ number 7 ∷ number 21 ∷ []; fuel = 4; out = _; trace_is = refl; end_is = refl; ending_is = refl }) (refl, tt, (refl, tt, (tt, tt, (refl, tt, tt))))
