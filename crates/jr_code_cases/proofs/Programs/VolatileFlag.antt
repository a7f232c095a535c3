-- class A { static volatile boolean flag; static int data;
-- static int go() { data = 42; flag = true; if (flag) return data; return 0; } }
use Rattle.std.proofs.Common.{[], ◌∷◌, None, Some, true, refl, arith}
use Rattle.std.specs.Prelude.{codes}
use Rattle.jr_ast.specs.declared.operators.ModWord.TheVariants as word
use Rattle.jr_ast.specs.Tree as tree
use Rattle.jr_ast.specs.StatementTree as statement
use Rattle.jr_ast.specs.MemberTree as syntax
use Rattle.jr_grammar.specs.Bare.{Bare}
use Rattle.jr_grammar.proofs.Cases.Forms.{w, v}
use Rattle.jr_runs.specs.Values.{truth}
use Rattle.jr_code_cases.specs.Cases.{number, text_of_volatile_flag, VolatileFlag}
use Rattle.jr_code_cases.proofs.Computing.{computing}
use Rattle.jr_code_cases.proofs.Showing.{shows}

abbrev unit : syntax.Unit Bare
unit = record { mark = tt; package_name = []; classes = ((syntax.class tt [] (w (codes "A")) None (syntax.more (syntax.field tt ((record { mark = tt; word = word.Static }) ∷ (record { mark = tt; word = word.Volatile }) ∷ []) (tree.boolean tt) (w (codes "flag")) None) (syntax.more (syntax.field tt ((record { mark = tt; word = word.Static }) ∷ []) (tree.int tt) (w (codes "data")) None) (syntax.more (syntax.method tt ((record { mark = tt; word = word.Static }) ∷ []) (Some (tree.int tt)) (w (codes "go")) [] (statement.more (statement.eval tt (tree.assign tt (v (codes "data")) (tree.number tt 42))) (statement.more (statement.eval tt (tree.assign tt (v (codes "flag")) (tree.truth tt true))) (statement.more (statement.branch tt (v (codes "flag")) (statement.return tt (Some (v (codes "data")))) statement.no_else) (statement.more (statement.return tt (Some (tree.number tt 0))) statement.end))))) syntax.end)))) ∷ []) }

pub shown : VolatileFlag
unfolding computing
shown = shows text_of_volatile_flag unit refl refl (grind arith) refl (λ s. refl) refl (refl, refl, (tt, (tt, ((refl, refl), tt))), tt) (record { object = refl; thread = refl; run = refl; start = refl }) _ _ _ refl (((tt, (tt, (tt, tt))), tt), tt) (record { answers = truth true ∷ number 42 ∷ []; fuel = 4; out = _; trace_is = refl; end_is = refl; ending_is = refl }) (tt, tt, (tt, tt, (refl, tt, (refl, tt, tt))))
