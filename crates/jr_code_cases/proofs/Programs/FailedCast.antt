-- class A { } class B extends A {
-- static int go() { A a = new A(); B b = (B) a; return 0; } }
use Rattle.std.proofs.Common.{[], ◌∷◌, None, Some, false, refl, arith}
use Rattle.std.specs.Prelude.{codes}
use Rattle.jr_ast.specs.declared.operators.ModWord.TheVariants as word
use Rattle.jr_ast.specs.Tree as tree
use Rattle.jr_ast.specs.StatementTree as statement
use Rattle.jr_ast.specs.MemberTree as syntax
use Rattle.jr_grammar.specs.Bare.{Bare}
use Rattle.jr_grammar.proofs.Cases.Forms.{w, v, ty}
use Rattle.jr_code_cases.specs.Cases.{an_a, text_of_failed_cast, FailedCast}
use Rattle.jr_code_cases.proofs.Computing.{computing}
use Rattle.jr_code_cases.proofs.Showing.{shows}

abbrev unit : syntax.Unit Bare
unit = record { mark = tt; package_name = []; classes = ((syntax.class tt [] (w (codes "A")) None syntax.end) ∷ (syntax.class tt [] (w (codes "B")) (Some (ty (codes "A"))) (syntax.more (syntax.method tt ((record { mark = tt; word = word.Static }) ∷ []) (Some (tree.int tt)) (w (codes "go")) [] (statement.more (statement.local tt false (ty (codes "A")) (w (codes "a")) (tree.create tt (ty (codes "A")) tree.end)) (statement.more (statement.local tt false (ty (codes "B")) (w (codes "b")) (tree.cast tt (ty (codes "B")) (v (codes "a")))) (statement.more (statement.return tt (Some (tree.number tt 0))) statement.end)))) syntax.end)) ∷ []) }

pub shown : FailedCast
unfolding computing
shown = shows text_of_failed_cast unit refl refl (grind arith) refl (λ s. refl) refl (refl, refl, tt, (refl, refl, ((refl, refl), tt), tt)) (record { object = refl; thread = refl; run = refl; start = refl }) _ _ _ refl ((tt, ((tt, tt), tt)), tt) (record { answers = an_a ∷ []; fuel = 4; out = _; trace_is = refl; end_is = refl; ending_is = refl }) (refl, tt, tt)
