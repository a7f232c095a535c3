-- class A extends Thread { static volatile boolean done; static int n; public void run() { n = 1; done = true; } static int go() { A a = new A(); a.start(); while (!done) { } return n; } }
use Rattle.std.proofs.Common.{[], ◌∷◌, None, Some, true, false, refl, arith}
use Rattle.std.specs.Prelude.{codes}
use Rattle.jr_ast.specs.declared.operators.ModWord.TheVariants as word
use Rattle.jr_ast.specs.declared.operators.UnOp.TheVariants as sign
use Rattle.jr_ast.specs.Tree as tree
use Rattle.jr_ast.specs.StatementTree as statement
use Rattle.jr_ast.specs.MemberTree as syntax
use Rattle.jr_grammar.specs.Bare.{Bare}
use Rattle.jr_grammar.proofs.Cases.Forms.{w, v, ty}
use Rattle.jr_runs.specs.Values.{truth}
use Rattle.jr_code_cases.specs.Cases.{a, an_a, number, text_of_handed_over, HandedOver}
use Rattle.jr_code_cases.proofs.Computing.{computing}
use Rattle.jr_code_cases.proofs.Showing.{shows_both}

abbrev unit : syntax.Unit Bare
unit = record { mark = tt; package_name = []; classes = ((syntax.class tt [] (w (codes "A")) (Some (ty (codes "Thread"))) (syntax.more (syntax.field tt ((record { mark = tt; word = word.Static }) ∷ (record { mark = tt; word = word.Volatile }) ∷ []) (tree.boolean tt) (w (codes "done")) None) (syntax.more (syntax.field tt ((record { mark = tt; word = word.Static }) ∷ []) (tree.int tt) (w (codes "n")) None) (syntax.more (syntax.method tt ((record { mark = tt; word = word.Public }) ∷ []) None (w (codes "run")) [] (statement.more (statement.eval tt (tree.assign tt (v (codes "n")) (tree.number tt 1))) (statement.more (statement.eval tt (tree.assign tt (v (codes "done")) (tree.truth tt true))) statement.end))) (syntax.more (syntax.method tt ((record { mark = tt; word = word.Static }) ∷ []) (Some (tree.int tt)) (w (codes "go")) [] (statement.more (statement.local tt false (ty (codes "A")) (w (codes "a")) (tree.create tt (ty (codes "A")) tree.end)) (statement.more (statement.eval tt (tree.call tt (tree.on (v (codes "a"))) (w (codes "start")) tree.end)) (statement.more (statement.loop tt (tree.unary tt sign.Not (v (codes "done"))) (statement.block tt statement.end)) (statement.more (statement.return tt (Some (v (codes "n")))) statement.end))))) syntax.end))))) ∷ []) }

pub shown : HandedOver
unfolding computing
shown = shows_both text_of_handed_over unit refl refl (grind arith) refl (λ s. refl) refl (refl, refl, (tt, (tt, ((refl, refl), ((refl, refl), tt)))), tt) (record { object = refl; thread = refl; run = refl; start = refl }) _ _ _ _ _ refl (((tt, (tt, (tt, (tt, tt)))), tt), tt)
    (record { answers = an_a ∷ truth false ∷ truth false ∷ truth false ∷ truth true ∷ number 1 ∷ []; fuel = 6; out = _; trace_is = refl; end_is = refl; ending_is = refl })
    (a, refl, refl)
    (record { answers = []; fuel = 4; out = _; trace_is = refl; end_is = refl; ending_is = refl })
    refl
    (refl, tt, (refl, tt, (refl, tt, (tt, refl, (refl, tt, (tt, refl, (refl, tt, (refl, tt, tt))))))))
