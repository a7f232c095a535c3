-- class A { int m() { return 1; } int k() { return m(); } }
-- class B extends A { int m() { return super.m() + 10; }
-- static int go() { A a = new B(); return a.k(); } }
use Rattle.std.proofs.Common.{[], ◌∷◌, None, Some, false, refl, arith}
use Rattle.std.specs.Prelude.{codes}
use Rattle.jr_ast.specs.declared.operators.ModWord.TheVariants as word
use Rattle.jr_ast.specs.declared.operators.BinOp.TheVariants as operator
use Rattle.jr_ast.specs.Tree as tree
use Rattle.jr_ast.specs.StatementTree as statement
use Rattle.jr_ast.specs.MemberTree as syntax
use Rattle.jr_grammar.specs.Bare.{Bare}
use Rattle.jr_grammar.proofs.Cases.Forms.{w, v, ty}
use Rattle.jr_code_cases.specs.Cases.{a_b, text_of_dispatch, Dispatch}
use Rattle.jr_code_cases.proofs.Computing.{computing}
use Rattle.jr_code_cases.proofs.Showing.{shows}

abbrev unit : syntax.Unit Bare
unit = record { mark = tt; package_name = []; classes = ((syntax.class tt [] (w (codes "A")) None (syntax.more (syntax.method tt [] (Some (tree.int tt)) (w (codes "m")) [] (statement.more (statement.return tt (Some (tree.number tt 1))) statement.end)) (syntax.more (syntax.method tt [] (Some (tree.int tt)) (w (codes "k")) [] (statement.more (statement.return tt (Some (tree.call tt tree.no_target (w (codes "m")) tree.end))) statement.end)) syntax.end))) ∷ (syntax.class tt [] (w (codes "B")) (Some (ty (codes "A"))) (syntax.more (syntax.method tt [] (Some (tree.int tt)) (w (codes "m")) [] (statement.more (statement.return tt (Some (tree.binary tt operator.Add (tree.super_call tt (w (codes "m")) tree.end) (tree.number tt 10)))) statement.end)) (syntax.more (syntax.method tt ((record { mark = tt; word = word.Static }) ∷ []) (Some (tree.int tt)) (w (codes "go")) [] (statement.more (statement.local tt false (ty (codes "A")) (w (codes "a")) (tree.create tt (ty (codes "B")) tree.end)) (statement.more (statement.return tt (Some (tree.call tt (tree.on (v (codes "a"))) (w (codes "k")) tree.end))) statement.end))) syntax.end))) ∷ []) }

pub shown : Dispatch
unfolding computing
shown = shows text_of_dispatch unit refl refl (grind arith) refl (λ s. refl) refl (refl, refl, ((refl, refl), ((refl, refl), tt)), (refl, refl, ((refl, refl), ((refl, refl), tt)), tt)) (record { object = refl; thread = refl; run = refl; start = refl }) _ _ _ refl (((tt, (tt, tt)), ((tt, (tt, tt)), tt)), tt) (record { answers = a_b ∷ []; fuel = 6; out = _; trace_is = refl; end_is = refl; ending_is = refl }) (refl, tt, tt)
