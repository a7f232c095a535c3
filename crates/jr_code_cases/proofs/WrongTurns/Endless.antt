-- class A { static int n; static int go() { while (true) n = n + 1; } }
use Rattle.std.proofs.Common.{ℕ, zero, suc, List, [], ◌∷◌, None, Some, Bool, true, false, refl, subst, arith}
use Rattle.std.specs.Prelude.{codes}
use Rattle.jr_ast.specs.declared.operators.ModWord.TheVariants as word
use Rattle.jr_ast.specs.declared.operators.BinOp.TheVariants as operator
use Rattle.jr_ast.specs.Tree as tree
use Rattle.jr_ast.specs.StatementTree as statement
use Rattle.jr_ast.specs.MemberTree as syntax
use Rattle.jr_grammar.specs.Bare.{Bare}
use Rattle.jr_grammar.proofs.Cases.Forms.{w, v}
use Rattle.jr_plans.specs.Run.{End, ended, cut, ill_typed, Outcome, joined, answered, runner}
use Rattle.jr_runs.specs.Actions.{Trace, plain, load, store}
use Rattle.jr_runs.specs.Values.{Value, null}
use Rattle.jr_runs.specs.Core as core
use Rattle.jr_runs.specs.Evaluation.{Call, turn, table}
use Rattle.jr_runs.specs.Running.{Ending, Whole, Bounded, plain_run}
use Rattle.jr_code.specs.RunKeys.{RunKeys}
use Rattle.jr_code_cases.specs.Shown.{HasCode}
use Rattle.jr_code_cases.specs.Cases.{a, go_of, static_of, number}
use Rattle.jr_code_cases.specs.WrongTurns.{text_of_endless, Endless}
use Rattle.jr_code_cases.proofs.Computing.{computing}
use Rattle.jr_code_cases.proofs.Showing.{resolved, has_code}

abbrev unit : syntax.Unit Bare
unit = record { mark = tt; package_name = []; classes = ((syntax.class tt [] (w (codes "A")) None (syntax.more (syntax.field tt ((record { mark = tt; word = word.Static }) ∷ []) (tree.int tt) (w (codes "n")) None) (syntax.more (syntax.method tt ((record { mark = tt; word = word.Static }) ∷ []) (Some (tree.int tt)) (w (codes "go")) [] (statement.more (statement.loop tt (tree.truth tt true) (statement.eval tt (tree.assign tt (v (codes "n")) (tree.binary tt operator.Add (v (codes "n")) (tree.number tt 1))))) statement.end)) syntax.end))) ∷ []) }

pub code : HasCode text_of_endless (resolved text_of_endless unit)
unfolding computing
code = has_code text_of_endless unit refl refl (grind arith) refl (λ s. refl) refl (refl, refl, (tt, ((refl, refl), tt)), tt) (record { object = refl; thread = refl; run = refl; start = refl })

pub begins : Bounded (resolved text_of_endless unit) (go_of a) (load plain (static_of a (codes "n")) (number 0) ∷ store plain (static_of a (codes "n")) (number 1) ∷ load plain (static_of a (codes "n")) (number 1) ∷ [])
unfolding computing
begins = record { answers = number 0 ∷ number 1 ∷ []; fuel = 4; rest = _; trace_is = refl }

-- ---- no run ends

abbrev NotEnded : {X : Type 0} → End X → Type 0
NotEnded (ended a) = ⊥
NotEnded cut = Unit {0}
NotEnded ill_typed = Unit {0}

joined_not : {V E X Y : Type 0} (t : List E) (e : End X) (vs : List V) (k : X → List V → Outcome V E Y) → NotEnded e → NotEnded (joined (record { trace = t; end = e; left = vs }) k).end
joined_not t (ended a) vs k h = absurd h
joined_not t cut vs k h = tt
joined_not t ill_typed vs k h = tt

answered_not : {V E X : Type 0} (b : Bool) (x : E) (vs : List V) (o : Outcome V E X) → NotEnded o.end → NotEnded (answered b x vs o).end
answered_not true x vs o h = h
answered_not false x vs o h = tt

abbrev P : core.Program RunKeys
P = resolved text_of_endless unit

abbrev first_in : core.Stmts RunKeys → core.Stmt RunKeys
first_in core.Stmts.end = core.empty None
first_in (core.Stmts.more x xs) = x

abbrev first_of : core.Method RunKeys → core.Stmt RunKeys
first_of (core.written code) = first_in code.body
first_of core.starts = core.empty None

abbrev condition : core.Stmt RunKeys → core.Exp RunKeys
condition (core.loop at c x) = c
condition _ = core.this None

abbrev turned : core.Stmt RunKeys → core.Stmt RunKeys
turned (core.loop at c x) = x
turned _ = core.empty None

abbrev the_loop : core.Stmt RunKeys
the_loop = first_of (P.method (record { class = a; name = codes "go"; params = [] }))

abbrev the_turn : Call RunKeys
the_turn = turn null (condition the_loop) (turned the_loop) []

turns : (n : ℕ) (vs : List (Value RunKeys)) → NotEnded (runner (table P) n the_turn vs).end
unfolding computing
turns zero vs = tt
turns (suc n) [] = tt
turns (suc n) (v ∷ vs) = answered_not _ _ vs _ (joined_not (runner (table P) n the_turn vs).trace (runner (table P) n the_turn vs).end (runner (table P) n the_turn vs).left _ (turns n vs))

runs : (n : ℕ) (vs : List (Value RunKeys)) → NotEnded (plain_run P (go_of a) vs n).end
unfolding computing
runs zero vs = tt
runs (suc n) vs = joined_not (runner (table P) n the_turn vs).trace (runner (table P) n the_turn vs).end (runner (table P) n the_turn vs).left _ (turns n vs)

never : (other : Trace RunKeys) (end : Ending RunKeys) → Whole P (go_of a) other end → ⊥
never other end h = subst NotEnded h.end_is (runs h.fuel h.answers)

pub shown : Endless
shown = record { program = P; code = code; begins = begins; never = never }
