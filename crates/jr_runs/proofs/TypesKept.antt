-- In a well-typed program calls are made on what fits, and answers fit.
use Rattle.std.proofs.Common.{◌≡◌, inl, false, List, Option, Some, None, ℕ, refl, sym, subst}
use Rattle.jr_plans.specs.Plan.{done}
use Rattle.jr_plans.specs.Run.{runner}
use Rattle.jr_plans.specs.Linked.{RunsReach}
use Rattle.jr_plans.specs.Safe.{IsSafeTable}
use Rattle.jr_plans.proofs.Linking.{runs_reach}
use Rattle.jr_plans.proofs.Safety.{safe_all, table_answers_well}
use Rattle.jr_runs.specs.Keys.{Keys}
use Rattle.jr_runs.specs.Values.{Value, Ty}
use Rattle.jr_runs.specs.Actions.{Event, Trace}
use Rattle.jr_runs.specs.Rows.{Rows}
use Rattle.jr_runs.specs.Arithmetic.{started_before, Out, value, thrown}
use Rattle.jr_runs.specs.Core.{Code, Method, written, starts, Program}
use Rattle.jr_runs.specs.Evaluation.{Flow, goes_on, returns, Call, invoke, construct, turn, first_locals, run_code, run_method, table}
use Rattle.jr_runs.specs.Running.{Start, of_method, of_constructor, call_of, Ending, ending_of, Whole}
use Rattle.jr_runs.specs.Starting.{IsReceiver, ArgsFit, IsStart}
use Rattle.jr_runs.specs.Typing.{is_always, AllMayComplete, param_context, CodeTyped, MethodTyped, SoundRows, WellTyped}
use Rattle.jr_runs.specs.TypedRuns.{LocalsFit, GivenFits, FlowFits, OutHas, TurnTyped, WellMade, ResultFits, WellAnswered, EndFits}
use Rattle.jr_runs.proofs.TypedLocals.{locals_start}
use Rattle.jr_runs.proofs.TypedSteps.{Well, well_weaker, well_truth}
use Rattle.jr_runs.proofs.TypedStmts.{stmts_well, whole_turn_well}

module _ {K : Keys} (R : Rows K) (sound : SoundRows R) where
  result_of : (G : List (ℕ × Ty K)) (T : Option (Ty K)) (M : Type 0) → ((U : Ty K) → T ≡ Some U → M → ⊥) → (f : Flow K) → FlowFits R G T M f → ResultFits R T f
  result_of G None M never (goes_on l) h = refl
  result_of G (Some U) M never (goes_on l) h = absurd (never U refl h.1)
  result_of G T M never (returns v) h = h

  code_well : (C : Option K.class) (params : List (Ty K)) (T : Option (Ty K)) (c : Code K) → CodeTyped R C params T c → (me : Value K) (args : List (Value K)) → IsReceiver R C me → ArgsFit R params args → Well R (ResultFits R T) (run_code R me c args)
  code_well C params T c t me args r a = well_weaker R (FlowFits R (param_context 0 params) T (AllMayComplete c.body)) (ResultFits R T) (result_of (param_context 0 params) T (AllMayComplete c.body) t.completes) (run_code R me c args)
      (stmts_well R sound C me r T c.body (param_context 0 params) t.body (first_locals c.params args) (subst (λ n. LocalsFit R (param_context 0 params) (first_locals n args)) (sym t.count) (locals_start R params args a)))

  method_well : (C : Option K.class) (params : List (Ty K)) (T : Option (Ty K)) (m : Method K) → MethodTyped R C params T m → (me : Value K) (args : List (Value K)) → IsReceiver R C me → ArgsFit R params args → Well R (ResultFits R T) (run_method R me m args)
  method_well C params T (written c) t me args r a = code_well C params T c t me args r a
  method_well C params T starts t me args r a = λ v h. well_truth R (ResultFits R T) (Unit {0}) v (inl tt) (done (thrown started_before)) (done (value (returns None))) tt (λ x. subst (λ U. GivenFits R U None) (sym t) tt)

pub types_are_kept : {K : Keys} (P : Program K) → WellTyped P → IsSafeTable (WellMade P.rows) (WellAnswered P.rows) (table P)
types_are_kept P w (invoke m me args) made = method_well P.rows w.rows (P.rows.owner m) (P.rows.params m) (P.rows.result m) (P.method m) (w.methods m made.0) me args made.1 made.2
types_are_kept P w (construct k me args) made = code_well P.rows w.rows (Some (P.rows.constructor_class k)) (P.rows.constructor_params k) None (P.constructor k) (w.constructors k made.0) me args made.1 made.2
types_are_kept P w (turn me c b l) made =
    safe_all (WellMade P.rows) (WellAnswered P.rows) (λ (t : TurnTyped P.rows me c b l). OutHas (FlowFits P.rows t.context t.result (is_always c ≡ false))) (table P (turn me c b l)) made
    (λ t. whole_turn_well P.rows w.rows t.class me t.receiver t.result t.context t.behind c b t.condition t.body l t.locals)

-- a run that ended has a value of the result's type
pub ends_fit : {K : Keys} (P : Program K) → WellTyped P → (c : Start K) → IsStart P.rows c → (t : Trace K) (e : Ending K) → Whole P c t e → EndFits P.rows c e
ends_fit {K = K} P w c s t e h = subst (EndFits P.rows c) h.ending_is (fits_end c h.out answered)
  where
    reach : RunsReach (Value K) (Event K) (Call K) (Out (Flow K))
    reach = runs_reach

    made : (x : Start K) → IsStart P.rows x → WellMade P.rows (call_of x)
    made (of_method m me args) j = j
    made (of_constructor k me args) j = j

    answered : WellAnswered P.rows (call_of c) h.out
    answered = table_answers_well (WellMade P.rows) (WellAnswered P.rows) (table P) (types_are_kept P w) h.fuel (call_of c) (runner (table P) h.fuel (call_of c) h.answers).trace h.out (made c s) (reach.whole (table P) h.fuel (call_of c) h.answers h.out h.end_is)

    fits_end : (x : Start K) (o : Out (Flow K)) → WellAnswered P.rows (call_of x) o → EndFits P.rows x (ending_of o)
    fits_end (of_method m me args) (value (returns (Some v))) a = a
    fits_end (of_method m me args) (value (returns None)) a = a
    fits_end (of_method m me args) (value (goes_on l)) a = subst (λ T. GivenFits {K = K} P.rows T None) (sym a) tt
    fits_end (of_method m me args) (thrown f) a = tt
    fits_end (of_constructor k me args) (value (returns (Some v))) a = a
    fits_end (of_constructor k me args) (value (returns None)) a = a
    fits_end (of_constructor k me args) (value (goes_on l)) a = tt
    fits_end (of_constructor k me args) (thrown f) a = tt
