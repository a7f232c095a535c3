-- A call of a method becomes a block with its parameters' declarations and its body: the block's runs are the call's.
use Rattle.std.proofs.Common.{◌≡◌, ◌<◌, ◌≤◌, ◌+◌, ℕ, suc, List, [], ◌∷◌, ◌++◌, length, map, Option, unwrap_or, IsTrue, refl, sym, ap, ◌∙◌, ◌⊎◌, Some, inl, subst, inr, ⊎_elim, arith, append-nil, append_assoc}
use Rattle.std.proofs.lemmas.Bool.{cases_eq}
use Rattle.jr_plans.specs.Plan.{done, call, and_then}
use Rattle.jr_plans.specs.Follow.{Both}
use Rattle.jr_plans.proofs.Safety.{safe_and}
use Rattle.jr_plans.proofs.Finishing.{and_then_assoc}
use Rattle.jr_plans.proofs.MadeCalls.{removed}
use Rattle.jr_runs.specs.Keys.{Keys}
use Rattle.jr_runs.specs.Values.{Value, null}
use Rattle.jr_runs.specs.Fitting.{class_of}
use Rattle.jr_runs.specs.Arithmetic.{Fault, Out, value, thrown}
use Rattle.jr_runs.specs.Core as core
use Rattle.jr_runs.specs.Core.{Exp, Exps, block, Stmt, Stmts, Program}
use Rattle.jr_runs.specs.Evaluation.{Flow, goes_on, returns, Call, invoke, Step, on_value, next, local_at, with_local, first_locals, unset, answer, exp, exps, in_local, store_to, on_class, on_flow, stmts, run_method, table}
use Rattle.jr_runs.specs.KeyMaps.{same_keys, value_image}
use Rattle.jr_runs.specs.Standing.{upto, Self, itself, held, nobody, unused, Standing, In, SelfIn, HeldIn, CastIn, Stands, Frame, SelfIs, HasAll, AreKnown, AllHold, AllHoldAs, Holding, Shifted}
use Rattle.jr_runs.specs.Sets.{NumberSet, everything, with_one, Within}
use Rattle.jr_runs.specs.Images.{ExpTo, ExpsTo, to_end, to_more, ProgramTo, lists_alone}
use Rattle.jr_runs.specs.TypedImages.{TypedProgramTo}
use Rattle.jr_runs.specs.Typing.{WellTyped}
use Rattle.jr_runs.specs.Pairs.{OutRel, ResultRel, FlowRel, Returns, SomeReturns}
use Rattle.jr_runs.specs.Alike.{AlikeExactly}
use Rattle.jr_runs.proofs.Locals as locals
use Rattle.jr_runs.proofs.Locals.{not_written, shifted_less, shifted_write}
use Rattle.jr_runs.proofs.Numbers.{in_upto, upto_in, in_map, map_in, in_left, in_right, in_both, unset_other, unset_null, self_in_more}
use Rattle.jr_runs.proofs.Instances.{instance_of, class_found}
use Rattle.jr_runs.proofs.Guarded.{Guarded, Matched, OldSafe, NewSafe, any_safe, unguarded, match_outcome, match_value, match_weaker, match_and_safe, match_next_safe}
use Rattle.jr_runs.proofs.GuardedExps.{exp_known, old_cast}
use Rattle.jr_runs.proofs.GuardedStmts.{TurnsKnown, wider}
use Rattle.jr_runs.proofs.GuardedPrograms.{Unfolded}
use Rattle.jr_runs.proofs.Kept.{kept_known}
use Rattle.jr_runs.proofs.Renaming.{Mapped, mapped_joins, mapped_images}
use Rattle.jr_runs.proofs.ImagePrograms.{Changes, setting, turns_in, programs_match}
use Rattle.jr_runs.proofs.Halves.{alike, starts_match}
use Rattle.jr_runs.proofs.TypedPrograms.{TypedChanges, typed_guard, typed_turns, typed_changes, typed_alike}
use Rattle.jr_runs_calls.specs.MadeMethods.{Receiver, no_receiver, on_this, made_call}
use Rattle.jr_runs_calls.specs.Extracts.{then}
use Rattle.jr_runs_calls.specs.Inlines.{IsFound, self_there, classes_there, inlined, count, declares, Used, dropped, assigned, returned, used_stmt, last_old, last_new, ValueTo, UsedFits, behind_used, Inlines}
use Rattle.jr_runs_calls.proofs.ArgumentLists.{last_at, other_at, length_one_more, first_all}
use Rattle.jr_runs_calls.proofs.MadeCalls.{next_assoc, then_is, same_undoes, any_unfolded}

module _ {K : Keys} (P Q : Program K) (g : Guarded same_keys P.rows Q.rows) (none_more : g.more ≡ 0) (unfolded : Unfolded P Q g) (turns : TurnsKnown g (lists_alone (Inlines P)))
    (s : Standing K) (st : Stands s) (frame : Frame K) (me me' : Value K) (im : Holding P.rows same_keys s.code frame me me') (A : NumberSet) (old new : Stmts K) (B : NumberSet) (x : Inlines P s A old new B) (l l' : List (Value K)) (h : Shifted same_keys s frame A l l') where
  abbrev numbers : List ℕ
  numbers = map x.at (upto x.size)

  abbrev start : List (Value K)
  start = unset numbers l'

  number_in : (i : ℕ) → i < x.size → In (x.at i) numbers
  number_in i b = in_map x.at i (upto x.size) (in_upto x.size i b)

  not_number : (j : ℕ) → In j s.code.mine → In (s.code.at j) numbers → ⊥
  not_number j b i = let d = map_in x.at (s.code.at j) (upto x.size) i in x.fresh d.0 j (upto_in x.size d.0 d.1) b d.2

  not_other : (j : ℕ) → In j s.others → In j numbers → ⊥
  not_other j o i = let d = map_in x.at j (upto x.size) i in x.fresh_others d.0 (upto_in x.size d.0 d.1) (subst (λ k. In k s.others) d.2 o)

  -- the caller, while its arguments are evaluated: the method's locals stay as they are
  abbrev caller : Standing K
  caller = record { code = s.code; others = s.others ++ numbers }

  held_more : (hs : List (Exp K × ℕ)) → HeldIn hs s.others → HeldIn hs (s.others ++ numbers)
  held_more [] k = tt
  held_more (y ∷ ys) k = (in_left y.1 s.others numbers k.0, held_more ys k.1)

  cast_more : (hs : List (K.class × Exp K × ℕ)) → CastIn hs s.others → CastIn hs (s.others ++ numbers)
  cast_more [] k = tt
  cast_more (y ∷ ys) k = (in_left y.2 s.others numbers k.0, cast_more ys k.1)

  caller_stands : Stands caller
  caller_stands = record {
    injective = st.injective;
    apart = λ i b e. ⊎_elim (λ o. st.apart i b o) (λ o. not_number i b o) (in_both (s.code.at i) s.others numbers e);
    self = self_in_more s.code.self s.others numbers st.self;
    held = held_more s.code.holds st.held;
    cast = cast_more s.code.casts st.cast;
  }

  -- the further locals are those of this list
  abbrev frame_of : List (Value K) → Frame K
  frame_of m' = record { here = frame.here; there = m' }

  abbrev Still : List (Value K) → Type 0
  Still m' = (j : ℕ) → In j s.others → local_at m' j ≡ local_at frame.there j

  caller_self : (m' : List (Value K)) → Still m' → (self : Self) → SelfIn self s.others → SelfIs same_keys self frame me me' → SelfIs same_keys self (frame_of m') me me'
  caller_self m' still itself k q = q
  caller_self m' still (held n) k q = still n k ∙ q
  caller_self m' still nobody k q = q
  caller_self m' still unused k q = q

  caller_holds : (m' : List (Value K)) → Still m' → (hs : List (Exp K × ℕ)) → HeldIn hs s.others → AllHold P.rows same_keys s.code.known frame me hs → AllHold P.rows same_keys s.code.known (frame_of m') me hs
  caller_holds m' still [] k q = tt
  caller_holds m' still (y ∷ ys) k q = (record { result = q.0.result; comes = q.0.comes; there = still y.1 k.0 ∙ q.0.there }, caller_holds m' still ys k.1 q.1)

  caller_casts : (m' : List (Value K)) → Still m' → (hs : List (K.class × Exp K × ℕ)) → CastIn hs s.others → AllHoldAs P.rows same_keys s.code.known frame me hs → AllHoldAs P.rows same_keys s.code.known (frame_of m') me hs
  caller_casts m' still [] k q = tt
  caller_casts m' still (y ∷ ys) k q = (record { holds = record { result = q.0.holds.result; comes = q.0.holds.comes; there = still y.2 k.0 ∙ q.0.holds.there }; fits = q.0.fits }, caller_casts m' still ys k.1 q.1)

  caller_holding : (m' : List (Value K)) → Still m' → Holding P.rows same_keys s.code (frame_of m') me me'
  caller_holding m' still = record {
    self = caller_self m' still s.code.self st.self im.self;
    classes = im.classes;
    holds = caller_holds m' still s.code.holds st.held im.holds;
    casts = caller_casts m' still s.code.casts st.cast im.casts;
  }

  -- ---- argument by argument

  -- vs: the arguments so far, which the first of the method's locals have; the others are unset
  record Stage (C : NumberSet) (vs m m' : List (Value K)) : Type 0 where
    moved : (i : ℕ) → In i s.code.mine → IsTrue (C i) → local_at m' (s.code.at i) ≡ value_image same_keys (local_at m i)
    known : AreKnown s.code.known frame m
    still : Still m'
    given : (i : ℕ) → i < x.size → local_at m' (x.at i) ≡ value_image same_keys (local_at vs i)

  caller_shifted : (C : NumberSet) (vs m m' : List (Value K)) → Stage C vs m m' → Shifted same_keys caller (frame_of m') C m m'
  caller_shifted C vs m m' e = record { moved = e.moved; others = λ j o. refl; known = e.known }

  first_stage : Stage A [] l start
  first_stage = record {
    moved = λ i b a. unset_other numbers l' (s.code.at i) (λ e. not_number i b e) ∙ h.moved i b a;
    known = h.known;
    still = λ j o. unset_other numbers l' j (λ i. not_other j o i) ∙ h.others j o;
    given = λ i b. unset_null numbers l' (x.at i) (number_in i b);
  }

  next_stage : (C D : NumberSet) (vs m m' : List (Value K)) → Stage C vs m m' → length vs < x.size → (a a' : Value K × List (Value K)) → ResultRel same_keys caller (frame_of m') D a a' → Stage D (vs ++ (a.0 ∷ [])) a.1 (with_local a'.1 (x.at (length vs)) a'.0)
  next_stage C D vs m m' e below a a' q = record {
    moved = λ i b k. not_written a'.1 (x.at (length vs)) (s.code.at i) a'.0 (λ d. x.fresh (length vs) i below b d) ∙ q.1.moved i b k;
    known = q.1.known;
    still = λ j o. not_written a'.1 (x.at (length vs)) j a'.0 (λ d. x.fresh_others (length vs) below (subst (λ k. In k s.others) d o)) ∙ q.1.others j (in_left j s.others numbers o) ∙ e.still j o;
    given = λ i b. ⊎_elim
        (λ (d : i ≡ length vs). rw d (locals.written a'.1 (x.at (length vs)) a'.0 ∙ q.0 ∙ ap (value_image same_keys) (sym (last_at vs a.0))))
        (λ (d : i ≡ length vs → ⊥). not_written a'.1 (x.at (length vs)) (x.at i) a'.0 (λ k. d (x.injective i (length vs) b below k)) ∙ q.1.others (x.at i) (in_right (x.at i) s.others numbers (number_in i b)) ∙ e.given i b ∙ ap (value_image same_keys) (other_at vs a.0 i d))
        (cases_eq i (length vs));
  }

  -- ---- the method's body in the block, behind the parameters

  abbrev inner : Standing K
  inner = inlined x.receiver s x.size x.at

  -- on what the method runs
  abbrev callee : Receiver K → Value K
  callee no_receiver = null
  callee (on_this e) = me

  self_right : (self : Self) (xs : List ℕ) → SelfIn self s.others → SelfIn self (xs ++ s.others)
  self_right itself xs k = tt
  self_right (held n) xs k = in_right n xs s.others k
  self_right nobody xs k = tt
  self_right unused xs k = tt

  inner_in : (v : Receiver K) → SelfIn (self_there v s.code.self) (map s.code.at s.code.mine ++ s.others)
  inner_in no_receiver = tt
  inner_in (on_this e) = self_right s.code.self (map s.code.at s.code.mine) st.self

  inner_stands : Stands inner
  inner_stands = record {
    injective = λ i j a b. x.injective i j (upto_in x.size i a) (upto_in x.size j b);
    apart = λ i b e. ⊎_elim
        (λ o. let d = map_in s.code.at (x.at i) s.code.mine o in x.fresh i d.0 (upto_in x.size i b) d.1 (sym d.2))
        (λ o. x.fresh_others i (upto_in x.size i b) o) (in_both (x.at i) (map s.code.at s.code.mine) s.others e);
    self = inner_in x.receiver;
    held = tt;
    cast = tt;
  }

  inner_shifted : (C : NumberSet) (vs m m' : List (Value K)) → Stage C vs m m' → Shifted same_keys inner (frame_of m') everything vs m'
  inner_shifted C vs m m' e = record { moved = λ i b k. e.given i (upto_in x.size i b); others = λ j o. refl; known = λ i k. absurd k }

  -- behind the block the caller's locals are as they should be
  back_shifted : (C D : NumberSet) (vs m m' : List (Value K)) → Stage C vs m m' → (n n' : List (Value K)) → Shifted same_keys inner (frame_of m') D n n' → Shifted same_keys s frame C m n'
  back_shifted C D vs m m' e n n' q = record {
    moved = λ i b k. q.others (s.code.at i) (in_left (s.code.at i) (map s.code.at s.code.mine) s.others (in_map s.code.at i s.code.mine b)) ∙ e.moved i b k;
    others = λ j o. q.others j (in_right j (map s.code.at s.code.mine) s.others o) ∙ e.still j o;
    known = e.known;
  }

  inner_self : (m' : List (Value K)) → Still m' → (v : Receiver K) → SelfIs same_keys (self_there v s.code.self) (frame_of m') (callee v) me'
  inner_self m' still no_receiver = refl
  inner_self m' still (on_this e) = caller_self m' still s.code.self st.self im.self

  inner_classes : (v : Receiver K) → HasAll P.rows (callee v) (classes_there v s.code.classes)
  inner_classes no_receiver = tt
  inner_classes (on_this e) = im.classes

  inner_holding : (m' : List (Value K)) → Still m' → Holding P.rows same_keys inner.code (frame_of m') (callee x.receiver) me'
  inner_holding m' still = record { self = inner_self m' still x.receiver; classes = inner_classes x.receiver; holds = tt; casts = tt }

  -- ---- the call's run and the block's

  abbrev used_call : Used → Stmt K
  used_call d = used_stmt x.eval_at d (made_call x.receiver x.call_at x.method x.args)

  abbrev Flows : Used → Flow K → Flow K → Type 0
  Flows d f f' = FlowRel same_keys (Shifted same_keys s frame B) (Returns (used_call d) ⊎ SomeReturns x.rest) f f'

  abbrev rest_old : Flow K → Step K (Flow K)
  rest_old f = on_flow f (λ m. stmts P.rows me x.rest m)

  abbrev rest_new : Flow K → Step K (Flow K)
  rest_new f = on_flow f (λ m. stmts Q.rows me' x.new_rest m)

  abbrev gone : Value K × List (Value K) → Step K (Flow K)
  gone r = done (value (goes_on r.1))

  abbrev give : Value K × List (Value K) → Step K (Flow K)
  give r = done (value (returns (Some r.0)))

  abbrev put : ℕ → Value K × List (Value K) → Step K (Value K × List (Value K))
  put k r = next (store_to P.rows (in_local k) r.0 r.1) (λ n. done (value (r.0, n)))

  -- what the call's answer leads to
  abbrev after : Used → List (Value K) → Out (Flow K) → Step K (Flow K)
  after dropped m o = next (next (done (answer m o)) gone) rest_old
  after (assigned k) m o = next (next (next (done (answer m o)) (put k)) gone) rest_old
  after returned m o = next (next (done (answer m o)) give) rest_old

  abbrev calls : List (Value K) → List (Value K) → Step K (Flow K)
  calls vs m = call (invoke x.method (callee x.receiver) vs) (after x.used m)

  abbrev body_old : List (Value K) → Step K (Flow K)
  body_old vs = stmts P.rows (callee x.receiver) x.body vs

  abbrev body_new : List (Value K) → Step K (Flow K)
  body_new m = stmts Q.rows me' x.new_body m

  abbrev block_body : Stmts K
  block_body = then x.new_body (last_new x.last_at s.code.at x.used x.new_result)

  -- what the method does behind its body, and the block with what is behind it
  abbrev old_end : Used → Flow K → Step K (Flow K)
  old_end dropped y = done (value y)
  old_end (assigned k) y = on_flow y (λ n. next (exp P.rows (callee x.receiver) x.result n) give)
  old_end returned y = on_flow y (λ n. next (exp P.rows (callee x.receiver) x.result n) give)

  abbrev new_end : Used → Flow K → Step K (Flow K)
  new_end dropped y = rest_new y
  new_end (assigned k) y = on_flow y (λ n. next (exp Q.rows me' x.new_result n) (λ r. stmts Q.rows me' x.new_rest (with_local r.1 (s.code.at k) r.0)))
  new_end returned y = on_flow y (λ n. next (exp Q.rows me' x.new_result n) give)

  returned_is : (n : List (Value K)) → stmts P.rows (callee x.receiver) (core.Stmts.more (core.return x.last_at x.result) core.Stmts.end) n ≡ next (exp P.rows (callee x.receiver) x.result n) give
  returned_is n = next_assoc (exp P.rows (callee x.receiver) x.result n) give (λ y. on_flow y (λ m. stmts P.rows (callee x.receiver) core.Stmts.end m))

  old_behind : (d : Used) (y : Flow K) → on_flow y (λ n. stmts P.rows (callee x.receiver) (last_old x.last_at d x.result) n) ≡ old_end d y
  old_behind dropped (goes_on n) = refl
  old_behind dropped (returns v) = refl
  old_behind (assigned k) (goes_on n) = returned_is n
  old_behind (assigned k) (returns v) = refl
  old_behind returned (goes_on n) = returned_is n
  old_behind returned (returns v) = refl

  body_form : (vs : List (Value K)) → stmts P.rows (callee x.receiver) x.code.body vs ≡ next (body_old vs) (old_end x.used)
  body_form vs = ap (λ b. stmts P.rows (callee x.receiver) b vs) x.body_is ∙ then_is P.rows (callee x.receiver) x.body (last_old x.last_at x.used x.result) vs ∙ (λ i. next (body_old vs) (λ y. old_behind x.used y i))

  new_behind : (d : Used) (y : Flow K) → next (on_flow y (λ n. stmts Q.rows me' (last_new x.last_at s.code.at d x.new_result) n)) rest_new ≡ new_end d y
  new_behind dropped (goes_on n) = refl
  new_behind dropped (returns v) = refl
  new_behind (assigned k) (returns v) = refl
  new_behind returned (returns v) = refl
  new_behind (assigned k) (goes_on n) =
      let e = exp Q.rows me' x.new_result n in
      let store : Value K × List (Value K) → Step K (Value K × List (Value K)) = λ r. done (value (r.0, with_local r.1 (s.code.at k) r.0)) in
      let stored : Value K × List (Value K) → Step K (Flow K) = λ r. done (value (goes_on (with_local r.1 (s.code.at k) r.0))) in
      let last : Flow K → Step K (Flow K) = λ f. on_flow f (λ m. stmts Q.rows me' core.Stmts.end m) in
      ap (λ (p : Step K (Flow K)). next (next p last) rest_new) (next_assoc e store gone)
      ∙ ap (λ (p : Step K (Flow K)). next p rest_new) (next_assoc e stored last)
      ∙ next_assoc e stored rest_new
  new_behind returned (goes_on n) =
      let e = exp Q.rows me' x.new_result n in
      let last : Flow K → Step K (Flow K) = λ f. on_flow f (λ m. stmts Q.rows me' core.Stmts.end m) in
      ap (λ (p : Step K (Flow K)). next p rest_new) (next_assoc e give last) ∙ next_assoc e give rest_new

  block_form : (m' : List (Value K)) → next (stmts Q.rows me' block_body m') rest_new ≡ next (body_new m') (new_end x.used)
  block_form m' =
      let last : Flow K → Step K (Flow K) = λ y. on_flow y (λ n. stmts Q.rows me' (last_new x.last_at s.code.at x.used x.new_result) n) in
      ap (λ (p : Step K (Flow K)). next p rest_new) (then_is Q.rows me' x.new_body (last_new x.last_at s.code.at x.used x.new_result) m')
      ∙ next_assoc (body_new m') last rest_new
      ∙ (λ i. next (body_new m') (λ y. new_behind x.used y i))

  rest_match : (d : Used) (m m' : List (Value K)) → Shifted same_keys s frame x.behind m m' → OldSafe g (stmts P.rows me x.rest m) → NewSafe g (stmts Q.rows me' x.new_rest m') → Matched g (Flows d) (stmts P.rows me x.rest m) (stmts Q.rows me' x.new_rest m')
  rest_match d m m' e o o' = match_weaker g (FlowRel same_keys (Shifted same_keys s frame B) (SomeReturns x.rest)) (Flows d) (stmts P.rows me x.rest m) (stmts Q.rows me' x.new_rest m')
      (wider same_keys (Shifted same_keys s frame B) (Shifted same_keys s frame B) (SomeReturns x.rest) (Returns (used_call d) ⊎ SomeReturns x.rest) (λ n n' i. i) inr)
      (kept_known g (Inlines P) turns s st frame me me' im x.behind x.rest x.new_rest B x.rest_to m m' e o o')

  abbrev Inner : List (Value K) → Flow K → Flow K → Type 0
  Inner m' f f' = FlowRel same_keys (Shifted same_keys inner (frame_of m') x.body_behind) (SomeReturns x.body) f f'

  abbrev Values : List (Value K) → Value K × List (Value K) → Value K × List (Value K) → Type 0
  Values m' a b = ResultRel same_keys inner (frame_of m') x.result_behind a b

  -- the value that is returned, and what comes of it
  given_match : (d : Used) (vs m m' : List (Value K)) → Stage x.between vs m m' → ExpTo same_keys P.rows inner.code x.body_behind x.result x.new_result x.result_behind → (k : Out (Flow K) → Step K (Flow K)) (k' : Value K × List (Value K) → Step K (Flow K))
      → ((f : Fault) → k (thrown f) ≡ done (thrown f))
      → ((a b : Value K × List (Value K)) → Values m' a b → OldSafe g (k (value (returns (Some a.0)))) → NewSafe g (k' b) → Matched g (Flows d) (k (value (returns (Some a.0)))) (k' b))
      → (n n' : List (Value K)) → Shifted same_keys inner (frame_of m') x.body_behind n n' → OldSafe g (and_then (next (exp P.rows (callee x.receiver) x.result n) give) k) → NewSafe g (next (exp Q.rows me' x.new_result n') k')
      → Matched g (Flows d) (and_then (next (exp P.rows (callee x.receiver) x.result n) give) k) (next (exp Q.rows me' x.new_result n') k')
  given_match d vs m m' q t k k' thrown_is each n n' e u u' =
      let old_exp : Step K (Value K × List (Value K)) = exp P.rows (callee x.receiver) x.result n in
      let new_exp : Step K (Value K × List (Value K)) = exp Q.rows me' x.new_result n' in
      let form : and_then (next old_exp give) k ≡ and_then old_exp (λ o. and_then (on_value give o) k) = and_then_assoc old_exp (on_value give) k in
      subst (λ p. Matched g (Flows d) p (next new_exp k')) (sym form)
      (match_and_safe g (Values m') (Flows d) old_exp new_exp (λ o. and_then (on_value give o) k) (on_value k') (subst (λ p. OldSafe g p) form u) u'
      (λ i i'. exp_known g inner inner_stands (frame_of m') (callee x.receiver) me' (inner_holding m' q.still) x.body_behind x.result_behind x.result x.new_result t n n' e i i') go)
    where
      go : (o o' : Out (Value K × List (Value K))) → OutRel (Values m') o o' → OldSafe g (and_then (on_value give o) k) → NewSafe g (on_value k' o') → Matched g (Flows d) (and_then (on_value give o) k) (on_value k' o')
      go (value a) (value b) i j j' = each a b i j j'
      go (thrown f) (thrown f') i j j' = subst (λ p. Matched g (Flows d) p (done (thrown f'))) (sym (thrown_is f)) (match_outcome g (Flows d) (thrown f) (thrown f') i)
      go (value a) (thrown f') i j j' = absurd i
      go (thrown f) (value b) i j j' = absurd i

  thrown_after : (d : Used) (m : List (Value K)) (f : Fault) → after d m (thrown f) ≡ done (thrown f)
  thrown_after dropped m f = refl
  thrown_after (assigned k) m f = refl
  thrown_after returned m f = refl

  thrown_there : (d : Used) (m : List (Value K)) (f : Fault) → and_then (on_value (old_end d) (thrown f)) (after d m) ≡ done (thrown f)
  thrown_there dropped m f = refl
  thrown_there (assigned k) m f = refl
  thrown_there returned m f = refl

  -- what the method's body leads to, and what the block's does
  gone_on : (d : Used) → UsedFits s d → ValueTo P inner x.body_behind d x.result x.new_result x.result_behind → Within x.behind (behind_used x.between d) → (vs m m' : List (Value K)) → Stage x.between vs m m'
      → (n n' : List (Value K)) → Shifted same_keys inner (frame_of m') x.body_behind n n' → OldSafe g (and_then (old_end d (goes_on n)) (after d m)) → NewSafe g (new_end d (goes_on n')) → Matched g (Flows d) (and_then (old_end d (goes_on n)) (after d m)) (new_end d (goes_on n'))
  gone_on dropped fits t w vs m m' q n n' e u u' = rest_match dropped m n' (shifted_less same_keys s frame x.between x.behind w m n' (back_shifted x.between x.body_behind vs m m' q n n' e)) u u'
  gone_on (assigned k) fits t w vs m m' q n n' e u u' = given_match (assigned k) vs m m' q t (after (assigned k) m) (λ r. stmts Q.rows me' x.new_rest (with_local r.1 (s.code.at k) r.0)) (thrown_after (assigned k) m)
      (λ a b i j j'. rest_match (assigned k) (with_local m k a.0) (with_local b.1 (s.code.at k) b.0)
      (shifted_less same_keys s frame (with_one x.between k) x.behind w (with_local m k a.0) (with_local b.1 (s.code.at k) b.0) (shifted_write same_keys s st frame x.between m b.1 k a.0 b.0 fits.0 fits.1 i.0 (back_shifted x.between x.result_behind vs m m' q a.1 b.1 i.1))) j j')
      n n' e u u'
  gone_on returned fits t w vs m m' q n n' e u u' = given_match returned vs m m' q t (after returned m) give (thrown_after returned m)
      (λ a b i j j'. match_value g (Flows returned) (returns (Some a.0)) (returns (Some b.0)) (i.0, inl tt)) n n' e u u'

  answers : (vs m m' : List (Value K)) → Stage x.between vs m m' → (o o' : Out (Flow K)) → OutRel (Inner m') o o' → OldSafe g (and_then (on_value (old_end x.used) o) (after x.used m)) → NewSafe g (on_value (new_end x.used) o')
      → Matched g (Flows x.used) (and_then (on_value (old_end x.used) o) (after x.used m)) (on_value (new_end x.used) o')
  answers vs m m' q (value (goes_on n)) (value (goes_on n')) e u u' = gone_on x.used x.fits x.result_to x.still vs m m' q n n' e u u'
  answers vs m m' q (value (returns v)) (value (returns w)) e u u' = absurd (x.no_return e.1)
  answers vs m m' q (value (goes_on n)) (value (returns w)) e u u' = absurd e
  answers vs m m' q (value (returns v)) (value (goes_on n')) e u u' = absurd e
  answers vs m m' q (value f) (thrown k) e u u' = absurd e
  answers vs m m' q (thrown f) (value k) e u u' = absurd e
  answers vs m m' q (thrown f) (thrown k) e u u' = subst (λ p. Matched g (Flows x.used) p (done (thrown k))) (sym (thrown_there x.used m f)) (match_outcome g (Flows x.used) (thrown f) (thrown k) e)

  removed_here : {E F : Type 0} (R : E → F → Type 0) (d : Call K) → g.old_pre d → (k : Out (Flow K) → Step K E) (q : Step K F) → Matched g R (and_then (table P d) k) q → Matched g R (call d k) q
  removed_here R d pre k q f = subst (λ n. Both n g.relation g.sides (OutRel R) (call d k) q) (sym none_more)
      (removed g.relation (table P) (table Q) g.sides (OutRel R) d (unfolded.tables.old_unfolds d pre) (unfolded.tables.old_folds d pre) k q (subst (λ n. Both n g.relation g.sides (OutRel R) (and_then (table P d) k) q) none_more f))

  -- the method's run and the block's
  body_match : (vs m m' : List (Value K)) → Stage x.between vs m m' → length vs ≡ count x.args → OldSafe g (calls vs m) → NewSafe g (next (stmts Q.rows me' block_body m') rest_new) → Matched g (Flows x.used) (calls vs m) (next (stmts Q.rows me' block_body m') rest_new)
  body_match vs m m' q full u u' =
      let d : Call K = invoke x.method (callee x.receiver) vs in
      let run_is : table P d ≡ next (body_old vs) (old_end x.used) = ap (λ k. run_method P.rows (callee x.receiver) k vs) x.is_written ∙ ap (λ n. stmts P.rows (callee x.receiver) x.code.body (first_locals n vs)) (x.params ∙ sym full)
      ∙ ap (λ ws. stmts P.rows (callee x.receiver) x.code.body ws) (first_all vs) ∙ body_form vs in
      let form : and_then (table P d) (after x.used m) ≡ and_then (body_old vs) (λ o. and_then (on_value (old_end x.used) o) (after x.used m)) = ap (λ p. and_then p (after x.used m)) run_is ∙ and_then_assoc (body_old vs) (on_value (old_end x.used)) (after x.used m) in
      let safe : OldSafe g (and_then (table P d) (after x.used m)) = safe_and g.old_pre g.old_good (g.old_good d) (λ (o : Out (Flow K)). Unit {0}) (table P d) (after x.used m) (unfolded.old_safe d u.0) u.1 in
      let k' = block_form m' in
      removed_here (Flows x.used) d u.0 (after x.used m) (next (stmts Q.rows me' block_body m') rest_new)
      (subst (λ p. Matched g (Flows x.used) p (next (stmts Q.rows me' block_body m') rest_new)) (sym form)
      (subst (λ p. Matched g (Flows x.used) (and_then (body_old vs) (λ o. and_then (on_value (old_end x.used) o) (after x.used m))) p) (sym k')
      (match_and_safe g (Inner m') (Flows x.used) (body_old vs) (body_new m') (λ o. and_then (on_value (old_end x.used) o) (after x.used m)) (on_value (new_end x.used)) (subst (λ p. OldSafe g p) form safe) (subst (λ p. NewSafe g p) k' u')
      (λ o o'. kept_known g (Inlines P) turns inner inner_stands (frame_of m') (callee x.receiver) me' (inner_holding m' q.still) everything x.body x.new_body x.body_behind x.body_to vs m' (inner_shifted x.between vs m m' q) o o')
      (answers vs m m' q))))

  -- the arguments that are left, and then the call; the declarations that are left, and then the body
  abbrev old_args : List (Value K) → Exps K → List (Value K) → Step K (Flow K)
  old_args vs es m = next (exps P.rows me es m) (λ z. calls (vs ++ z.0) z.1)

  abbrev new_args : ℕ → Exps K → List (Value K) → Step K (Flow K)
  new_args k es m' = next (stmts Q.rows me' (declares x.declare_at x.at k es block_body) m') rest_new

  old_more : (vs m : List (Value K)) (e : Exp K) (es : Exps K) → old_args vs (core.Exps.more e es) m ≡ next (exp P.rows me e m) (λ r. old_args (vs ++ (r.0 ∷ [])) es r.1)
  old_more vs m e es = next_assoc (exp P.rows me e m) rest (λ z. calls (vs ++ z.0) z.1) ∙ (λ i. next (exp P.rows me e m) (λ r. each r i))
    where
      rest : Value K × List (Value K) → Step K (List (Value K) × List (Value K))
      rest r = next (exps P.rows me es r.1) (λ z. done (value (r.0 ∷ z.0, z.1)))

      each : (r : Value K × List (Value K)) → next (rest r) (λ z. calls (vs ++ z.0) z.1) ≡ old_args (vs ++ (r.0 ∷ [])) es r.1
      each r =
          let put : List (Value K) × List (Value K) → Step K (List (Value K) × List (Value K)) = λ z. done (value (r.0 ∷ z.0, z.1)) in
          next_assoc (exps P.rows me es r.1) put (λ z. calls (vs ++ z.0) z.1)
          ∙ (λ i. next (exps P.rows me es r.1) (λ z. calls (sym (append_assoc vs (r.0 ∷ []) z.0) i) z.1))

  new_more : (k : ℕ) (m' : List (Value K)) (e : Exp K) (es : Exps K) → new_args k (core.Exps.more e es) m' ≡ next (exp Q.rows me' e m') (λ a. new_args (suc k) es (with_local a.1 (x.at k) a.0))
  new_more k m' e es =
      let put : Value K × List (Value K) → Step K (Flow K) = λ a. done (value (goes_on (with_local a.1 (x.at k) a.0))) in
      let on : Flow K → Step K (Flow K) = λ f. on_flow f (λ n. stmts Q.rows me' (declares x.declare_at x.at (suc k) es block_body) n) in
      ap (λ (p : Step K (Flow K)). next p rest_new) (next_assoc (exp Q.rows me' e m') put on)
      ∙ next_assoc (exp Q.rows me' e m') (λ a. next (put a) on) rest_new

  args_match : (C D : NumberSet) (es es' : Exps K) → ExpsTo same_keys P.rows s.code C es es' D → D ≡ x.between → (vs m m' : List (Value K)) → length vs + count es ≡ count x.args → Stage C vs m m'
      → OldSafe g (old_args vs es m) → NewSafe g (new_args (length vs) es' m') → Matched g (Flows x.used) (old_args vs es m) (new_args (length vs) es' m')
  args_match C D es es' (to_end E) d vs m m' all q o o' =
      let k : vs ++ [] ≡ vs = append-nil vs in
      let full : length vs ≡ count x.args = omega (arith, all) in
      subst (λ ws. Matched g (Flows x.used) (calls ws m) (next (stmts Q.rows me' block_body m') rest_new)) (sym k)
      (body_match vs m m' (subst (λ S. Stage S vs m m') d q) full (subst (λ ws. OldSafe g (calls ws m)) k o) o')
  args_match C D es es' (to_more E F G e e' xs xs' t ts) d vs m m' all q o o' =
      let left : length vs + suc (count xs) ≡ count x.args = all in
      let fewer : count x.args ≤ x.size = x.fewer in
      let below : length vs < x.size = omega (arith, left, fewer) in
      let k = old_more vs m e xs in
      let k' = new_more (length vs) m' e' xs' in
      subst (λ p. Matched g (Flows x.used) p (new_args (length vs) (core.Exps.more e' xs') m')) (sym k)
      (subst (λ p. Matched g (Flows x.used) (next (exp P.rows me e m) (λ r. old_args (vs ++ (r.0 ∷ [])) xs r.1)) p) (sym k')
      (match_next_safe g (ResultRel same_keys caller (frame_of m') F) (Flows x.used) (exp P.rows me e m) (exp Q.rows me' e' m') (λ r. old_args (vs ++ (r.0 ∷ [])) xs r.1) (λ a. new_args (suc (length vs)) xs' (with_local a.1 (x.at (length vs)) a.0))
      (subst (λ p. OldSafe g p) k o) (subst (λ p. NewSafe g p) k' o')
      (λ i i'. exp_known g caller caller_stands (frame_of m') me me' (caller_holding m' q.still) C F e e' t m m' (caller_shifted C vs m m' q) i i')
      (λ a a' z i i'.
      let longer : length (vs ++ (a.0 ∷ [])) ≡ suc (length vs) = length_one_more vs a.0 in
      let n' : List (Value K) = with_local a'.1 (x.at (length vs)) a'.0 in
      subst (λ j. Matched g (Flows x.used) (old_args (vs ++ (a.0 ∷ [])) xs a.1) (new_args j xs' n')) longer
      (args_match F D xs xs' ts d (vs ++ (a.0 ∷ [])) a.1 n' (omega (arith, left, longer)) (next_stage C F vs m m' q below a a' z) i (subst (λ j. NewSafe g (new_args j xs' n')) (sym longer) i')))))

  -- ---- both lists' plans

  abbrev run : Value K → List (Value K) × List (Value K) → Step K (Value K × List (Value K))
  run v r = call (invoke x.method v r.0) (λ o. done (answer r.1 o))

  abbrev dispatched : List (Value K) × List (Value K) → Option K.class → Step K (Value K × List (Value K))
  dispatched r o = on_class o (λ c. call (invoke (unwrap_or (P.rows.dispatch c x.method) x.method) me r.0) (λ a. done (answer r.1 a)))

  call_is : (v : Receiver K) → IsFound P s x.method v → exp P.rows me (made_call v x.call_at x.method x.args) l ≡ next (exps P.rows me x.args l) (run (callee v))
  call_is no_receiver t = refl
  call_is (on_this e) t =
      let c = class_found P.rows (class_of P.rows me) t.1.0 (instance_of P.rows me s.code.classes im.classes t.1.0 t.1.1) in
      let found : (r : List (Value K) × List (Value K)) → dispatched r (class_of P.rows me) ≡ run me r =
      λ r. ap (dispatched r) c.1 ∙ ap (λ m. call (invoke m me r.0) (λ a. done (answer r.1 a))) (t.1.2 c.0 c.2) in
      ap (λ (p : Step K (Value K × List (Value K))). next p (λ r. next (exps P.rows me x.args r.1) (λ z. on_class (class_of P.rows r.0) (λ k. call (invoke (unwrap_or (P.rows.dispatch k x.method) x.method) r.0 z.0) (λ a. done (answer z.1 a))))))
      (old_cast g s st frame me me' im t.0.0 e t.0.1 l)
      ∙ (λ i. next (exps P.rows me x.args l) (λ z. found z i))

  abbrev go : List (Value K) × List (Value K) → Step K (Value K × List (Value K))
  go r = run (callee x.receiver) r

  used_form : (d : Used) → stmts P.rows me (core.Stmts.more (used_call d) x.rest) l ≡ next (exps P.rows me x.args l) (λ z. call (invoke x.method (callee x.receiver) z.0) (after d z.1))
  used_form dropped =
      ap (λ (p : Step K (Value K × List (Value K))). next (next p gone) rest_old) (call_is x.receiver x.is_found)
      ∙ ap (λ (p : Step K (Flow K)). next p rest_old) (next_assoc (exps P.rows me x.args l) go gone)
      ∙ next_assoc (exps P.rows me x.args l) (λ z. next (go z) gone) rest_old
  used_form (assigned k) =
      ap (λ (p : Step K (Value K × List (Value K))). next (next (next p (put k)) gone) rest_old) (call_is x.receiver x.is_found)
      ∙ ap (λ (p : Step K (Value K × List (Value K))). next (next p gone) rest_old) (next_assoc (exps P.rows me x.args l) go (put k))
      ∙ ap (λ (p : Step K (Flow K)). next p rest_old) (next_assoc (exps P.rows me x.args l) (λ z. next (go z) (put k)) gone)
      ∙ next_assoc (exps P.rows me x.args l) (λ z. next (next (go z) (put k)) gone) rest_old
  used_form returned =
      ap (λ (p : Step K (Value K × List (Value K))). next (next p give) rest_old) (call_is x.receiver x.is_found)
      ∙ ap (λ (p : Step K (Flow K)). next p rest_old) (next_assoc (exps P.rows me x.args l) go give)
      ∙ next_assoc (exps P.rows me x.args l) (λ z. next (go z) give) rest_old

  old_form : stmts P.rows me (core.Stmts.more (used_call x.used) x.rest) l ≡ old_args [] x.args l
  old_form = used_form x.used

  new_form : stmts Q.rows me' (core.Stmts.more (block x.block_at numbers (declares x.declare_at x.at 0 x.new_args block_body)) x.new_rest) l' ≡ new_args 0 x.new_args start
  new_form = refl

  -- with what the old list may do: it may return where its rest may
  pub inlined_list : OldSafe g (stmts P.rows me old l) → NewSafe g (stmts Q.rows me' new l') → Matched g (λ f f'. FlowRel same_keys (Shifted same_keys s frame B) (SomeReturns old) f f') (stmts P.rows me old l) (stmts Q.rows me' new l')
  inlined_list o o' =
      let k : stmts P.rows me old l ≡ old_args [] x.args l = ap (λ b. stmts P.rows me b l) x.old_is ∙ old_form in
      let k' : stmts Q.rows me' new l' ≡ new_args 0 x.new_args start = ap (λ b. stmts Q.rows me' b l') x.new_is ∙ new_form in
      match_weaker g (Flows x.used) (λ f f'. FlowRel same_keys (Shifted same_keys s frame B) (SomeReturns old) f f') (stmts P.rows me old l) (stmts Q.rows me' new l')
      (wider same_keys (Shifted same_keys s frame B) (Shifted same_keys s frame B) (Returns (used_call x.used) ⊎ SomeReturns x.rest) (SomeReturns old) (λ m m' e. e) (λ y. subst SomeReturns (sym x.old_is) y))
      (subst (λ p. Matched g (Flows x.used) p (stmts Q.rows me' new l')) (sym k)
      (subst (λ p. Matched g (Flows x.used) (old_args [] x.args l) p) (sym k') (args_match A x.between x.args x.new_args x.args_to refl [] l start (omega arith) first_stage (subst (λ p. OldSafe g p) k o) (subst (λ p. NewSafe g p) k' o'))))

-- Programs in which any number of such calls has become blocks have the same runs.
pub inlined_programs_are_alike : {K : Keys} (P Q : Program K) → ProgramTo same_keys (Inlines P) P Q → AlikeExactly same_keys P Q
inlined_programs_are_alike P Q to =
    let c : Changes same_keys same_keys (Inlines P) 0 (Mapped same_keys) P Q = record { there = same_undoes; joins = mapped_joins same_keys; images = mapped_images same_keys; programs = to } in
    alike same_keys same_keys same_undoes 0 (Mapped same_keys) (λ u t. u ≡ t) (λ t u e. e) P Q to.rows.field_kind
    (starts_match same_keys (Inlines P) 0 (Mapped same_keys) P Q (programs_match same_keys same_keys (Inlines P) 0 (Mapped same_keys) P Q c
    (λ Z tables answered s stands frame me me' im A b b' B x l l' h.
    let w = setting same_keys same_keys (Inlines P) 0 (Mapped same_keys) P Q c Z answered in
    let turns = turns_in same_keys same_keys (Inlines P) 0 (Mapped same_keys) P Q c Z answered in
    inlined_list P Q (unguarded w) refl (any_unfolded P Q (unguarded w) (λ d. any_safe (table P d)) (λ d. any_safe (table Q d)) tables) (λ v t a m v' t' a' m' e u u'. turns v t a m v' t' a' m' e)
    s stands frame me me' im A b b' B x l l' h (any_safe (stmts P.rows me b l)) (any_safe (stmts Q.rows me' b' l')))))

-- The same where both are well typed; then a call on `this` may be gone.
pub inlined_methods_are_alike : {K : Keys} (P Q : Program K) → WellTyped P → WellTyped Q → TypedProgramTo same_keys (lists_alone (Inlines P)) P Q → AlikeExactly same_keys P Q
inlined_methods_are_alike P Q typed typed' to =
    let c : TypedChanges same_keys same_keys (lists_alone (Inlines P)) 0 (Mapped same_keys) P Q = typed_changes same_keys same_keys (lists_alone (Inlines P)) same_undoes P Q typed typed' to in
    typed_alike same_keys same_keys (lists_alone (Inlines P)) same_undoes P Q c
    (λ Z answered unfolded. record {
      exps = λ s stands frame me me' im A B e e' none l l' h o o'. absurd none;
      lists = λ s stands frame me me' im A b b' B x l l' h o o'.
          inlined_list P Q (typed_guard same_keys same_keys (lists_alone (Inlines P)) 0 (Mapped same_keys) P Q c Z answered) refl unfolded (typed_turns same_keys same_keys (lists_alone (Inlines P)) 0 (Mapped same_keys) P Q c Z answered) s stands frame me me' im A b b' B x l l' h o o';
    })
