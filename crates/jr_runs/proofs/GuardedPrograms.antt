-- The plans of calls that belong together match, wherever such calls are answered alike, if both are made as they should be.
use Rattle.std.proofs.Common.{inl, List, [], ◌∷◌, map, Option, None, IsTrue, refl, subst}
use Rattle.jr_plans.specs.Plan.{done}
use Rattle.jr_plans.specs.Follow.{Both}
use Rattle.jr_plans.specs.Safe.{Safe, WellTables}
use Rattle.jr_plans.proofs.BothWays.{both_more}
use Rattle.jr_runs.specs.Keys.{Keys}
use Rattle.jr_runs.specs.Values.{Value}
use Rattle.jr_runs.specs.Actions.{start}
use Rattle.jr_runs.specs.Rows.{Rows}
use Rattle.jr_runs.specs.Fitting.{is_truth}
use Rattle.jr_runs.specs.Arithmetic.{started_before, Out, value, thrown}
use Rattle.jr_runs.specs.Core.{Code, Method, written, starts, Program}
use Rattle.jr_runs.specs.Evaluation.{Flow, goes_on, returns, Call, invoke, construct, turn, Step, first_locals, on_truth, stmts, run_code, run_start, run_method, table}
use Rattle.jr_runs.specs.KeyMaps.{KeyMap, value_image}
use Rattle.jr_runs.specs.Sets.{everything}
use Rattle.jr_runs.specs.Standing.{no_frame, Stands, whole, HasAll, Shifted}
use Rattle.jr_runs.specs.Images.{Among, Spots, AllSpots, lists_alone, CodeTo, MethodTo}
use Rattle.jr_runs.specs.TypedImages.{IsAbove, member, TypedCodeTo, TypedMethodTo}
use Rattle.jr_runs.specs.Pairs.{OutRel, GivenImage, given_of, FlowRel, AnswerRel, SomeReturns, PairImage, PostImage}
use Rattle.jr_runs.proofs.Locals.{below_upto, shifted_start}
use Rattle.jr_runs.proofs.ImageValues.{is_truth_image}
use Rattle.jr_runs.proofs.Guarded.{Guarded, OldSafe, NewSafe, match_value, match_thrown, match_answers_safe, match_truth_safe}
use Rattle.jr_runs.proofs.GuardedStmts.{TurnsKnown, SpotsKnown, stmts_known, whole_turn_known}

-- `this` has all classes that are above a member's
abbrev pub HasMine : {K : Keys} → Rows K → Option K.class → Value K → Type 0
HasMine {K = K} R owner me = (cs : List K.class) → ((c : K.class) → Among c cs → IsAbove R owner c) → HasAll R me cs

-- where nothing is known of `this` there are none
pub none_above : {K : Keys} (R : Rows K) (me : Value K) → HasMine R None me
none_above R me [] h = tt
none_above R me (c ∷ cs) h = absurd (h c (inl refl))

-- an image is one in which nothing is known of `this`
pub code_of_any : {K : Keys} (r : KeyMap K) (R : Rows K) (Spot : Spots K) (c c' : Code K) → CodeTo r R Spot c c' → TypedCodeTo r R (lists_alone Spot) None c c'
code_of_any r R Spot c c' t = record {
  size = t.size;
  at = t.at;
  injective = t.injective;
  params = t.params;
  params_below = t.params_below;
  params_stay = t.params_stay;
  classes = [];
  above = λ k none. none;
  behind = t.behind;
  body = t.body;
}

pub method_of_any : {K : Keys} (r : KeyMap K) (R : Rows K) (Spot : Spots K) (m m' : Method K) → MethodTo r R Spot m m' → TypedMethodTo r R (lists_alone Spot) None m m'
method_of_any r R Spot (written c) (written c') t = code_of_any r R Spot c c' t
method_of_any r R Spot starts starts t = tt
method_of_any r R Spot (written c) starts t = absurd t
method_of_any r R Spot starts (written c) t = absurd t

-- a caller doesn't see the locals
pub unseen : {K : Keys} (keys : KeyMap K) (L : List (Value K) → List (Value K) → Type 0) (M : Type 0) (o o' : Out (Flow K)) → OutRel (FlowRel keys L M) o o' → AnswerRel keys o o'
unseen keys L M (value (goes_on l)) (value (goes_on l')) h = tt
unseen keys L M (value (returns v)) (value (returns v')) h = h.0
unseen keys L M (value (goes_on l)) (value (returns v')) h = absurd h
unseen keys L M (value (returns v)) (value (goes_on l')) h = absurd h
unseen keys L M (value f) (thrown f') h = h
unseen keys L M (thrown f) (value f') h = h
unseen keys L M (thrown f) (thrown f') h = h

module _ {K : Keys} {keys : KeyMap K} {R R' : Rows K} (g : Guarded keys R R') where
  abbrev Given : Flow K → Flow K → Type 0
  Given f f' = GivenImage keys (given_of f) (given_of f')

  start_known : (me : Value K) → OldSafe g (run_start me) → NewSafe g (run_start (value_image keys me)) → Both g.more g.relation g.sides (AnswerRel keys) (run_start me) (run_start (value_image keys me))
  start_known me o o' = match_answers_safe g Given is_truth is_truth (λ v. record { at = None; action = start me v }) (λ v. record { at = None; action = start (value_image keys me) v })
      (λ v. on_truth v (done (thrown started_before)) (done (value (returns None)))) (λ v. on_truth v (done (thrown started_before)) (done (value (returns None)))) (is_truth_image keys) (λ v. refl) o o'
      (λ v u u'. match_truth_safe g Given v (value_image keys v) refl (done (thrown started_before)) (done (value (returns None))) (done (thrown started_before)) (done (value (returns None))) u u'
      (λ n n'. match_thrown g Given started_before) (λ n n'. match_value g Given (returns None) (returns None) tt))

  module _ (Spot : AllSpots K) (turns : TurnsKnown g Spot) (spots : SpotsKnown g Spot) where
    abbrev Answers : Step K (Flow K) → Step K (Flow K) → Type 0
    Answers p p' = Both g.more g.relation g.sides (AnswerRel keys) p p'

    code_known : (owner : Option K.class) (c c' : Code K) → TypedCodeTo keys R Spot owner c c' → (me : Value K) (args : List (Value K)) → HasMine R owner me → OldSafe g (run_code R me c args) → NewSafe g (run_code R' (value_image keys me) c' (map (value_image keys) args))
        → Answers (run_code R me c args) (run_code R' (value_image keys me) c' (map (value_image keys) args))
    code_known owner c c' t me args mine o o' =
        let s = member t.classes t.size t.at in
        let st : Stands s = record { injective = λ i j a b. t.injective i j (below_upto t.size i a) (below_upto t.size j b); apart = λ i b none. none; self = tt; held = tt; cast = tt } in
        let given : List (Value K) = map (value_image keys) args in
        let begun : Shifted keys (whole t.size t.at) no_frame everything (first_locals c.params args) (first_locals c.params given) = shifted_start keys t.size t.at c.params t.injective t.params_below t.params_stay args in
        let well : NewSafe g (stmts R' (value_image keys me) c'.body (first_locals c.params given)) = subst (λ n. NewSafe g (stmts R' (value_image keys me) c'.body (first_locals n given))) t.params o' in
        rw t.params (both_more g.more g.relation g.joins g.sides (OutRel (FlowRel keys (Shifted keys s no_frame t.behind) (SomeReturns c.body))) (AnswerRel keys) (run_code R me c args)
        (stmts R' (value_image keys me) c'.body (first_locals c.params given))
        (unseen keys (Shifted keys s no_frame t.behind) (SomeReturns c.body))
        (stmts_known g Spot turns s st no_frame me (value_image keys me) (record { self = refl; classes = mine t.classes t.above; holds = tt; casts = tt }) spots everything t.behind c.body c'.body t.body (first_locals c.params args) (first_locals c.params given)
        (record { moved = begun.moved; others = begun.others; known = begun.known }) o well))

    method_known : (owner : Option K.class) (m m' : Method K) → TypedMethodTo keys R Spot owner m m' → (me : Value K) (args : List (Value K)) → HasMine R owner me → OldSafe g (run_method R me m args) → NewSafe g (run_method R' (value_image keys me) m' (map (value_image keys) args))
        → Answers (run_method R me m args) (run_method R' (value_image keys me) m' (map (value_image keys) args))
    method_known owner (written c) (written c') t me args mine o o' = code_known owner c c' t me args mine o o'
    method_known owner starts starts t me args mine o o' = start_known me o o'
    method_known owner (written c) starts t me args mine o o' = absurd t
    method_known owner starts (written c) t me args mine o o' = absurd t

-- What is known of two programs where a changed list is matched: both tables may be used, for calls that are made as they should
-- be, and these make such calls again.
pub record Unfolded {K : Keys} {keys : KeyMap K} (P Q : Program K) (g : Guarded keys P.rows Q.rows) : Type 0 where
  pub tables : WellTables g.old_pre g.new_pre (table P) (table Q) g.sides
  pub old_safe : (c : Call K) → g.old_pre c → Safe g.old_pre g.old_good (g.old_good c) (table P c)
  pub new_safe : (c : Call K) → g.new_pre c → Safe g.new_pre g.new_good (g.new_good c) (table Q c)

-- old and new code of methods and constructors, each with the class of which `this` is known to be, if it is
pub record Bodies {K : Keys} (keys : KeyMap K) (Spot : AllSpots K) (P Q : Program K) (pre : Call K → Type 0) : Type 0 where
  pub owner : K.method → Option K.class
  pub method : (m : K.method) → IsTrue (P.rows.has_method m) → TypedMethodTo keys P.rows Spot (owner m) (P.method m) (Q.method (keys.method m))
  pub method_mine : (m : K.method) (me : Value K) (args : List (Value K)) → pre (invoke m me args) → HasMine P.rows (owner m) me
  pub constructor_owner : K.constructor → Option K.class
  pub constructor : (k : K.constructor) → IsTrue (P.rows.has_constructor k) → TypedCodeTo keys P.rows Spot (constructor_owner k) (P.constructor k) (Q.constructor (keys.constructor k))
  pub constructor_mine : (k : K.constructor) (me : Value K) (args : List (Value K)) → pre (construct k me args) → HasMine P.rows (constructor_owner k) me

module _ {K : Keys} {keys : KeyMap K} (P Q : Program K) (g : Guarded keys P.rows Q.rows) (Spot : AllSpots K) (turns : TurnsKnown g Spot) (spots : SpotsKnown g Spot) (bodies : Bodies keys Spot P Q g.old_pre) where
  pub calls_known : (d d' : Call K) (pair : PairImage keys P.rows Spot d d') → g.old_pre d → OldSafe g (table P d) → NewSafe g (table Q d') → Both g.more g.relation g.sides (PostImage keys P.rows Spot d d' pair) (table P d) (table Q d')
  calls_known (invoke m me args) (invoke m' me' args') pair pre o o' =
      let well : NewSafe g (run_method Q.rows (value_image keys me) (Q.method (keys.method m)) (map (value_image keys) args)) = subst (λ c. NewSafe g (table Q c)) (λ i. invoke (pair.1 i) (pair.2 i) (pair.3 i)) o' in
      rw (pair.1, pair.2, pair.3) (method_known g Spot turns spots (bodies.owner m) (P.method m) (Q.method (keys.method m)) (bodies.method m pair.0) me args (bodies.method_mine m me args pre) o well)
  calls_known (construct k me args) (construct k' me' args') pair pre o o' =
      let well : NewSafe g (run_code Q.rows (value_image keys me) (Q.constructor (keys.constructor k)) (map (value_image keys) args)) = subst (λ c. NewSafe g (table Q c)) (λ i. construct (pair.1 i) (pair.2 i) (pair.3 i)) o' in
      rw (pair.1, pair.2, pair.3) (code_known g Spot turns spots (bodies.constructor_owner k) (P.constructor k) (Q.constructor (keys.constructor k)) (bodies.constructor k pair.0) me args (bodies.constructor_mine k me args pre) o well)
  calls_known (turn me c b l) (turn me' c' b' l') t pre o o' = whole_turn_known g Spot turns t.at t.stands t.frame me me' t.self spots t.head t.tested t.behind c c' b b' t.condition t.body t.again l l' t.locals o o'
  calls_known (invoke m me args) (construct k' me' args') pair pre o o' = absurd pair
  calls_known (invoke m me args) (turn me' c' b' l') pair pre o o' = absurd pair
  calls_known (construct k me args) (invoke m' me' args') pair pre o o' = absurd pair
  calls_known (construct k me args) (turn me' c' b' l') pair pre o o' = absurd pair
  calls_known (turn me c b l) (invoke m' me' args') pair pre o o' = absurd pair
  calls_known (turn me c b l) (construct k' me' args') pair pre o o' = absurd pair
