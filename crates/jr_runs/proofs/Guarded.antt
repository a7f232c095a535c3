-- When the plans of old and new code match, construct by construct, where something is known of each call that is made.
-- A plan carries that its calls are made so: what follows a piece makes such calls too. Where nothing is known of any call
-- this is plain matching (`unguarded`); in well-typed programs calls are well made (`TypedPrograms: typed_guard`).
use Rattle.std.proofs.Common.{◌≡◌, ℕ, Bool, true, false, List, [], ◌∷◌, Option, Some, None, option_map, unwrap_or, IsTrue, map, refl, sym, ap, ◌∙◌, subst}
use Rattle.jr_plans.specs.Plan.{Plan, done, act, ask, call, and_then}
use Rattle.jr_plans.specs.Safe.{Safe}
use Rattle.jr_plans.specs.Follow.{Follows, Joins, Sides, Both, CallBoth}
use Rattle.jr_plans.proofs.BothWays.{turned_round, both_done, both_act, both_ask, both_call, both_and, both_more}
use Rattle.jr_plans.proofs.Following.{follows_ask}
use Rattle.jr_plans.proofs.Safety.{AnswersWell, safe_ends, safe_more}
use Rattle.jr_runs.specs.Keys.{Keys}
use Rattle.jr_runs.specs.Values.{Value, int, truth, null, text, class_object, object}
use Rattle.jr_runs.specs.Actions.{Event}
use Rattle.jr_runs.specs.Rows.{Rows}
use Rattle.jr_runs.specs.Fitting.{class_of}
use Rattle.jr_runs.specs.Arithmetic.{Fault, null_reference, Out, value, thrown}
use Rattle.jr_runs.specs.Evaluation.{Flow, Call, invoke, construct, Step, on_value, next, non_null, on_truth}
use Rattle.jr_runs.specs.KeyMaps.{KeyMap, Undoes, value_image, action_image}
use Rattle.jr_runs.specs.KeptDeclarations.{SameDeclarations}
use Rattle.jr_runs.specs.Pairs.{OutRel, ImageOf, AnswerRel}
use Rattle.jr_runs.proofs.Undoing.{value_back}
use Rattle.jr_runs.proofs.Matching.{Setting}

-- ---- plans whose calls are made so

-- what follows a safe piece is safe
safe_behind : {V E S R A B : Type 0} (Pre : S → Type 0) (Good : S → R → Type 0) (Q : B → Type 0) (p : Plan V E S R A) (k : A → Plan V E S R B) → Safe Pre Good Q (and_then p k) → Safe Pre Good (λ a. Safe Pre Good Q (k a)) p
safe_behind Pre Good Q (done a) k h = h
safe_behind Pre Good Q (act x p) k h = safe_behind Pre Good Q p k h
safe_behind Pre Good Q (ask f s p) k h = λ v i. safe_behind Pre Good Q (p v) k (h v i)
safe_behind Pre Good Q (call c p) k h = (h.0, λ r i. safe_behind Pre Good Q (p r) k (h.1 r i))

-- where nothing is known of any call
pub any_safe : {V E S R A : Type 0} (p : Plan V E S R A) → Safe (λ (c : S). Unit {0}) (λ (c : S) (r : R). Unit {0}) (λ (a : A). Unit {0}) p
any_safe (done a) = tt
any_safe (act x p) = any_safe p
any_safe (ask f s p) = λ v i. any_safe (p v)
any_safe (call c p) = (tt, λ r i. any_safe (p r))

-- Each call is made as pre says, if those before it are answered as good says.
abbrev pub SafeCalls : {K : Keys} {A : Type 0} → (Call K → Type 0) → (Call K → Out (Flow K) → Type 0) → Step K A → Type 0
SafeCalls {A = A} pre good p = Safe pre good (λ (o : Out A). Unit {0}) p

module _ {K : Keys} (pre : Call K → Type 0) (good : Call K → Out (Flow K) → Type 0) where
  pub safe_calls : {A : Type 0} (U : Out A → Type 0) (p : Step K A) → Safe pre good U p → SafeCalls pre good p
  safe_calls {A = A} U p h = safe_more pre good U (λ (o : Out A). Unit {0}) (λ o u. tt) p h

  pub safe_first : {A B : Type 0} (p : Step K A) (k : Out A → Step K B) → SafeCalls pre good (and_then p k) → SafeCalls pre good p
  safe_first {A = A} {B = B} p k h = safe_calls (λ (o : Out A). SafeCalls pre good (k o)) p (safe_behind pre good (λ (o : Out B). Unit {0}) p k h)

-- ---- two programs side by side

-- calls that are made so are answered so, in all worlds
pub record Trusted {E S R S' R' : Type 0} (Pre : S → Type 0) (Good : S → R → Type 0) (Pre' : S' → Type 0) (Good' : S' → R' → Type 0) (Z : Sides E S R S' R') : Type 0 where
  pub in_old_given : AnswersWell Pre Good Z.old_given
  pub in_new_found : AnswersWell Pre' Good' Z.new_found
  pub in_new_given : AnswersWell Pre' Good' Z.new_given
  pub in_old_found : AnswersWell Pre Good Z.old_found

-- In worlds where methods and constructors that belong together are answered alike, if both calls are made as they should be.
pub record Guarded {K : Keys} (keys : KeyMap K) (old new : Rows K) : Type 1 where
  pub back : KeyMap K
  pub there : Undoes back keys
  pub more : ℕ
  -- how traces are related: at least, an action and its image are
  pub relation : List (Event K) → List (Event K) → Type 0
  pub joins : Joins relation
  pub images : (x y : Event K) → y.action ≡ action_image keys x.action → relation (x ∷ []) (y ∷ [])
  pub sides : Sides (Event K) (Call K) (Out (Flow K)) (Call K) (Out (Flow K))
  pub rows : SameDeclarations keys old new
  pub old_pre : Call K → Type 0
  pub old_good : Call K → Out (Flow K) → Type 0
  pub new_pre : Call K → Type 0
  pub new_good : Call K → Out (Flow K) → Type 0
  pub trusted : Trusted old_pre old_good new_pre new_good sides
  -- what a call on an object finds is declared, and its image is found
  pub finds : (c : K.class) (m : K.method) (v : Value K) (vs : List (Value K)) → IsTrue (old.has_method m) → class_of old v ≡ Some c → old_pre (invoke (unwrap_or (old.dispatch c m) m) v vs)
      → IsTrue (old.has_method (unwrap_or (old.dispatch c m) m)) × (unwrap_or (new.dispatch (keys.class c) (keys.method m)) (keys.method m) ≡ keys.method (unwrap_or (old.dispatch c m) m))
  pub methods : (m : K.method) (v : Value K) (vs : List (Value K)) → IsTrue (old.has_method m) → old_pre (invoke m v vs) → new_pre (invoke (keys.method m) (value_image keys v) (map (value_image keys) vs))
      → CallBoth more relation sides (AnswerRel keys) (invoke m v vs) (invoke (keys.method m) (value_image keys v) (map (value_image keys) vs))
  pub constructors : (k : K.constructor) (v : Value K) (vs : List (Value K)) → IsTrue (old.has_constructor k) → old_pre (construct k v vs) → new_pre (construct (keys.constructor k) (value_image keys v) (map (value_image keys) vs))
      → CallBoth more relation sides (AnswerRel keys) (construct k v vs) (construct (keys.constructor k) (value_image keys v) (map (value_image keys) vs))

-- the outcomes are related by Q
abbrev pub Matched : {K : Keys} {keys : KeyMap K} {old new : Rows K} {A B : Type 0} → Guarded keys old new → (A → B → Type 0) → Step K A → Step K B → Type 0
Matched g Q p q = Both g.more g.relation g.sides (OutRel Q) p q

abbrev pub OldSafe : {K : Keys} {keys : KeyMap K} {old new : Rows K} {A : Type 0} → Guarded keys old new → Step K A → Type 0
OldSafe g p = SafeCalls g.old_pre g.old_good p

abbrev pub NewSafe : {K : Keys} {keys : KeyMap K} {old new : Rows K} {A : Type 0} → Guarded keys old new → Step K A → Type 0
NewSafe g p = SafeCalls g.new_pre g.new_good p

-- A run comes only to what its plan is safe for, on either side.
both_known : {V E S R S' R' A B : Type 0} (Pre : S → Type 0) (Good : S → R → Type 0) (Pre' : S' → Type 0) (Good' : S' → R' → Type 0) (n : ℕ) (W : List E → List E → Type 0) (Z : Sides E S R S' R') → Trusted Pre Good Pre' Good' Z
    → (Q : A → B → Type 0) (U : A → Type 0) (U' : B → Type 0) (p : Plan V E S R A) (q : Plan V E S' R' B) → Safe Pre Good U p → Safe Pre' Good' U' q → Both n W Z Q p q → Both n W Z (λ a b. Q a b × U a × U' b) p q
both_known Pre Good Pre' Good' n W Z t Q U U' p q u u' f = record {
  forth = record {
    ended = λ w a h. let g = (f.forth).ended w a h in (g.0, g.1, g.2, (g.3, safe_ends Pre Good Z.old_given t.in_old_given U p u w a h, safe_ends Pre' Good' Z.new_found t.in_new_found U' q u' g.0 g.1 g.2), g.4);
    begun = λ w h. (f.forth).begun w h;
  };
  back = record {
    ended = λ w b h. let g = (f.back).ended w b h in (g.0, g.1, g.2, (g.3, safe_ends Pre Good Z.old_found t.in_old_found U p u g.0 g.1 g.2, safe_ends Pre' Good' Z.new_given t.in_new_given U' q u' w b h), g.4);
    begun = λ w h. (f.back).begun w h;
  };
}

-- `both_ask`, where it is known of each answer that it fits
both_ask_fit : {V E S R S' R' A B : Type 0} (n : ℕ) (W : List E → List E → Type 0) → Joins W → (Z : Sides E S R S' R') (Q : A → B → Type 0) (f f' : V → Bool) (s s' : V → E) (p : V → Plan V E S R A) (q : V → Plan V E S' R' B) (to from : V → V)
    → ((v : V) → to (from v) ≡ v) → ((v : V) → f' (to v) ≡ f v) → ((v : V) → W (s v ∷ []) (s' (to v) ∷ [])) → ((v : V) → IsTrue (f v) → Both n W Z Q (p v) (q (to v)))
    → Both n W Z Q (ask f s p) (ask f' s' q)
both_ask_fit n W joins Z Q f f' s s' p q to from there fit shown k = record {
  forth = follows_ask n W joins Z.old_given Z.new_found Q f f' s s' p q (λ v h. (to v, fit v ∙ h, shown v, (k v h).forth));
  back = follows_ask n (λ t u. W u t) (turned_round W joins) Z.new_given Z.old_found (λ d c. Q c d) f' f s' s q p (λ v h.
      let e = there v in
      let i : IsTrue (f (from v)) = sym (fit (from v)) ∙ ap f' e ∙ h in (
        from v,
        i,
        subst (λ x. W (s (from v) ∷ []) (s' x ∷ [])) e (shown (from v)),
        subst (λ x. Follows n (λ t u. W u t) Z.new_given Z.old_found (λ d c. Q c d) (q x) (p (from v))) e (k (from v) i).back,
      ));
}

module _ {K : Keys} {keys : KeyMap K} {R R' : Rows K} (g : Guarded keys R R') where
  -- ---- pieces without calls

  pub match_next : {A A' B B' : Type 0} (Q : A → A' → Type 0) (Q' : B → B' → Type 0) (p : Step K A) (p' : Step K A') (k : A → Step K B) (k' : A' → Step K B')
      → Matched g Q p p' → ((a : A) (a' : A') → Q a a' → Matched g Q' (k a) (k' a')) → Matched g Q' (next p k) (next p' k')
  match_next {A = A} {A' = A'} Q Q' p p' k k' f h = both_and g.more g.relation g.joins g.sides (OutRel Q) (OutRel Q') p (on_value k) p' (on_value k') f go
    where
      go : (a : Out A) (a' : Out A') → OutRel Q a a' → Matched g Q' (on_value k a) (on_value k' a')
      go (value a) (value a') e = h a a' e
      go (thrown f) (thrown f') e = both_done g.more g.relation g.joins g.sides (OutRel Q') (thrown f) (thrown f') e
      go (value a) (thrown f') e = absurd e
      go (thrown f) (value a') e = absurd e

  pub match_outcome : {A A' : Type 0} (Q : A → A' → Type 0) (o : Out A) (o' : Out A') → OutRel Q o o' → Matched g Q (done o) (done o')
  match_outcome Q o o' h = both_done g.more g.relation g.joins g.sides (OutRel Q) o o' h

  pub match_value : {A A' : Type 0} (Q : A → A' → Type 0) (a : A) (a' : A') → Q a a' → Matched g Q (done (value a)) (done (value a'))
  match_value Q a a' h = match_outcome Q (value a) (value a') h

  pub match_thrown : {A A' : Type 0} (Q : A → A' → Type 0) (f : Fault) → Matched g Q (done (thrown f)) (done (thrown f))
  match_thrown Q f = match_outcome Q (thrown f) (thrown f) refl

  pub match_action : {A A' : Type 0} (Q : A → A' → Type 0) (x y : Event K) (p : Step K A) (p' : Step K A') → y.action ≡ action_image keys x.action → Matched g Q p p' → Matched g Q (act x p) (act y p')
  match_action Q x y p p' e f = both_act g.more g.relation g.joins g.sides (OutRel Q) x y p p' (g.images x y e) f

  pub match_weaker : {A A' : Type 0} (Q Q' : A → A' → Type 0) (p : Step K A) (p' : Step K A') → ((o : Out A) (o' : Out A') → OutRel Q o o' → OutRel Q' o o') → Matched g Q p p' → Matched g Q' p p'
  match_weaker Q Q' p p' i f = both_more g.more g.relation g.joins g.sides (OutRel Q) (OutRel Q') p p' i f

  pub match_non_null : {A A' : Type 0} (Q : A → A' → Type 0) (v : Value K) (p : Step K A) (p' : Step K A') → Matched g Q p p' → Matched g Q (non_null v p) (non_null (value_image keys v) p')
  match_non_null Q (truth b) p p' f = f
  match_non_null Q (int m) p p' f = f
  match_non_null Q null p p' f = match_thrown Q null_reference
  match_non_null Q (text t) p p' f = f
  match_non_null Q (class_object c) p p' f = f
  match_non_null Q (object n c) p p' f = f

  -- each answer has its image
  pub match_answers : {A A' : Type 0} (Q : A → A' → Type 0) (f f' : Value K → Bool) (s s' : Value K → Event K) (p : Value K → Step K A) (p' : Value K → Step K A')
      → ((v : Value K) → f' (value_image keys v) ≡ f v) → ((v : Value K) → (s' (value_image keys v)).action ≡ action_image keys (s v).action) → ((v : Value K) → Matched g Q (p v) (p' (value_image keys v)))
      → Matched g Q (ask f s p) (ask f' s' p')
  match_answers Q f f' s s' p p' e d h = both_ask g.more g.relation g.joins g.sides (OutRel Q) f f' s s' p p' (value_image keys) (value_image g.back) (value_back g.back keys g.there) e (λ v. g.images (s v) (s' (value_image keys v)) (d v)) h

  -- ---- pieces with calls

  -- one piece after another, whatever the first one comes to
  pub match_and_safe : {A A' B B' : Type 0} (Q : A → A' → Type 0) (Q' : B → B' → Type 0) (p : Step K A) (p' : Step K A') (k : Out A → Step K B) (k' : Out A' → Step K B') → OldSafe g (and_then p k) → NewSafe g (and_then p' k')
      → (OldSafe g p → NewSafe g p' → Matched g Q p p') → ((o : Out A) (o' : Out A') → OutRel Q o o' → OldSafe g (k o) → NewSafe g (k' o') → Matched g Q' (k o) (k' o')) → Matched g Q' (and_then p k) (and_then p' k')
  match_and_safe {A = A} {A' = A'} {B = B} {B' = B'} Q Q' p p' k k' u u' f h =
      let U : Out A → Type 0 = λ o. OldSafe g (k o) in
      let U' : Out A' → Type 0 = λ o. NewSafe g (k' o) in
      let v : Safe g.old_pre g.old_good U p = safe_behind g.old_pre g.old_good (λ (b : Out B). Unit {0}) p k u in
      let v' : Safe g.new_pre g.new_good U' p' = safe_behind g.new_pre g.new_good (λ (b : Out B'). Unit {0}) p' k' u' in
      both_and g.more g.relation g.joins g.sides (λ o o'. OutRel Q o o' × U o × U' o') (OutRel Q') p k p' k'
      (both_known g.old_pre g.old_good g.new_pre g.new_good g.more g.relation g.sides g.trusted (OutRel Q) U U' p p' v v' (f (safe_calls g.old_pre g.old_good U p v) (safe_calls g.new_pre g.new_good U' p' v')))
      (λ o o' e. h o o' e.0 e.1 e.2)

  pub match_next_safe : {A A' B B' : Type 0} (Q : A → A' → Type 0) (Q' : B → B' → Type 0) (p : Step K A) (p' : Step K A') (k : A → Step K B) (k' : A' → Step K B') → OldSafe g (next p k) → NewSafe g (next p' k')
      → (OldSafe g p → NewSafe g p' → Matched g Q p p') → ((a : A) (a' : A') → Q a a' → OldSafe g (k a) → NewSafe g (k' a') → Matched g Q' (k a) (k' a')) → Matched g Q' (next p k) (next p' k')
  match_next_safe {A = A} {A' = A'} Q Q' p p' k k' u u' f h = match_and_safe Q Q' p p' (on_value k) (on_value k') u u' f go
    where
      go : (o : Out A) (o' : Out A') → OutRel Q o o' → OldSafe g (on_value k o) → NewSafe g (on_value k' o') → Matched g Q' (on_value k o) (on_value k' o')
      go (value a) (value a') e i i' = h a a' e i i'
      go (thrown x) (thrown y) e i i' = match_outcome Q' (thrown x) (thrown y) e
      go (value a) (thrown y) e i i' = absurd e
      go (thrown x) (value a') e i i' = absurd e

  truth_safe : {A A' : Type 0} (Q : A → A' → Type 0) (v : Value K) (p q : Step K A) (p' q' : Step K A') → OldSafe g (on_truth v p q) → NewSafe g (on_truth (value_image keys v) p' q')
      → (OldSafe g p → NewSafe g p' → Matched g Q p p') → (OldSafe g q → NewSafe g q' → Matched g Q q q') → Matched g Q (on_truth v p q) (on_truth (value_image keys v) p' q')
  truth_safe Q (truth true) p q p' q' u u' f h = f u u'
  truth_safe Q (truth false) p q p' q' u u' f h = h u u'
  truth_safe Q (int m) p q p' q' u u' f h = h u u'
  truth_safe Q null p q p' q' u u' f h = h u u'
  truth_safe Q (text t) p q p' q' u u' f h = h u u'
  truth_safe Q (class_object c) p q p' q' u u' f h = h u u'
  truth_safe Q (object n c) p q p' q' u u' f h = h u u'

  pub match_truth_safe : {A A' : Type 0} (Q : A → A' → Type 0) (v v' : Value K) → ImageOf keys v v' → (p q : Step K A) (p' q' : Step K A') → OldSafe g (on_truth v p q) → NewSafe g (on_truth v' p' q')
      → (OldSafe g p → NewSafe g p' → Matched g Q p p') → (OldSafe g q → NewSafe g q' → Matched g Q q q') → Matched g Q (on_truth v p q) (on_truth v' p' q')
  match_truth_safe Q v v' e p q p' q' u u' f h = rw e (truth_safe Q v p q p' q' u (subst (λ x. NewSafe g (on_truth x p' q')) e u') f h)

  object_safe : {A A' : Type 0} (Q : A → A' → Type 0) (v : Value K) (p : Step K A) (p' : Step K A') → OldSafe g (non_null v p) → NewSafe g (non_null (value_image keys v) p')
      → (OldSafe g p → NewSafe g p' → Matched g Q p p') → Matched g Q (non_null v p) (non_null (value_image keys v) p')
  object_safe Q (truth b) p p' u u' f = f u u'
  object_safe Q (int m) p p' u u' f = f u u'
  object_safe Q null p p' u u' f = match_thrown Q null_reference
  object_safe Q (text t) p p' u u' f = f u u'
  object_safe Q (class_object c) p p' u u' f = f u u'
  object_safe Q (object n c) p p' u u' f = f u u'

  pub match_non_null_safe : {A A' : Type 0} (Q : A → A' → Type 0) (v v' : Value K) → ImageOf keys v v' → (p : Step K A) (p' : Step K A') → OldSafe g (non_null v p) → NewSafe g (non_null v' p')
      → (OldSafe g p → NewSafe g p' → Matched g Q p p') → Matched g Q (non_null v p) (non_null v' p')
  match_non_null_safe Q v v' e p p' u u' f = rw e (object_safe Q v p p' u (subst (λ x. NewSafe g (non_null x p')) e u') f)

  pub match_answers_safe : {A A' : Type 0} (Q : A → A' → Type 0) (f f' : Value K → Bool) (s s' : Value K → Event K) (p : Value K → Step K A) (p' : Value K → Step K A')
      → ((v : Value K) → f' (value_image keys v) ≡ f v) → ((v : Value K) → (s' (value_image keys v)).action ≡ action_image keys (s v).action) → OldSafe g (ask f s p) → NewSafe g (ask f' s' p')
      → ((v : Value K) → OldSafe g (p v) → NewSafe g (p' (value_image keys v)) → Matched g Q (p v) (p' (value_image keys v))) → Matched g Q (ask f s p) (ask f' s' p')
  match_answers_safe Q f f' s s' p p' e d u u' h = both_ask_fit g.more g.relation g.joins g.sides (OutRel Q) f f' s s' p p' (value_image keys) (value_image g.back) (value_back g.back keys g.there) e (λ v. g.images (s v) (s' (value_image keys v)) (d v))
      (λ v i. h v (u v i) (u' (value_image keys v) (e v ∙ i)))

  -- a method or constructor is called on related arguments
  pub match_call : {B B' : Type 0} (Q : B → B' → Type 0) (m : K.method) (v v' : Value K) (vs vs' : List (Value K)) (k : Out (Flow K) → Step K B) (k' : Out (Flow K) → Step K B') → IsTrue (R.has_method m) → v' ≡ value_image keys v → vs' ≡ map (value_image keys) vs
      → g.old_pre (invoke m v vs) → g.new_pre (invoke (keys.method m) v' vs') → ((o o' : Out (Flow K)) → AnswerRel keys o o' → Matched g Q (k o) (k' o')) → Matched g Q (call (invoke m v vs) k) (call (invoke (keys.method m) v' vs') k')
  match_call Q m v v' vs vs' k k' has e d made made' h =
      let well : g.new_pre (invoke (keys.method m) (value_image keys v) (map (value_image keys) vs)) = subst g.new_pre (λ i. invoke (keys.method m) (e i) (d i)) made' in
      rw (e, d) (both_call g.more g.relation g.joins g.sides (OutRel Q) (AnswerRel keys) (invoke m v vs) (invoke (keys.method m) (value_image keys v) (map (value_image keys) vs)) k k' (g.methods m v vs has made well) h)

  pub match_construct : {B B' : Type 0} (Q : B → B' → Type 0) (m : K.constructor) (v v' : Value K) (vs vs' : List (Value K)) (k : Out (Flow K) → Step K B) (k' : Out (Flow K) → Step K B') → IsTrue (R.has_constructor m) → v' ≡ value_image keys v → vs' ≡ map (value_image keys) vs
      → g.old_pre (construct m v vs) → g.new_pre (construct (keys.constructor m) v' vs') → ((o o' : Out (Flow K)) → AnswerRel keys o o' → Matched g Q (k o) (k' o')) → Matched g Q (call (construct m v vs) k) (call (construct (keys.constructor m) v' vs') k')
  match_construct Q m v v' vs vs' k k' has e d made made' h =
      let well : g.new_pre (construct (keys.constructor m) (value_image keys v) (map (value_image keys) vs)) = subst g.new_pre (λ i. construct (keys.constructor m) (e i) (d i)) made' in
      rw (e, d) (both_call g.more g.relation g.joins g.sides (OutRel Q) (AnswerRel keys) (construct m v vs) (construct (keys.constructor m) (value_image keys v) (map (value_image keys) vs)) k k' (g.constructors m v vs has made well) h)

-- ---- nothing is known of any call

module _ {K : Keys} (g : Setting K) where
  declared_found : (m : K.method) (o : Option K.method) → IsTrue (g.old.has_method m) → ((k : K.method) → o ≡ Some k → IsTrue (g.old.has_method k)) → IsTrue (g.old.has_method (unwrap_or o m))
  declared_found m None has h = has
  declared_found m (Some k) has h = h k refl

  found_image : (m : K.method) (o : Option K.method) → unwrap_or (option_map g.keys.method o) (g.keys.method m) ≡ g.keys.method (unwrap_or o m)
  found_image m None = refl
  found_image m (Some k) = refl

  pub found_alike : (c : K.class) (m : K.method) → IsTrue (g.old.has_method m)
      → IsTrue (g.old.has_method (unwrap_or (g.old.dispatch c m) m)) × (unwrap_or (g.new.dispatch (g.keys.class c) (g.keys.method m)) (g.keys.method m) ≡ g.keys.method (unwrap_or (g.old.dispatch c m) m))
  found_alike c m has = (
    declared_found m (g.old.dispatch c m) has (λ k i. g.dispatch.found c m k has i),
    ap (λ o. unwrap_or o (g.keys.method m)) (g.dispatch.dispatch c m has) ∙ found_image m (g.old.dispatch c m),
  )

abbrev pub unguarded : {K : Keys} (g : Setting K) → Guarded g.keys g.old g.new
unguarded g = record {
  back = g.back;
  there = g.there;
  more = g.more;
  relation = g.relation;
  joins = g.joins;
  images = g.images;
  sides = g.sides;
  rows = g.rows;
  old_pre = λ c. Unit {0};
  old_good = λ c o. Unit {0};
  new_pre = λ c. Unit {0};
  new_good = λ c o. Unit {0};
  trusted = record { in_old_given = λ c t o h e. tt; in_new_found = λ c t o h e. tt; in_new_given = λ c t o h e. tt; in_old_found = λ c t o h e. tt };
  finds = λ c m v vs has e made. found_alike g c m has;
  methods = λ m v vs has made made'. g.methods m v vs has;
  constructors = λ k v vs has made made'. g.constructors k v vs has;
}
