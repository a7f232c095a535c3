-- When the plans of old and new code match, construct by construct.
use Rattle.std.proofs.Common.{◌≡◌, ℕ, Bool, true, false, List, [], ◌∷◌, Option, Some, None, option_map, IsTrue, map, refl}
use Rattle.jr_plans.specs.Plan.{done, act, ask, call}
use Rattle.jr_plans.specs.Follow.{Joins, Sides, Both, CallBoth}
use Rattle.jr_plans.proofs.BothWays.{both_done, both_act, both_ask, both_call, both_and, both_more}
use Rattle.jr_runs.specs.Keys.{Keys}
use Rattle.jr_runs.specs.Values.{Value, int, truth, null, text, class_object, object}
use Rattle.jr_runs.specs.Actions.{Event}
use Rattle.jr_runs.specs.Rows.{Rows}
use Rattle.jr_runs.specs.Arithmetic.{Fault, null_reference, Out, value, thrown}
use Rattle.jr_runs.specs.Evaluation.{Flow, goes_on, returns, Call, invoke, construct, Step, on_value, next, non_null, on_truth, on_class, answer, constructed, with_locals}
use Rattle.jr_runs.specs.KeyMaps.{KeyMap, Undoes, value_image, action_image}
use Rattle.jr_runs.specs.Sets.{NumberSet}
use Rattle.jr_runs.specs.Standing.{Standing, Frame, Shifted}
use Rattle.jr_runs.specs.KeptDeclarations.{SameDeclarations, SameDispatch}
use Rattle.jr_runs.specs.Pairs.{OutRel, ImageOf, ResultRel, AnswerRel}
use Rattle.jr_runs.proofs.Undoing.{value_back}

-- Two programs side by side, in worlds where methods and constructors that belong together are answered alike.
pub record Setting (K : Keys) : Type 1 where
  pub keys : KeyMap K
  pub back : KeyMap K
  pub there : Undoes back keys
  pub more : ℕ
  -- how traces are related: at least, an action and its image are
  pub relation : List (Event K) → List (Event K) → Type 0
  pub joins : Joins relation
  pub images : (x y : Event K) → y.action ≡ action_image keys x.action → relation (x ∷ []) (y ∷ [])
  pub sides : Sides (Event K) (Call K) (Out (Flow K)) (Call K) (Out (Flow K))
  pub old : Rows K
  pub new : Rows K
  pub rows : SameDeclarations keys old new
  pub dispatch : SameDispatch keys old new
  -- methods and constructors are answered alike
  pub methods : (m : K.method) (v : Value K) (vs : List (Value K)) → IsTrue (old.has_method m) → CallBoth more relation sides (AnswerRel keys) (invoke m v vs) (invoke (keys.method m) (value_image keys v) (map (value_image keys) vs))
  pub constructors : (k : K.constructor) (v : Value K) (vs : List (Value K)) → IsTrue (old.has_constructor k) → CallBoth more relation sides (AnswerRel keys) (construct k v vs) (construct (keys.constructor k) (value_image keys v) (map (value_image keys) vs))

-- the outcomes are related by Q
abbrev pub Matches : {K : Keys} {A B : Type 0} → Setting K → (A → B → Type 0) → Step K A → Step K B → Type 0
Matches g Q p q = Both g.more g.relation g.sides (OutRel Q) p q

module _ {K : Keys} (g : Setting K) where
  pub match_next : {A A' B B' : Type 0} (Q : A → A' → Type 0) (Q' : B → B' → Type 0) (p : Step K A) (p' : Step K A') (k : A → Step K B) (k' : A' → Step K B')
      → Matches g Q p p' → ((a : A) (a' : A') → Q a a' → Matches g Q' (k a) (k' a')) → Matches g Q' (next p k) (next p' k')
  match_next {A = A} {A' = A'} Q Q' p p' k k' f h = both_and g.more g.relation g.joins g.sides (OutRel Q) (OutRel Q') p (on_value k) p' (on_value k') f go
    where
      go : (a : Out A) (a' : Out A') → OutRel Q a a' → Matches g Q' (on_value k a) (on_value k' a')
      go (value a) (value a') e = h a a' e
      go (thrown f) (thrown f') e = both_done g.more g.relation g.joins g.sides (OutRel Q') (thrown f) (thrown f') e
      go (value a) (thrown f') e = absurd e
      go (thrown f) (value a') e = absurd e

  pub match_outcome : {A A' : Type 0} (Q : A → A' → Type 0) (o : Out A) (o' : Out A') → OutRel Q o o' → Matches g Q (done o) (done o')
  match_outcome Q o o' h = both_done g.more g.relation g.joins g.sides (OutRel Q) o o' h

  pub match_value : {A A' : Type 0} (Q : A → A' → Type 0) (a : A) (a' : A') → Q a a' → Matches g Q (done (value a)) (done (value a'))
  match_value Q a a' h = match_outcome Q (value a) (value a') h

  pub match_thrown : {A A' : Type 0} (Q : A → A' → Type 0) (f : Fault) → Matches g Q (done (thrown f)) (done (thrown f))
  match_thrown Q f = match_outcome Q (thrown f) (thrown f) refl

  pub match_truth : {A A' : Type 0} (Q : A → A' → Type 0) (v : Value K) (p q : Step K A) (p' q' : Step K A') → Matches g Q p p' → Matches g Q q q' → Matches g Q (on_truth v p q) (on_truth (value_image g.keys v) p' q')
  match_truth Q (truth true) p q p' q' f h = f
  match_truth Q (truth false) p q p' q' f h = h
  match_truth Q (int m) p q p' q' f h = h
  match_truth Q null p q p' q' f h = h
  match_truth Q (text t) p q p' q' f h = h
  match_truth Q (class_object c) p q p' q' f h = h
  match_truth Q (object n c) p q p' q' f h = h

  pub match_non_null : {A A' : Type 0} (Q : A → A' → Type 0) (v : Value K) (p : Step K A) (p' : Step K A') → Matches g Q p p' → Matches g Q (non_null v p) (non_null (value_image g.keys v) p')
  match_non_null Q (truth b) p p' f = f
  match_non_null Q (int m) p p' f = f
  match_non_null Q null p p' f = match_thrown Q null_reference
  match_non_null Q (text t) p p' f = f
  match_non_null Q (class_object c) p p' f = f
  match_non_null Q (object n c) p p' f = f

  pub match_class : {A A' : Type 0} (Q : A → A' → Type 0) (o : Option K.class) (p : K.class → Step K A) (p' : K.class → Step K A') → ((c : K.class) → Matches g Q (p c) (p' (g.keys.class c))) → Matches g Q (on_class o p) (on_class (option_map g.keys.class o) p')
  match_class Q None p p' f = match_thrown Q null_reference
  match_class Q (Some c) p p' f = f c

  pub match_action : {A A' : Type 0} (Q : A → A' → Type 0) (x y : Event K) (p : Step K A) (p' : Step K A') → y.action ≡ action_image g.keys x.action → Matches g Q p p' → Matches g Q (act x p) (act y p')
  match_action Q x y p p' e f = both_act g.more g.relation g.joins g.sides (OutRel Q) x y p p' (g.images x y e) f

  -- each answer has its image
  pub match_answers : {A A' : Type 0} (Q : A → A' → Type 0) (f f' : Value K → Bool) (s s' : Value K → Event K) (p : Value K → Step K A) (p' : Value K → Step K A')
      → ((v : Value K) → f' (value_image g.keys v) ≡ f v) → ((v : Value K) → (s' (value_image g.keys v)).action ≡ action_image g.keys (s v).action) → ((v : Value K) → Matches g Q (p v) (p' (value_image g.keys v)))
      → Matches g Q (ask f s p) (ask f' s' p')
  match_answers Q f f' s s' p p' e d h = both_ask g.more g.relation g.joins g.sides (OutRel Q) f f' s s' p p' (value_image g.keys) (value_image g.back) (value_back g.back g.keys g.there) e (λ v. g.images (s v) (s' (value_image g.keys v)) (d v)) h

  -- a method or constructor is called on related arguments
  pub match_call : {B B' : Type 0} (Q : B → B' → Type 0) (m : K.method) (v v' : Value K) (vs vs' : List (Value K)) (k : Out (Flow K) → Step K B) (k' : Out (Flow K) → Step K B')
      → IsTrue (g.old.has_method m) → v' ≡ value_image g.keys v → vs' ≡ map (value_image g.keys) vs → ((o o' : Out (Flow K)) → AnswerRel g.keys o o' → Matches g Q (k o) (k' o')) → Matches g Q (call (invoke m v vs) k) (call (invoke (g.keys.method m) v' vs') k')
  match_call Q m v v' vs vs' k k' has e d h =
      rw (e, d) (both_call g.more g.relation g.joins g.sides (OutRel Q) (AnswerRel g.keys) (invoke m v vs) (invoke (g.keys.method m) (value_image g.keys v) (map (value_image g.keys) vs)) k k' (g.methods m v vs has) h)

  pub match_construct : {B B' : Type 0} (Q : B → B' → Type 0) (m : K.constructor) (v v' : Value K) (vs vs' : List (Value K)) (k : Out (Flow K) → Step K B) (k' : Out (Flow K) → Step K B')
      → IsTrue (g.old.has_constructor m) → v' ≡ value_image g.keys v → vs' ≡ map (value_image g.keys) vs → ((o o' : Out (Flow K)) → AnswerRel g.keys o o' → Matches g Q (k o) (k' o')) → Matches g Q (call (construct m v vs) k) (call (construct (g.keys.constructor m) v' vs') k')
  match_construct Q m v v' vs vs' k k' has e d h =
      rw (e, d) (both_call g.more g.relation g.joins g.sides (OutRel Q) (AnswerRel g.keys) (construct m v vs) (construct (g.keys.constructor m) (value_image g.keys v) (map (value_image g.keys) vs)) k k' (g.constructors m v vs has) h)

  pub match_weaker : {A A' : Type 0} (Q Q' : A → A' → Type 0) (p : Step K A) (p' : Step K A') → ((o : Out A) (o' : Out A') → OutRel Q o o' → OutRel Q' o o') → Matches g Q p p' → Matches g Q' p p'
  match_weaker Q Q' p p' i f = both_more g.more g.relation g.joins g.sides (OutRel Q) (OutRel Q') p p' i f

module _ {K : Keys} (r : KeyMap K) (s : Standing K) (frame : Frame K) (A : NumberSet) where
  pub with_rel : (l l' : List (Value K)) (o o' : Out (Value K)) → OutRel (ImageOf r) o o' → Shifted r s frame A l l' → OutRel (ResultRel r s frame A) (with_locals l o) (with_locals l' o')
  with_rel l l' (value v) (value v') h g = (h, g)
  with_rel l l' (thrown f) (thrown f') h g = h
  with_rel l l' (value v) (thrown f') h g = absurd h
  with_rel l l' (thrown f) (value v') h g = absurd h

  pub answer_rel : (l l' : List (Value K)) (o o' : Out (Flow K)) → AnswerRel r o o' → Shifted r s frame A l l' → OutRel (ResultRel r s frame A) (answer l o) (answer l' o')
  answer_rel l l' (value (returns (Some v))) (value (returns (Some v'))) h g = (h, g)
  answer_rel l l' (value (returns None)) (value (returns None)) h g = (refl, g)
  answer_rel l l' (value (returns (Some v))) (value (returns None)) h g = absurd h
  answer_rel l l' (value (returns None)) (value (returns (Some v))) h g = absurd h
  answer_rel l l' (value (goes_on m)) (value (goes_on m')) h g = (refl, g)
  answer_rel l l' (value (returns (Some v))) (value (goes_on m)) h g = absurd h
  answer_rel l l' (value (goes_on m)) (value (returns (Some v))) h g = absurd h
  answer_rel l l' (value (returns None)) (value (goes_on m)) h g = (refl, g)
  answer_rel l l' (value (goes_on m)) (value (returns None)) h g = (refl, g)
  answer_rel l l' (thrown f) (thrown f') h g = h
  answer_rel l l' (value f) (thrown f') h g = absurd h
  answer_rel l l' (thrown f) (value f') h g = absurd h

  pub constructed_rel : (v v' : Value K) → ImageOf r v v' → (l l' : List (Value K)) (o o' : Out (Flow K)) → AnswerRel r o o' → Shifted r s frame A l l' → OutRel (ResultRel r s frame A) (constructed v l o) (constructed v' l' o')
  constructed_rel v v' e l l' (value f) (value f') h g = (e, g)
  constructed_rel v v' e l l' (thrown f) (thrown f') h g = h
  constructed_rel v v' e l l' (value f) (thrown f') h g = absurd h
  constructed_rel v v' e l l' (thrown f) (value f') h g = absurd h
