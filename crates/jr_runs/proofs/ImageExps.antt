-- The runs of an expression match those of its image: `GuardedExps`, where nothing is known of any call.
use Rattle.std.proofs.Common.{◌≡◌, List, map, unwrap_or, IsTrue}
use Rattle.jr_plans.specs.Plan.{done, call}
use Rattle.jr_runs.specs.Keys.{Keys, At}
use Rattle.jr_runs.specs.Values.{Value}
use Rattle.jr_runs.specs.Actions.{Location}
use Rattle.jr_runs.specs.Fitting.{class_of}
use Rattle.jr_runs.specs.Arithmetic.{Out, value}
use Rattle.jr_runs.specs.Core.{Exp, Target, Exps}
use Rattle.jr_runs.specs.Evaluation.{Flow, Step, invoke, next, on_class, Slot, load_field, store_field, load_from, store_to, answer, constructed, exp, target, exps}
use Rattle.jr_runs.specs.KeyMaps.{value_image, location_image}
use Rattle.jr_runs.specs.Standing.{Standing, Stands, Frame, Holding, Shifted}
use Rattle.jr_runs.specs.Sets.{NumberSet, Within}
use Rattle.jr_runs.specs.Images.{Readable, Writable, behind_write, ExpTo, TargetTo, ExpsTo}
use Rattle.jr_runs.specs.Pairs.{ImageOf, ResultRel, ListRel, SlotTo, SlotRel, AnswerRel}
use Rattle.jr_runs.proofs.Matching.{Setting, Matches}
use Rattle.jr_runs.proofs.Guarded.{any_safe, unguarded}
use Rattle.jr_runs.proofs.GuardedExps as guarded

module _ {K : Keys} (g : Setting K) where
  pub load_field_match : (p q : At K) (from : Location K) (f : K.field) → Matches g (ImageOf g.keys) (load_field g.old p from f) (load_field g.new q (location_image g.keys from) (g.keys.field f))
  load_field_match p q from f = guarded.load_field_match (unguarded g) p q from f

  pub store_field_match : (s : Standing K) (frame : Frame K) (A : NumberSet) (p q : At K) (to : Location K) (f : K.field) (v v' : Value K) → ImageOf g.keys v v' → (l l' : List (Value K)) → Shifted g.keys s frame A l l'
      → Matches g (Shifted g.keys s frame A) (store_field g.old p to f v l) (store_field g.new q (location_image g.keys to) (g.keys.field f) v' l')
  store_field_match s frame A p q to f v v' e l l' h = guarded.store_field_match (unguarded g) s frame A p q to f v v' e l l' h

  module _ (s : Standing K) (stands : Stands s) (frame : Frame K) where
    abbrev Shift : NumberSet → List (Value K) → List (Value K) → Type 0
    Shift A l l' = Shifted g.keys s frame A l l'

    abbrev Result : NumberSet → Value K × List (Value K) → Value K × List (Value K) → Type 0
    Result A a b = ResultRel g.keys s frame A a b

    abbrev Lists : NumberSet → List (Value K) × List (Value K) → List (Value K) × List (Value K) → Type 0
    Lists A a b = ListRel g.keys s frame A a b

    abbrev Slots : NumberSet → Target K → Slot K × List (Value K) → Slot K × List (Value K) → Type 0
    Slots A t a b = SlotRel g.keys s frame A t a b

    pub less : (A B : NumberSet) → Within B A → (p p' : Step K (Value K × List (Value K))) → Matches g (Result A) p p' → Matches g (Result B) p p'
    less A B w p p' m = guarded.less (unguarded g) s stands frame A B w p p' m

    pub load_match : (A : NumberSet) (t : Target K) (x x' : Slot K) → SlotTo g.keys s t x x' → Readable A t → (l l' : List (Value K)) → Shift A l l' → Matches g (ImageOf g.keys) (load_from g.old x l) (load_from g.new x' l')
    load_match A t x x' e a l l' h = guarded.load_match (unguarded g) s stands frame A t x x' e a l l' h

    pub store_match : (A : NumberSet) (t : Target K) (x x' : Slot K) → SlotTo g.keys s t x x' → Writable s.code t → (v v' : Value K) → ImageOf g.keys v v' → (l l' : List (Value K)) → Shift A l l' → Matches g (Shift (behind_write A t)) (store_to g.old x v l) (store_to g.new x' v' l')
    store_match A t x x' e u v v' i l l' h = guarded.store_match (unguarded g) s stands frame A t x x' e u v v' i l l' h

    -- a value is stored, and is what the expression comes to
    pub stored_match : (A D : NumberSet) (t : Target K) (x x' : Slot K) → SlotTo g.keys s t x x' → Writable s.code t → Within D (behind_write A t) → (v v' w w' : Value K) → ImageOf g.keys v v' → ImageOf g.keys w w' → (l l' : List (Value K)) → Shift A l l'
        → Matches g (Result D) (next (store_to g.old x v l) (λ m. done (value (w, m)))) (next (store_to g.new x' v' l') (λ m. done (value (w', m))))
    stored_match A D t x x' e u k v v' w w' i j l l' h = guarded.stored_match (unguarded g) s stands frame A D t x x' e u k v v' w w' i j l l' h

    pub answer_match : (A : NumberSet) (l l' : List (Value K)) → Shift A l l' → (o o' : Out (Flow K)) → AnswerRel g.keys o o' → Matches g (Result A) (done (answer l o)) (done (answer l' o'))
    answer_match A l l' h o o' a = guarded.answer_match (unguarded g) s stands frame A l l' h o o' a

    pub constructed_match : (A : NumberSet) (v v' : Value K) → ImageOf g.keys v v' → (l l' : List (Value K)) → Shift A l l' → (o o' : Out (Flow K)) → AnswerRel g.keys o o' → Matches g (Result A) (done (constructed v l o)) (done (constructed v' l' o'))
    constructed_match A v v' e l l' h o o' a = guarded.constructed_match (unguarded g) s stands frame A v v' e l l' h o o' a

    pub dispatched : (A : NumberSet) (v v' : Value K) → ImageOf g.keys v v' → (m : K.method) → IsTrue (g.old.has_method m) → (vs vs' : List (Value K)) → vs' ≡ map (value_image g.keys) vs → (l l' : List (Value K)) → Shift A l l'
        → Matches g (Result A) (on_class (class_of g.old v) (λ c. call (invoke (unwrap_or (g.old.dispatch c m) m) v vs) (λ o. done (answer l o))))
        (on_class (class_of g.new v') (λ c. call (invoke (unwrap_or (g.new.dispatch c (g.keys.method m)) (g.keys.method m)) v' vs') (λ o. done (answer l' o))))
    dispatched A v v' e m has vs vs' d l l' h = guarded.dispatched (unguarded g) s stands frame A m has v vs l l' h v' e vs' d
        (any_safe (on_class (class_of g.old v) (λ c. call (invoke (unwrap_or (g.old.dispatch c m) m) v vs) (λ o. done (answer l o)))))
        (any_safe (on_class (class_of g.new v') (λ c. call (invoke (unwrap_or (g.new.dispatch c (g.keys.method m)) (g.keys.method m)) v' vs') (λ o. done (answer l' o)))))

    module _ (me me' : Value K) (im : Holding g.old g.keys s.code frame me me') where
      pub exp_match : (A B : NumberSet) (e e' : Exp K) → ExpTo g.keys g.old s.code A e e' B → (l l' : List (Value K)) → Shift A l l' → Matches g (Result B) (exp g.old me e l) (exp g.new me' e' l')
      exp_match A B e e' d l l' h = guarded.exp_known (unguarded g) s stands frame me me' im A B e e' d l l' h (any_safe (exp g.old me e l)) (any_safe (exp g.new me' e' l'))

      pub target_match : (A B : NumberSet) (t t' : Target K) → TargetTo g.keys g.old s.code A t t' B → (l l' : List (Value K)) → Shift A l l' → Matches g (Slots B t) (target g.old me t l) (target g.new me' t' l')
      target_match A B t t' d l l' h = guarded.target_known (unguarded g) s stands frame me me' im A B t t' d l l' h (any_safe (target g.old me t l)) (any_safe (target g.new me' t' l'))

      pub exps_match : (A B : NumberSet) (es es' : Exps K) → ExpsTo g.keys g.old s.code A es es' B → (l l' : List (Value K)) → Shift A l l' → Matches g (Lists B) (exps g.old me es l) (exps g.new me' es' l')
      exps_match A B es es' d l l' h = guarded.exps_known (unguarded g) s stands frame me me' im A B es es' d l l' h (any_safe (exps g.old me es l)) (any_safe (exps g.new me' es' l'))
