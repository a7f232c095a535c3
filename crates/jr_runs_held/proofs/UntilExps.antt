-- Expressions in which a local is read for the last time: what is evaluated before it is related while
-- some locals are known, and what is evaluated behind it is related as before.
use Rattle.std.proofs.Common.{◌≡◌, false, true, List, ◌∷◌, unwrap_or, refl, ap, ◌∙◌}
use Rattle.jr_plans.specs.Plan.{done, call}
use Rattle.jr_runs.specs.Keys.{Keys}
use Rattle.jr_runs.specs.Values.{Value, truth, null}
use Rattle.jr_runs.specs.Actions.{create}
use Rattle.jr_runs.specs.Fitting.{class_of, is_instance, is_new}
use Rattle.jr_runs.specs.Arithmetic.{Out, value, thrown, calculate, number_of, operate, sign, bumped, bump_value}
use Rattle.jr_runs.specs.Core.{Operator, Exp, Target, Exps}
use Rattle.jr_runs.specs.Evaluation.{invoke, construct, next, on_truth, on_class, Slot, in_local, in_static, in_object, load_from, store_to, with_locals, cast_value, answer, constructed, exp, target, exps}
use Rattle.jr_runs.specs.KeyMaps.{value_image}
use Rattle.jr_runs.specs.Sets.{NumberSet}
use Rattle.jr_runs.specs.Standing.{Standing, Stands, Frame, Holding, Shifted}
use Rattle.jr_runs.proofs.Locals.{shifted_less}
use Rattle.jr_runs.specs.Images.{ExpTo}
use Rattle.jr_runs_held.specs.Held.{ExpUntil, until_all, until_read, until_signed, until_cast, until_left, until_right, until_both, until_either, until_target, until_value, until_operand, until_added, until_bumped, until_static_call, until_called, until_given, until_created, TargetUntil, until_object, TargetBefore, before_local, before_static, before_object, ExpsUntil, until_first, until_later}
use Rattle.jr_runs.specs.Pairs.{OutRel, ImageOf, ResultRel, ListRel, SlotTo, local_slots, static_slots, object_slots, SlotRel}
use Rattle.jr_runs.proofs.ImageValues.{sign_image, bumped_image, bump_value_image, calculate_rel, cast_rel, operate_rel, is_instance_image, is_new_image}
use Rattle.jr_runs.proofs.Matching.{Setting, Matches, match_next, match_outcome, match_value, match_truth, match_answers, match_call, match_construct, match_weaker, with_rel}
use Rattle.jr_runs.proofs.ImageExps.{less, load_match, stored_match, answer_match, constructed_match, dispatched, exp_match, exps_match}

module _ {K : Keys} (g : Setting K) (me me' : Value K) (s : Standing K) (s_stands : Stands s) (s_frame : Frame K) (s_holding : Holding g.old g.keys s.code s_frame me me')
    (z : Standing K) (z_stands : Stands z) (z_frame : Frame K) (z_holding : Holding g.old g.keys z.code z_frame me me')
    (back : (A : NumberSet) (l l' : List (Value K)) → Shifted g.keys s s_frame A l l' → Shifted g.keys z z_frame A l l') where
  abbrev Before : NumberSet → Value K × List (Value K) → Value K × List (Value K) → Type 0
  Before A a b = ResultRel g.keys s s_frame A a b

  abbrev Behind : NumberSet → Value K × List (Value K) → Value K × List (Value K) → Type 0
  Behind A a b = ResultRel g.keys z z_frame A a b

  abbrev ListBefore : NumberSet → List (Value K) × List (Value K) → List (Value K) × List (Value K) → Type 0
  ListBefore A a b = ListRel g.keys s s_frame A a b

  abbrev ListBehind : NumberSet → List (Value K) × List (Value K) → List (Value K) × List (Value K) → Type 0
  ListBehind A a b = ListRel g.keys z z_frame A a b

  abbrev SlotBehind : NumberSet → Target K → Slot K × List (Value K) → Slot K × List (Value K) → Type 0
  SlotBehind A t a b = SlotRel g.keys z z_frame A t a b

  -- the slot is known, and the locals still are
  abbrev SlotBetween : NumberSet → Target K → Slot K × List (Value K) → Slot K × List (Value K) → Type 0
  SlotBetween A t a b = SlotTo g.keys z t a.0 b.0 × Shifted g.keys s s_frame A a.1 b.1

  before : (A B : NumberSet) (e e' : Exp K) → ExpTo g.keys g.old s.code A e e' B → (l l' : List (Value K)) → Shifted g.keys s s_frame A l l' → Matches g (Before B) (exp g.old me e l) (exp g.new me' e' l')
  before A B e e' d l l' h = exp_match g s s_stands s_frame me me' s_holding A B e e' d l l' h

  behind : (A B : NumberSet) (e e' : Exp K) → ExpTo g.keys g.old z.code A e e' B → (l l' : List (Value K)) → Shifted g.keys z z_frame A l l' → Matches g (Behind B) (exp g.old me e l) (exp g.new me' e' l')
  behind A B e e' d l l' h = exp_match g z z_stands z_frame me me' z_holding A B e e' d l l' h

  combined : (A : NumberSet) (op : Operator) (r r' : Value K) → ImageOf g.keys r r' → (x x' : Value K × List (Value K)) → Behind A x x' → Matches g (Behind A) (done (with_locals x.1 (operate g.old.same_class op r x.0))) (done (with_locals x'.1 (operate g.new.same_class op r' x'.0)))
  combined A op r r' k x x' j = match_outcome g (Behind A) (with_locals x.1 (operate g.old.same_class op r x.0)) (with_locals x'.1 (operate g.new.same_class op r' x'.0))
      (with_rel g.keys z z_frame A x.1 x'.1 (operate g.old.same_class op r x.0) (operate g.new.same_class op r' x'.0) (rw (k, j.0) (operate_rel g.keys g.old g.new g.rows op r x.0)) j.1)

  weaker : (A : NumberSet) (o o' : Out (Value K × List (Value K))) → OutRel (Before A) o o' → OutRel (Behind A) o o'
  weaker A (value a) (value a') k = (k.0, back A a.1 a'.1 k.1)
  weaker A (thrown f) (thrown f') k = k
  weaker A (value a) (thrown f') k = k
  weaker A (thrown f) (value a') k = k

  mutual
    pub exp_until : (A B : NumberSet) (e e' : Exp K) → ExpUntil g.keys g.old s.code z.code A e e' B → (l l' : List (Value K)) → Shifted g.keys s s_frame A l l' → Matches g (Behind B) (exp g.old me e l) (exp g.new me' e' l')
    exp_until A B e e' (until_all A1 B1 x x' d) l l' h =
        match_weaker g (Before B) (Behind B) (exp g.old me x l) (exp g.new me' x' l') (weaker B) (before A B x x' d l l' h)
    exp_until A B e e' (until_read A1 B1 p q t t' d a) l l' h = match_next g (SlotBehind B t) (Behind B) (target g.old me t l) (target g.new me' t' l')
        (λ r. next (load_from g.old r.0 r.1) (λ v. done (value (v, r.1)))) (λ r. next (load_from g.new r.0 r.1) (λ v. done (value (v, r.1)))) (target_until A B t t' d l l' h)
        (λ b b' k. match_next g (ImageOf g.keys) (Behind B) (load_from g.old b.0 b.1) (load_from g.new b'.0 b'.1) (λ v. done (value (v, b.1))) (λ v. done (value (v, b'.1))) (load_match g z z_stands z_frame B t b.0 b'.0 k.0 a b.1 b'.1 k.1)
        (λ v v' i. match_value g (Behind B) (v, b.1) (v', b'.1) (i, k.1)))
    exp_until A B e e' (until_signed A1 B1 p q op x x' d) l l' h = match_next g (Behind B) (Behind B) (exp g.old me x l) (exp g.new me' x' l') (λ r. done (value (sign op r.0, r.1))) (λ r. done (value (sign op r.0, r.1))) (exp_until A B x x' d l l' h)
        (λ a a' k. match_value g (Behind B) (sign op a.0, a.1) (sign op a'.0, a'.1) (ap (sign op) k.0 ∙ sign_image g.keys op a.0, k.1))
    exp_until A B e e' (until_cast A1 B1 p q c x x' d) l l' h = match_next g (Behind B) (Behind B) (exp g.old me x l) (exp g.new me' x' l')
        (λ r. done (with_locals r.1 (cast_value (is_instance g.old c r.0) r.0))) (λ r. done (with_locals r.1 (cast_value (is_instance g.new (g.keys.class c) r.0) r.0))) (exp_until A B x x' d l l' h)
        (λ r r' k. match_outcome g (Behind B) (with_locals r.1 (cast_value (is_instance g.old c r.0) r.0)) (with_locals r'.1 (cast_value (is_instance g.new (g.keys.class c) r'.0) r'.0))
        (with_rel g.keys z z_frame B r.1 r'.1 (cast_value (is_instance g.old c r.0) r.0) (cast_value (is_instance g.new (g.keys.class c) r'.0) r'.0)
        (rw (k.0, is_instance_image g.keys g.old g.new g.rows c r.0) (cast_rel g.keys (is_instance g.old c r.0) r.0)) k.1))
    exp_until A B e e' (until_left A1 B1 C1 p q op a a' b b' d f) l l' h = match_next g (Behind B1) (Behind B) (exp g.old me a l) (exp g.new me' a' l')
        (λ r. next (exp g.old me b r.1) (λ x. done (with_locals x.1 (operate g.old.same_class op r.0 x.0)))) (λ r. next (exp g.new me' b' r.1) (λ x. done (with_locals x.1 (operate g.new.same_class op r.0 x.0)))) (exp_until A B1 a a' d l l' h)
        (λ r r' k. match_next g (Behind B) (Behind B) (exp g.old me b r.1) (exp g.new me' b' r'.1) (λ x. done (with_locals x.1 (operate g.old.same_class op r.0 x.0))) (λ x. done (with_locals x.1 (operate g.new.same_class op r'.0 x.0)))
        (behind B1 B b b' f r.1 r'.1 k.1) (combined B op r.0 r'.0 k.0))
    exp_until A B e e' (until_right A1 B1 C1 p q op a a' b b' d f) l l' h = match_next g (Before B1) (Behind B) (exp g.old me a l) (exp g.new me' a' l')
        (λ r. next (exp g.old me b r.1) (λ x. done (with_locals x.1 (operate g.old.same_class op r.0 x.0)))) (λ r. next (exp g.new me' b' r.1) (λ x. done (with_locals x.1 (operate g.new.same_class op r.0 x.0)))) (before A B1 a a' d l l' h)
        (λ r r' k. match_next g (Behind B) (Behind B) (exp g.old me b r.1) (exp g.new me' b' r'.1) (λ x. done (with_locals x.1 (operate g.old.same_class op r.0 x.0))) (λ x. done (with_locals x.1 (operate g.new.same_class op r'.0 x.0)))
        (exp_until B1 B b b' f r.1 r'.1 k.1) (combined B op r.0 r'.0 k.0))
    exp_until A B e e' (until_both A1 B1 C1 D1 p q a a' b b' d f u v) l l' h = match_next g (Behind B1) (Behind B) (exp g.old me a l) (exp g.new me' a' l')
        (λ r. on_truth r.0 (exp g.old me b r.1) (done (value (truth false, r.1)))) (λ r. on_truth r.0 (exp g.new me' b' r.1) (done (value (truth false, r.1)))) (exp_until A B1 a a' d l l' h)
        (λ r r' k. rw k.0 (match_truth g (Behind B) r.0 (exp g.old me b r.1) (done (value (truth false, r.1))) (exp g.new me' b' r'.1) (done (value (truth false, r'.1))) (less g z z_stands z_frame C1 B v (exp g.old me b r.1) (exp g.new me' b' r'.1) (behind B1 C1 b b' f r.1 r'.1 k.1)) (match_value g (Behind B) (truth false, r.1) (truth false, r'.1) (refl, shifted_less g.keys z z_frame B1 B u r.1 r'.1 k.1))))
    exp_until A B e e' (until_either A1 B1 C1 D1 p q a a' b b' d f u v) l l' h = match_next g (Behind B1) (Behind B) (exp g.old me a l) (exp g.new me' a' l')
        (λ r. on_truth r.0 (done (value (truth true, r.1))) (exp g.old me b r.1)) (λ r. on_truth r.0 (done (value (truth true, r.1))) (exp g.new me' b' r.1)) (exp_until A B1 a a' d l l' h)
        (λ r r' k. rw k.0 (match_truth g (Behind B) r.0 (done (value (truth true, r.1))) (exp g.old me b r.1) (done (value (truth true, r'.1))) (exp g.new me' b' r'.1) (match_value g (Behind B) (truth true, r.1) (truth true, r'.1) (refl, shifted_less g.keys z z_frame B1 B u r.1 r'.1 k.1)) (less g z z_stands z_frame C1 B v (exp g.old me b r.1) (exp g.new me' b' r'.1) (behind B1 C1 b b' f r.1 r'.1 k.1))))
    exp_until A B e e' (until_target A1 B1 C1 D1 p q t t' x x' d w f u) l l' h = match_next g (SlotBehind B1 t) (Behind B) (target g.old me t l) (target g.new me' t' l')
        (λ r. next (exp g.old me x r.1) (λ y. next (store_to g.old r.0 y.0 y.1) (λ m. done (value (y.0, m))))) (λ r. next (exp g.new me' x' r.1) (λ y. next (store_to g.new r.0 y.0 y.1) (λ m. done (value (y.0, m)))))
        (target_until A B1 t t' d l l' h)
        (λ a a' k. match_next g (Behind C1) (Behind B) (exp g.old me x a.1) (exp g.new me' x' a'.1) (λ y. next (store_to g.old a.0 y.0 y.1) (λ m. done (value (y.0, m)))) (λ y. next (store_to g.new a'.0 y.0 y.1) (λ m. done (value (y.0, m))))
        (behind B1 C1 x x' f a.1 a'.1 k.1) (λ y y' j. stored_match g z z_stands z_frame C1 B t a.0 a'.0 k.0 w u y.0 y'.0 y.0 y'.0 j.0 j.0 y.1 y'.1 j.1))
    exp_until A B e e' (until_value A1 B1 C1 D1 p q t t' x x' d w f u) l l' h = match_next g (SlotBetween B1 t) (Behind B) (target g.old me t l) (target g.new me' t' l')
        (λ r. next (exp g.old me x r.1) (λ y. next (store_to g.old r.0 y.0 y.1) (λ m. done (value (y.0, m))))) (λ r. next (exp g.new me' x' r.1) (λ y. next (store_to g.new r.0 y.0 y.1) (λ m. done (value (y.0, m)))))
        (target_before A B1 t t' d l l' h)
        (λ a a' k. match_next g (Behind C1) (Behind B) (exp g.old me x a.1) (exp g.new me' x' a'.1) (λ y. next (store_to g.old a.0 y.0 y.1) (λ m. done (value (y.0, m)))) (λ y. next (store_to g.new a'.0 y.0 y.1) (λ m. done (value (y.0, m))))
        (exp_until B1 C1 x x' f a.1 a'.1 k.1) (λ y y' j. stored_match g z z_stands z_frame C1 B t a.0 a'.0 k.0 w u y.0 y'.0 y.0 y'.0 j.0 j.0 y.1 y'.1 j.1))
    exp_until A B e e' (until_operand A1 B1 C1 D1 p q op t t' x x' d o1 w f u) l l' h = match_next g (SlotBehind B1 t) (Behind B) (target g.old me t l) (target g.new me' t' l')
        (λ r. next (load_from g.old r.0 r.1) (λ old. next (exp g.old me x r.1) (λ y. next (done (calculate op (number_of old) (number_of y.0))) (λ v. next (store_to g.old r.0 v y.1) (λ m. done (value (v, m)))))))
        (λ r. next (load_from g.new r.0 r.1) (λ old. next (exp g.new me' x' r.1) (λ y. next (done (calculate op (number_of old) (number_of y.0))) (λ v. next (store_to g.new r.0 v y.1) (λ m. done (value (v, m)))))))
        (target_until A B1 t t' d l l' h)
        (λ a a' k. match_next g (ImageOf g.keys) (Behind B) (load_from g.old a.0 a.1) (load_from g.new a'.0 a'.1)
        (λ old. next (exp g.old me x a.1) (λ y. next (done (calculate op (number_of old) (number_of y.0))) (λ v. next (store_to g.old a.0 v y.1) (λ m. done (value (v, m))))))
        (λ old. next (exp g.new me' x' a'.1) (λ y. next (done (calculate op (number_of old) (number_of y.0))) (λ v. next (store_to g.new a'.0 v y.1) (λ m. done (value (v, m))))))
        (load_match g z z_stands z_frame B1 t a.0 a'.0 k.0 o1 a.1 a'.1 k.1)
        (λ old old' i. match_next g (Behind C1) (Behind B) (exp g.old me x a.1) (exp g.new me' x' a'.1)
        (λ y. next (done (calculate op (number_of old) (number_of y.0))) (λ v. next (store_to g.old a.0 v y.1) (λ m. done (value (v, m)))))
        (λ y. next (done (calculate op (number_of old') (number_of y.0))) (λ v. next (store_to g.new a'.0 v y.1) (λ m. done (value (v, m)))))
        (behind B1 C1 x x' f a.1 a'.1 k.1)
        (λ y y' j. match_next g (ImageOf g.keys) (Behind B) (done (calculate op (number_of old) (number_of y.0))) (done (calculate op (number_of old') (number_of y'.0)))
        (λ v. next (store_to g.old a.0 v y.1) (λ m. done (value (v, m)))) (λ v. next (store_to g.new a'.0 v y'.1) (λ m. done (value (v, m))))
        (match_outcome g (ImageOf g.keys) (calculate op (number_of old) (number_of y.0)) (calculate op (number_of old') (number_of y'.0)) (rw (i, j.0) (calculate_rel g.keys op old y.0)))
        (λ v v' o. stored_match g z z_stands z_frame C1 B t a.0 a'.0 k.0 w u v v' v v' o o y.1 y'.1 j.1))))
    exp_until A B e e' (until_added A1 B1 C1 D1 p q op t t' x x' d o1 w f u) l l' h = match_next g (SlotBetween B1 t) (Behind B) (target g.old me t l) (target g.new me' t' l')
        (λ r. next (load_from g.old r.0 r.1) (λ old. next (exp g.old me x r.1) (λ y. next (done (calculate op (number_of old) (number_of y.0))) (λ v. next (store_to g.old r.0 v y.1) (λ m. done (value (v, m)))))))
        (λ r. next (load_from g.new r.0 r.1) (λ old. next (exp g.new me' x' r.1) (λ y. next (done (calculate op (number_of old) (number_of y.0))) (λ v. next (store_to g.new r.0 v y.1) (λ m. done (value (v, m)))))))
        (target_before A B1 t t' d l l' h)
        (λ a a' k. match_next g (ImageOf g.keys) (Behind B) (load_from g.old a.0 a.1) (load_from g.new a'.0 a'.1)
        (λ old. next (exp g.old me x a.1) (λ y. next (done (calculate op (number_of old) (number_of y.0))) (λ v. next (store_to g.old a.0 v y.1) (λ m. done (value (v, m))))))
        (λ old. next (exp g.new me' x' a'.1) (λ y. next (done (calculate op (number_of old) (number_of y.0))) (λ v. next (store_to g.new a'.0 v y.1) (λ m. done (value (v, m))))))
        (load_match g z z_stands z_frame B1 t a.0 a'.0 k.0 o1 a.1 a'.1 (back B1 a.1 a'.1 k.1))
        (λ old old' i. match_next g (Behind C1) (Behind B) (exp g.old me x a.1) (exp g.new me' x' a'.1)
        (λ y. next (done (calculate op (number_of old) (number_of y.0))) (λ v. next (store_to g.old a.0 v y.1) (λ m. done (value (v, m)))))
        (λ y. next (done (calculate op (number_of old') (number_of y.0))) (λ v. next (store_to g.new a'.0 v y.1) (λ m. done (value (v, m)))))
        (exp_until B1 C1 x x' f a.1 a'.1 k.1)
        (λ y y' j. match_next g (ImageOf g.keys) (Behind B) (done (calculate op (number_of old) (number_of y.0))) (done (calculate op (number_of old') (number_of y'.0)))
        (λ v. next (store_to g.old a.0 v y.1) (λ m. done (value (v, m)))) (λ v. next (store_to g.new a'.0 v y'.1) (λ m. done (value (v, m))))
        (match_outcome g (ImageOf g.keys) (calculate op (number_of old) (number_of y.0)) (calculate op (number_of old') (number_of y'.0)) (rw (i, j.0) (calculate_rel g.keys op old y.0)))
        (λ v v' o. stored_match g z z_stands z_frame C1 B t a.0 a'.0 k.0 w u v v' v v' o o y.1 y'.1 j.1))))
    exp_until A B e e' (until_bumped A1 B1 C1 p q op t t' d o1 w u) l l' h = match_next g (SlotBehind B1 t) (Behind B) (target g.old me t l) (target g.new me' t' l')
        (λ r. next (load_from g.old r.0 r.1) (λ old. next (store_to g.old r.0 (bumped op old) r.1) (λ m. done (value (bump_value op old (bumped op old), m)))))
        (λ r. next (load_from g.new r.0 r.1) (λ old. next (store_to g.new r.0 (bumped op old) r.1) (λ m. done (value (bump_value op old (bumped op old), m)))))
        (target_until A B1 t t' d l l' h)
        (λ a a' k. match_next g (ImageOf g.keys) (Behind B) (load_from g.old a.0 a.1) (load_from g.new a'.0 a'.1)
        (λ old. next (store_to g.old a.0 (bumped op old) a.1) (λ m. done (value (bump_value op old (bumped op old), m))))
        (λ old. next (store_to g.new a'.0 (bumped op old) a'.1) (λ m. done (value (bump_value op old (bumped op old), m))))
        (load_match g z z_stands z_frame B1 t a.0 a'.0 k.0 o1 a.1 a'.1 k.1)
        (λ old old' i.
        let new : bumped op old' ≡ value_image g.keys (bumped op old) = ap (bumped op) i ∙ bumped_image g.keys op old in
        let two : bump_value op old' (bumped op old') ≡ value_image g.keys (bump_value op old (bumped op old)) = (λ j. bump_value op (i j) (new j)) ∙ bump_value_image g.keys op old (bumped op old) in
        stored_match g z z_stands z_frame B1 B t a.0 a'.0 k.0 w u (bumped op old) (bumped op old') (bump_value op old (bumped op old)) (bump_value op old' (bumped op old')) new two a.1 a'.1 k.1))
    exp_until A B e e' (until_static_call A1 B1 p q m es es' has d) l l' h = match_next g (ListBehind B) (Behind B) (exps g.old me es l) (exps g.new me' es' l')
        (λ x. call (invoke m null x.0) (λ o. done (answer x.1 o))) (λ x. call (invoke (g.keys.method m) null x.0) (λ o. done (answer x.1 o))) (exps_until A B es es' d l l' h)
        (λ x x' k. match_call g (Behind B) m null null x.0 x'.0 (λ o. done (answer x.1 o)) (λ o. done (answer x'.1 o)) has refl k.0 (answer_match g z z_stands z_frame B x.1 x'.1 k.1))
    exp_until A B e e' (until_called A1 B1 C1 p q x x' m es es' has d f) l l' h = match_next g (Behind B1) (Behind B) (exp g.old me x l) (exp g.new me' x' l')
        (λ r. next (exps g.old me es r.1) (λ y. on_class (class_of g.old r.0) (λ c. call (invoke (unwrap_or (g.old.dispatch c m) m) r.0 y.0) (λ o. done (answer y.1 o)))))
        (λ r. next (exps g.new me' es' r.1) (λ y. on_class (class_of g.new r.0) (λ c. call (invoke (unwrap_or (g.new.dispatch c (g.keys.method m)) (g.keys.method m)) r.0 y.0) (λ o. done (answer y.1 o)))))
        (exp_until A B1 x x' d l l' h)
        (λ r r' k. match_next g (ListBehind B) (Behind B) (exps g.old me es r.1) (exps g.new me' es' r'.1)
        (λ y. on_class (class_of g.old r.0) (λ c. call (invoke (unwrap_or (g.old.dispatch c m) m) r.0 y.0) (λ o. done (answer y.1 o))))
        (λ y. on_class (class_of g.new r'.0) (λ c. call (invoke (unwrap_or (g.new.dispatch c (g.keys.method m)) (g.keys.method m)) r'.0 y.0) (λ o. done (answer y.1 o))))
        (exps_match g z z_stands z_frame me me' z_holding B1 B es es' f r.1 r'.1 k.1) (λ y y' j. dispatched g z z_stands z_frame B r.0 r'.0 k.0 m has y.0 y'.0 j.0 y.1 y'.1 j.1))
    exp_until A B e e' (until_given A1 B1 C1 p q x x' m es es' has d f) l l' h = match_next g (Before B1) (Behind B) (exp g.old me x l) (exp g.new me' x' l')
        (λ r. next (exps g.old me es r.1) (λ y. on_class (class_of g.old r.0) (λ c. call (invoke (unwrap_or (g.old.dispatch c m) m) r.0 y.0) (λ o. done (answer y.1 o)))))
        (λ r. next (exps g.new me' es' r.1) (λ y. on_class (class_of g.new r.0) (λ c. call (invoke (unwrap_or (g.new.dispatch c (g.keys.method m)) (g.keys.method m)) r.0 y.0) (λ o. done (answer y.1 o)))))
        (before A B1 x x' d l l' h)
        (λ r r' k. match_next g (ListBehind B) (Behind B) (exps g.old me es r.1) (exps g.new me' es' r'.1)
        (λ y. on_class (class_of g.old r.0) (λ c. call (invoke (unwrap_or (g.old.dispatch c m) m) r.0 y.0) (λ o. done (answer y.1 o))))
        (λ y. on_class (class_of g.new r'.0) (λ c. call (invoke (unwrap_or (g.new.dispatch c (g.keys.method m)) (g.keys.method m)) r'.0 y.0) (λ o. done (answer y.1 o))))
        (exps_until B1 B es es' f r.1 r'.1 k.1) (λ y y' j. dispatched g z z_stands z_frame B r.0 r'.0 k.0 m has y.0 y'.0 j.0 y.1 y'.1 j.1))
    exp_until A B e e' (until_created A1 B1 p q c k es es' has d) l l' h = match_answers g (Behind B) (is_new g.old c) (is_new g.new (g.keys.class c)) (λ o. record { at = p; action = create o }) (λ o. record { at = q; action = create o })
        (λ o. next (exps g.old me es l) (λ y. call (construct k o y.0) (λ a. done (constructed o y.1 a))))
        (λ o. next (exps g.new me' es' l') (λ y. call (construct (g.keys.constructor k) o y.0) (λ a. done (constructed o y.1 a))))
        (is_new_image g.keys g.old g.new g.rows c) (λ v. refl)
        (λ v. match_next g (ListBehind B) (Behind B) (exps g.old me es l) (exps g.new me' es' l')
        (λ y. call (construct k v y.0) (λ a. done (constructed v y.1 a))) (λ y. call (construct (g.keys.constructor k) (value_image g.keys v) y.0) (λ a. done (constructed (value_image g.keys v) y.1 a)))
        (exps_until A B es es' d l l' h)
        (λ y y' j. match_construct g (Behind B) k v (value_image g.keys v) y.0 y'.0 (λ a. done (constructed v y.1 a)) (λ a. done (constructed (value_image g.keys v) y'.1 a)) has refl j.0 (constructed_match g z z_stands z_frame B v (value_image g.keys v) refl y.1 y'.1 j.1)))

    target_until : (A B : NumberSet) (t t' : Target K) → TargetUntil g.keys g.old s.code z.code A t t' B → (l l' : List (Value K)) → Shifted g.keys s s_frame A l l' → Matches g (SlotBehind B t) (target g.old me t l) (target g.new me' t' l')
    target_until A B t t' (until_object A1 B1 p q x x' f d) l l' h = match_next g (Behind B) (SlotBehind B t) (exp g.old me x l) (exp g.new me' x' l') (λ r. done (value (in_object p r.0 f, r.1))) (λ r. done (value (in_object q r.0 (g.keys.field f), r.1)))
        (exp_until A B x x' d l l' h) (λ r r' k. match_value g (SlotBehind B t) (in_object p r.0 f, r.1) (in_object q r'.0 (g.keys.field f), r'.1) (object_slots p q x r.0 r'.0 f k.0, k.1))

    target_before : (A B : NumberSet) (t t' : Target K) → TargetBefore g.keys g.old s.code z.code A t t' B → (l l' : List (Value K)) → Shifted g.keys s s_frame A l l' → Matches g (SlotBetween B t) (target g.old me t l) (target g.new me' t' l')
    target_before A B t t' (before_local A1 p q n mine) l l' h = match_value g (SlotBetween B t) (in_local n, l) (in_local (z.code.at n), l') (local_slots p n mine, h)
    target_before A B t t' (before_static A1 p q f) l l' h = match_value g (SlotBetween B t) (in_static p f, l) (in_static q (g.keys.field f), l') (static_slots p q f, h)
    target_before A B t t' (before_object A1 B1 p q x x' f d) l l' h = match_next g (Before B) (SlotBetween B t) (exp g.old me x l) (exp g.new me' x' l') (λ r. done (value (in_object p r.0 f, r.1))) (λ r. done (value (in_object q r.0 (g.keys.field f), r.1)))
        (before A B x x' d l l' h) (λ r r' k. match_value g (SlotBetween B t) (in_object p r.0 f, r.1) (in_object q r'.0 (g.keys.field f), r'.1) (object_slots p q x r.0 r'.0 f k.0, k.1))

    exps_until : (A B : NumberSet) (es es' : Exps K) → ExpsUntil g.keys g.old s.code z.code A es es' B → (l l' : List (Value K)) → Shifted g.keys s s_frame A l l' → Matches g (ListBehind B) (exps g.old me es l) (exps g.new me' es' l')
    exps_until A B es es' (until_first A1 B1 C1 x x' xs xs' d f) l l' h = match_next g (Behind B1) (ListBehind B) (exp g.old me x l) (exp g.new me' x' l')
        (λ r. next (exps g.old me xs r.1) (λ y. done (value (r.0 ∷ y.0, y.1)))) (λ r. next (exps g.new me' xs' r.1) (λ y. done (value (r.0 ∷ y.0, y.1)))) (exp_until A B1 x x' d l l' h)
        (λ r r' k. match_next g (ListBehind B) (ListBehind B) (exps g.old me xs r.1) (exps g.new me' xs' r'.1) (λ y. done (value (r.0 ∷ y.0, y.1))) (λ y. done (value (r'.0 ∷ y.0, y.1))) (exps_match g z z_stands z_frame me me' z_holding B1 B xs xs' f r.1 r'.1 k.1)
        (λ y y' j. match_value g (ListBehind B) (r.0 ∷ y.0, y.1) (r'.0 ∷ y'.0, y'.1) ((λ i. k.0 i ∷ j.0 i), j.1)))
    exps_until A B es es' (until_later A1 B1 C1 x x' xs xs' d f) l l' h = match_next g (Before B1) (ListBehind B) (exp g.old me x l) (exp g.new me' x' l')
        (λ r. next (exps g.old me xs r.1) (λ y. done (value (r.0 ∷ y.0, y.1)))) (λ r. next (exps g.new me' xs' r.1) (λ y. done (value (r.0 ∷ y.0, y.1)))) (before A B1 x x' d l l' h)
        (λ r r' k. match_next g (ListBehind B) (ListBehind B) (exps g.old me xs r.1) (exps g.new me' xs' r'.1) (λ y. done (value (r.0 ∷ y.0, y.1))) (λ y. done (value (r'.0 ∷ y.0, y.1))) (exps_until B1 B xs xs' f r.1 r'.1 k.1)
        (λ y y' j. match_value g (ListBehind B) (r.0 ∷ y.0, y.1) (r'.0 ∷ y'.0, y'.1) ((λ i. k.0 i ∷ j.0 i), j.1)))
