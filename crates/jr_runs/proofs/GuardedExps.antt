-- The runs of an expression match those of its image, where calls are made as they should be on both sides (`Guarded`).
-- Both plans carry that their calls are; so a call on an object is made on one that has what is found. Changed expressions match by
-- themselves.
use Rattle.std.proofs.Common.{◌≡◌, ⊎_elim, ℕ, true, false, List, [], ◌∷◌, Option, Some, None, option_map, unwrap_or, IsTrue, map, refl, ap, ◌∙◌, subst, sym}
use Rattle.jr_plans.specs.Plan.{done, call}
use Rattle.jr_runs.specs.Keys.{Keys, At}
use Rattle.jr_runs.specs.Values.{Value, truth, null}
use Rattle.jr_runs.specs.Actions.{Location, part, shared, load, store, create}
use Rattle.jr_runs.specs.Rows.{Rows}
use Rattle.jr_runs.specs.Fitting.{fits, class_of, is_instance, is_new}
use Rattle.jr_runs.specs.Arithmetic.{null_reference, Out, value, thrown, calculate, number_of, operate, sign, bumped, bump_value}
use Rattle.jr_runs.specs.Core as core
use Rattle.jr_runs.specs.Core.{Exp, Target, Exps}
use Rattle.jr_runs.specs.Evaluation.{Flow, Step, invoke, construct, next, local_at, with_local, non_null, on_truth, on_class, Slot, in_local, in_static, in_object, load_field, store_field, load_from, store_to, with_locals, cast_value, answer, constructed, exp, target, exps}
use Rattle.jr_runs.specs.KeyMaps.{KeyMap, value_image, location_image}
use Rattle.jr_runs.specs.Standing.{Self, itself, held, nobody, unused, Standing, Stands, SelfIn, HeldIn, CastIn, IsHeld, IsCast, Frame, SelfIs, AllHold, AllHoldAs, Holding, Shifted}
use Rattle.jr_runs.specs.Sets.{NumberSet, Within}
use Rattle.jr_runs.specs.Images.{Among, CastOf, uncast, cast_once, SelfTo, Readable, Writable, behind_write, ExpSpots, NoExp, ExpImage, to_changed, ExpTo, to_literal, to_this, to_cast_this, to_held, to_held_cast, to_read, to_assign, to_compound, to_bump, to_signed, to_binary, to_both, to_either, to_cast, to_static_call, to_instance_call, to_super_call, to_create, to_super_constructor, TargetImage, TargetTo, to_local, to_static_field, to_field_of, ExpsImage, ExpsTo, to_end, to_more}
use Rattle.jr_runs.specs.Pairs.{OutRel, ImageOf, ResultRel, ListRel, SlotTo, local_slots, static_slots, object_slots, SlotRel, AnswerRel}
use Rattle.jr_runs.proofs.Locals.{shifted_less, shifted_write}
use Rattle.jr_runs.proofs.ImageValues.{sign_image, bumped_image, bump_value_image, calculate_rel, cast_rel, operate_rel, class_of_image, is_instance_image, is_new_image, field_fits}
use Rattle.jr_runs.proofs.Matching.{with_rel, answer_rel, constructed_rel}
use Rattle.jr_runs.proofs.Instances.{instance_of}
use Rattle.jr_runs.proofs.Guarded.{Guarded, Matched, OldSafe, NewSafe, match_next, match_outcome, match_value, match_thrown, match_action, match_weaker, match_non_null, match_answers, match_next_safe, match_truth_safe, match_non_null_safe, match_answers_safe, match_call, match_construct}

module _ {K : Keys} {keys : KeyMap K} {R R' : Rows K} (g : Guarded keys R R') where
  pub load_field_match : (p q : At K) (from : Location K) (f : K.field) → Matched g (ImageOf keys) (load_field R p from f) (load_field R' q (location_image keys from) (keys.field f))
  load_field_match p q from f = match_answers g (ImageOf keys) (fits R (R.field_type f)) (fits R' (R'.field_type (keys.field f)))
      (λ v. record { at = p; action = load (R.field_kind f) from v }) (λ v. record { at = q; action = load (R'.field_kind (keys.field f)) (location_image keys from) v }) (λ v. done (value v)) (λ v. done (value v))
      (field_fits keys R R' g.rows f) (λ v. ap (λ k. load k (location_image keys from) (value_image keys v)) (g.rows.field_kind f)) (λ v. match_value g (ImageOf keys) v (value_image keys v) refl)

  pub store_field_match : (s : Standing K) (frame : Frame K) (A : NumberSet) (p q : At K) (to : Location K) (f : K.field) (v v' : Value K) → ImageOf keys v v' → (l l' : List (Value K)) → Shifted keys s frame A l l'
      → Matched g (Shifted keys s frame A) (store_field R p to f v l) (store_field R' q (location_image keys to) (keys.field f) v' l')
  store_field_match s frame A p q to f v v' e l l' h = match_action g (Shifted keys s frame A) record { at = p; action = store (R.field_kind f) to v } record { at = q; action = store (R'.field_kind (keys.field f)) (location_image keys to) v' }
      (done (value l)) (done (value l')) (rw (g.rows.field_kind f, e) refl) (match_value g (Shifted keys s frame A) l l' h)

  module _ (s : Standing K) (stands : Stands s) (frame : Frame K) where
    abbrev Shift : NumberSet → List (Value K) → List (Value K) → Type 0
    Shift A l l' = Shifted keys s frame A l l'

    abbrev Result : NumberSet → Value K × List (Value K) → Value K × List (Value K) → Type 0
    Result A a b = ResultRel keys s frame A a b

    abbrev Lists : NumberSet → List (Value K) × List (Value K) → List (Value K) × List (Value K) → Type 0
    Lists A a b = ListRel keys s frame A a b

    abbrev Slots : NumberSet → Target K → Slot K × List (Value K) → Slot K × List (Value K) → Type 0
    Slots A t a b = SlotRel keys s frame A t a b

    pub less : (A B : NumberSet) → Within B A → (p p' : Step K (Value K × List (Value K))) → Matched g (Result A) p p' → Matched g (Result B) p p'
    less A B w p p' m = match_weaker g (Result A) (Result B) p p' fewer m
      where
        fewer : (o o' : Out (Value K × List (Value K))) → OutRel (Result A) o o' → OutRel (Result B) o o'
        fewer (value a) (value b) h = (h.0, shifted_less keys s frame A B w a.1 b.1 h.1)
        fewer (thrown x) (thrown y) h = h
        fewer (value a) (thrown y) h = absurd h
        fewer (thrown x) (value b) h = absurd h

    pub load_match : (A : NumberSet) (t : Target K) (x x' : Slot K) → SlotTo keys s t x x' → Readable A t → (l l' : List (Value K)) → Shift A l l' → Matched g (ImageOf keys) (load_from R x l) (load_from R' x' l')
    load_match A t x x' (local_slots p n b) a l l' h = match_value g (ImageOf keys) (local_at l n) (local_at l' (s.code.at n)) (h.moved n b a)
    load_match A t x x' (static_slots p q y) a l l' h = load_field_match p q (shared y) y
    load_match A t x x' (object_slots p q e o o' y i) a l l' h = rw i (match_non_null g (ImageOf keys) o (load_field R p (part o y) y) (load_field R' q (part (value_image keys o) (keys.field y)) (keys.field y)) (load_field_match p q (part o y) y))

    pub store_match : (A : NumberSet) (t : Target K) (x x' : Slot K) → SlotTo keys s t x x' → Writable s.code t → (v v' : Value K) → ImageOf keys v v' → (l l' : List (Value K)) → Shift A l l' → Matched g (Shift (behind_write A t)) (store_to R x v l) (store_to R' x' v' l')
    store_match A t x x' (local_slots p n b) w v v' i l l' h = match_value g (Shift (behind_write A t)) (with_local l n v) (with_local l' (s.code.at n) v') (shifted_write keys s stands frame A l l' n v v' b w i h)
    store_match A t x x' (static_slots p q y) w v v' i l l' h = store_field_match s frame A p q (shared y) y v v' i l l' h
    store_match A t x x' (object_slots p q e o o' y j) w v v' i l l' h = rw j (match_non_null g (Shift A) o (store_field R p (part o y) y v l) (store_field R' q (part (value_image keys o) (keys.field y)) (keys.field y) v' l') (store_field_match s frame A p q (part o y) y v v' i l l' h))

    -- a value is stored, and is what the expression comes to
    pub stored_match : (A D : NumberSet) (t : Target K) (x x' : Slot K) → SlotTo keys s t x x' → Writable s.code t → Within D (behind_write A t) → (v v' w w' : Value K) → ImageOf keys v v' → ImageOf keys w w' → (l l' : List (Value K)) → Shift A l l'
        → Matched g (Result D) (next (store_to R x v l) (λ m. done (value (w, m)))) (next (store_to R' x' v' l') (λ m. done (value (w', m))))
    stored_match A D t x x' e u k v v' w w' i j l l' h = match_next g (Shift (behind_write A t)) (Result D) (store_to R x v l) (store_to R' x' v' l') (λ m. done (value (w, m))) (λ m. done (value (w', m))) (store_match A t x x' e u v v' i l l' h)
        (λ m m' d. match_value g (Result D) (w, m) (w', m') (j, shifted_less keys s frame (behind_write A t) D k m m' d))

    pub answer_match : (A : NumberSet) (l l' : List (Value K)) → Shift A l l' → (o o' : Out (Flow K)) → AnswerRel keys o o' → Matched g (Result A) (done (answer l o)) (done (answer l' o'))
    answer_match A l l' h o o' a = match_outcome g (Result A) (answer l o) (answer l' o') (answer_rel keys s frame A l l' o o' a h)

    pub constructed_match : (A : NumberSet) (v v' : Value K) → ImageOf keys v v' → (l l' : List (Value K)) → Shift A l l' → (o o' : Out (Flow K)) → AnswerRel keys o o' → Matched g (Result A) (done (constructed v l o)) (done (constructed v' l' o'))
    constructed_match A v v' e l l' h o o' a = match_outcome g (Result A) (constructed v l o) (constructed v' l' o') (constructed_rel keys s frame A v v' e l l' o o' a h)

    module _ (A : NumberSet) (m : K.method) (has : IsTrue (R.has_method m)) (v : Value K) (vs : List (Value K)) (l l' : List (Value K)) (h : Shift A l l') where
      abbrev old_call : Option K.class → Step K (Value K × List (Value K))
      old_call o = on_class o (λ c. call (invoke (unwrap_or (R.dispatch c m) m) v vs) (λ x. done (answer l x)))

      abbrev new_call : Option K.class → Value K → List (Value K) → Step K (Value K × List (Value K))
      new_call o v' vs' = on_class o (λ c. call (invoke (unwrap_or (R'.dispatch c (keys.method m)) (keys.method m)) v' vs') (λ x. done (answer l' x)))

      at_class : (o : Option K.class) → class_of R v ≡ o → OldSafe g (old_call o) → NewSafe g (new_call (option_map keys.class o) (value_image keys v) (map (value_image keys) vs))
          → Matched g (Result A) (old_call o) (new_call (option_map keys.class o) (value_image keys v) (map (value_image keys) vs))
      at_class None e u u' = match_thrown g (Result A) null_reference
      at_class (Some c) e u u' =
          let f = g.finds c m v vs has e u.0 in
          let made : g.new_pre (invoke (keys.method (unwrap_or (R.dispatch c m) m)) (value_image keys v) (map (value_image keys) vs)) = subst (λ k. g.new_pre (invoke k (value_image keys v) (map (value_image keys) vs))) f.1 u'.0 in
          subst (λ k. Matched g (Result A) (old_call (Some c)) (call (invoke k (value_image keys v) (map (value_image keys) vs)) (λ x. done (answer l' x)))) (sym f.1)
          (match_call g (Result A) (unwrap_or (R.dispatch c m) m) v (value_image keys v) vs (map (value_image keys) vs) (λ x. done (answer l x)) (λ x. done (answer l' x)) f.0 refl refl u.0 made (answer_match A l l' h))

      -- a call on an object, of what its class finds
      pub dispatched : (v' : Value K) → ImageOf keys v v' → (vs' : List (Value K)) → vs' ≡ map (value_image keys) vs → OldSafe g (old_call (class_of R v)) → NewSafe g (new_call (class_of R' v') v' vs')
          → Matched g (Result A) (old_call (class_of R v)) (new_call (class_of R' v') v' vs')
      dispatched v' e vs' d u u' =
          let k : class_of R' v' ≡ option_map keys.class (class_of R v) = ap (class_of R') e ∙ class_of_image keys R R' g.rows v in
          let same : new_call (class_of R' v') v' vs' ≡ new_call (option_map keys.class (class_of R v)) (value_image keys v) (map (value_image keys) vs) = λ i. new_call (k i) (e i) (d i) in
          subst (λ p. Matched g (Result A) (old_call (class_of R v)) p) (sym same) (at_class (class_of R v) refl u (subst (λ p. NewSafe g p) same u'))

    module _ (me me' : Value K) (im : Holding R keys s.code frame me me') where
      held_value : (hs : List (Exp K × ℕ)) → AllHold R keys s.code.known frame me hs → HeldIn hs s.others → (e : Exp K) (k : ℕ) → IsHeld e k hs → (p q : At K) (A : NumberSet) (l l' : List (Value K)) → Shift A l l' → Matched g (Result A) (exp R me e l) (exp R' me' (core.read p (core.local q k)) l')
      held_value [] all inside e k is p q A l l' h = absurd is
      held_value (x ∷ xs) all inside e k is p q A l l' h = ⊎_elim
          (λ (is : (e ≡ x.0) × (k ≡ x.1)). rw (is.0, is.1, all.0.comes l h.known) (match_value g (Result A) (all.0.result, l) (local_at l' x.1, l') (h.others x.1 inside.0 ∙ all.0.there, h)))
          (λ later. held_value xs all.1 inside.1 e k later p q A l l' h)
          is

      cast_held : (hs : List (K.class × Exp K × ℕ)) → AllHoldAs R keys s.code.known frame me hs → CastIn hs s.others → (c : K.class) (e : Exp K) (k : ℕ) → IsCast c e k hs → (p q u : At K) (A : NumberSet) (l l' : List (Value K)) → Shift A l l'
          → Matched g (Result A) (exp R me e l) (exp R' me' (core.cast u (keys.class c) (core.read p (core.local q k))) l')
      cast_held [] all inside c e k is p q u A l l' h = absurd is
      cast_held (x ∷ xs) all inside c e k is p q u A l l' h = ⊎_elim
          (λ (is : (c ≡ x.0) × (e ≡ x.1) × (k ≡ x.2)).
          let v : Value K = all.0.holds.result in
          let there : local_at l' x.2 ≡ value_image keys v = h.others x.2 inside.0 ∙ all.0.holds.there in
          let cast_there : OutRel (ImageOf keys) (value v) (cast_value (is_instance R' (keys.class x.0) (value_image keys v)) (value_image keys v)) =
          subst (λ o. OutRel (ImageOf keys) o (cast_value (is_instance R' (keys.class x.0) (value_image keys v)) (value_image keys v))) all.0.fits
          (subst (λ b. OutRel (ImageOf keys) (cast_value (is_instance R x.0 v) v) (cast_value b (value_image keys v))) (sym (is_instance_image keys R R' g.rows x.0 v)) (cast_rel keys (is_instance R x.0 v) v)) in
          rw (is.0, is.1, is.2, all.0.holds.comes l h.known, there) (match_outcome g (Result A) (value (v, l)) (with_locals l' (cast_value (is_instance R' (keys.class x.0) (value_image keys v)) (value_image keys v)))
          (with_rel keys s frame A l l' (value v) (cast_value (is_instance R' (keys.class x.0) (value_image keys v)) (value_image keys v)) cast_there h)))
          (λ later. cast_held xs all.1 inside.1 c e k later p q u A l l' h)
          is

      -- what stands for `this` has its image
      self_comes : (A : NumberSet) (self : Self) → SelfIn self s.others → SelfIs keys self frame me me' → (x : Exp K) → SelfTo self x → (l l' : List (Value K)) → Shift A l l' → exp R' me' x l' ≡ done (value (value_image keys me, l'))
      self_comes A itself i d x t l l' h = rw t.1 (ap (λ v. done (value (v, l'))) d)
      self_comes A (held k) i d x t l l' h = rw t.2 (ap (λ v. done (value (v, l'))) (h.others k i ∙ d))
      self_comes A nobody i d x t l l' h = rw (t.1, d) refl
      self_comes A unused i d x t l l' h = absurd t

      pub this_comes : (A : NumberSet) (x : Exp K) → SelfTo s.code.self x → (l l' : List (Value K)) → Shift A l l' → exp R' me' x l' ≡ done (value (value_image keys me, l'))
      this_comes A x t l l' h = self_comes A s.code.self stands.self im.self x t l l' h

      cast_image : (o o' : Out (Value K)) (v : Value K) → o ≡ value v → OutRel (ImageOf keys) o o' → o' ≡ value (value_image keys v)
      cast_image o o' v e h = image_of o' (subst (λ x. OutRel (ImageOf keys) x o') e h)
        where
          image_of : (o' : Out (Value K)) → OutRel (ImageOf keys) (value v) o' → o' ≡ value (value_image keys v)
          image_of (value w) h = ap value h
          image_of (thrown f) h = absurd h

      one_fits : (c : K.class) → Among c s.code.classes → cast_value (is_instance R c me) me ≡ value me
      one_fits c is = ap (λ b. cast_value b me) (instance_of R me s.code.classes im.classes c is)

      pub old_cast : (p : At K) (e : Exp K) → CastOf (λ c. c) s.code.classes (core.this p) e → (l : List (Value K)) → exp R me e l ≡ done (value (me, l))
      old_cast p e uncast l = refl
      old_cast p e (cast_once q c x is d) l = rw (old_cast p x d l) (ap (λ o. done (with_locals l o)) (one_fits c is))

      new_cast : (x e : Exp K) → CastOf keys.class s.code.classes x e → (l' : List (Value K)) → exp R' me' x l' ≡ done (value (value_image keys me, l')) → exp R' me' e l' ≡ done (value (value_image keys me, l'))
      new_cast x e uncast l' h = h
      new_cast x e (cast_once q c y is d) l' h = rw (new_cast x y d l' h) (ap (λ o. done (with_locals l' o))
          (cast_image (cast_value (is_instance R c me) me) (cast_value (is_instance R' (keys.class c) (value_image keys me)) (value_image keys me)) me (one_fits c is)
          (subst (λ b. OutRel (ImageOf keys) (cast_value (is_instance R c me) me) (cast_value b (value_image keys me))) (sym (is_instance_image keys R R' g.rows c me)) (cast_rel keys (is_instance R c me) me))))

      cast_this : (A : NumberSet) (p : At K) (x e e' : Exp K) → SelfTo s.code.self x → CastOf (λ c. c) s.code.classes (core.this p) e → CastOf keys.class s.code.classes x e' → (l l' : List (Value K)) → Shift A l l' → Matched g (Result A) (exp R me e l) (exp R' me' e' l')
      cast_this A p x e e' t d d' l l' h = rw (old_cast p e d l, new_cast x e' d' l' (this_comes A x t l l' h)) (match_value g (Result A) (me, l) (value_image keys me, l') (refl, h))

      -- what the changed expressions owe
      abbrev pub ExpsKnown : ExpSpots K → Type 0
      ExpsKnown Here = (A B : NumberSet) (e e' : Exp K) → Here A e e' B → (l l' : List (Value K)) → Shift A l l' → OldSafe g (exp R me e l) → NewSafe g (exp R' me' e' l') → Matched g (Result B) (exp R me e l) (exp R' me' e' l')

      module _ (Here : ExpSpots K) (here : ExpsKnown Here) where
        mutual
          pub exp_with : (A B : NumberSet) (e e' : Exp K) → ExpImage keys R Here s.code A e e' B → (l l' : List (Value K)) → Shift A l l' → OldSafe g (exp R me e l) → NewSafe g (exp R' me' e' l') → Matched g (Result B) (exp R me e l) (exp R' me' e' l')
          exp_with A B e e' (to_literal C p q v) l l' h o o' = match_value g (Result A) (v, l) (value_image keys v, l') (refl, h)
          exp_with A B e e' (to_this C p x d) l l' h o o' = cast_this A p x (core.this p) x d uncast uncast l l' h
          exp_with A B e e' (to_cast_this C p x y y' t d d') l l' h o o' = cast_this A p x y y' t d d' l l' h
          exp_with A B e e' (to_held C p q x k is) l l' h o o' = held_value s.code.holds im.holds stands.held x k is p q A l l' h
          exp_with A B e e' (to_held_cast C p q u c x k is) l l' h o o' = cast_held s.code.casts im.casts stands.cast c x k is p q u A l l' h
          exp_with A B e e' (to_changed C D x x' d) l l' h o o' = here A B e e' d l l' h o o'
          exp_with A B e e' (to_read C D p q t t' d a) l l' h o o' = match_next_safe g (Slots B t) (Result B) (target R me t l) (target R' me' t' l')
              (λ r. next (load_from R r.0 r.1) (λ v. done (value (v, r.1)))) (λ r. next (load_from R' r.0 r.1) (λ v. done (value (v, r.1)))) o o' (λ i i'. target_with A B t t' d l l' h i i')
              (λ b b' k j j'. match_next g (ImageOf keys) (Result B) (load_from R b.0 b.1) (load_from R' b'.0 b'.1) (λ v. done (value (v, b.1))) (λ v. done (value (v, b'.1))) (load_match B t b.0 b'.0 k.0 a b.1 b'.1 k.1)
              (λ v v' i. match_value g (Result B) (v, b.1) (v', b'.1) (i, k.1)))
          exp_with A B e e' (to_assign C D E F p q t t' x x' d w y u) l l' h o o' = match_next_safe g (Slots D t) (Result B) (target R me t l) (target R' me' t' l')
              (λ r. next (exp R me x r.1) (λ z. next (store_to R r.0 z.0 z.1) (λ m. done (value (z.0, m))))) (λ r. next (exp R' me' x' r.1) (λ z. next (store_to R' r.0 z.0 z.1) (λ m. done (value (z.0, m))))) o o'
              (λ i i'. target_with A D t t' d l l' h i i')
              (λ b b' k j j'. match_next_safe g (Result E) (Result B) (exp R me x b.1) (exp R' me' x' b'.1) (λ z. next (store_to R b.0 z.0 z.1) (λ m. done (value (z.0, m)))) (λ z. next (store_to R' b'.0 z.0 z.1) (λ m. done (value (z.0, m)))) j j'
              (λ i i'. exp_with D E x x' y b.1 b'.1 k.1 i i') (λ z z' n i i'. stored_match E B t b.0 b'.0 k.0 w u z.0 z'.0 z.0 z'.0 n.0 n.0 z.1 z'.1 n.1))
          exp_with A B e e' (to_compound C D E F p q op t t' x x' d a w y u) l l' h o o' = match_next_safe g (Slots D t) (Result B) (target R me t l) (target R' me' t' l')
              (λ r. next (load_from R r.0 r.1) (λ old. next (exp R me x r.1) (λ z. next (done (calculate op (number_of old) (number_of z.0))) (λ v. next (store_to R r.0 v z.1) (λ m. done (value (v, m)))))))
              (λ r. next (load_from R' r.0 r.1) (λ old. next (exp R' me' x' r.1) (λ z. next (done (calculate op (number_of old) (number_of z.0))) (λ v. next (store_to R' r.0 v z.1) (λ m. done (value (v, m))))))) o o'
              (λ i i'. target_with A D t t' d l l' h i i')
              (λ b b' k j j'. match_next_safe g (ImageOf keys) (Result B) (load_from R b.0 b.1) (load_from R' b'.0 b'.1)
              (λ old. next (exp R me x b.1) (λ z. next (done (calculate op (number_of old) (number_of z.0))) (λ v. next (store_to R b.0 v z.1) (λ m. done (value (v, m))))))
              (λ old. next (exp R' me' x' b'.1) (λ z. next (done (calculate op (number_of old) (number_of z.0))) (λ v. next (store_to R' b'.0 v z.1) (λ m. done (value (v, m)))))) j j'
              (λ i i'. load_match D t b.0 b'.0 k.0 a b.1 b'.1 k.1)
              (λ old old' i n n'. match_next_safe g (Result E) (Result B) (exp R me x b.1) (exp R' me' x' b'.1)
              (λ z. next (done (calculate op (number_of old) (number_of z.0))) (λ v. next (store_to R b.0 v z.1) (λ m. done (value (v, m)))))
              (λ z. next (done (calculate op (number_of old') (number_of z.0))) (λ v. next (store_to R' b'.0 v z.1) (λ m. done (value (v, m))))) n n'
              (λ f f'. exp_with D E x x' y b.1 b'.1 k.1 f f')
              (λ z z' c f f'. match_next g (ImageOf keys) (Result B) (done (calculate op (number_of old) (number_of z.0))) (done (calculate op (number_of old') (number_of z'.0)))
              (λ v. next (store_to R b.0 v z.1) (λ m. done (value (v, m)))) (λ v. next (store_to R' b'.0 v z'.1) (λ m. done (value (v, m))))
              (match_outcome g (ImageOf keys) (calculate op (number_of old) (number_of z.0)) (calculate op (number_of old') (number_of z'.0)) (rw (i, c.0) (calculate_rel keys op old z.0)))
              (λ v v' d'. stored_match E B t b.0 b'.0 k.0 w u v v' v v' d' d' z.1 z'.1 c.1))))
          exp_with A B e e' (to_bump C D F p q op t t' d a w u) l l' h o o' = match_next_safe g (Slots D t) (Result B) (target R me t l) (target R' me' t' l')
              (λ r. next (load_from R r.0 r.1) (λ old. next (store_to R r.0 (bumped op old) r.1) (λ m. done (value (bump_value op old (bumped op old), m)))))
              (λ r. next (load_from R' r.0 r.1) (λ old. next (store_to R' r.0 (bumped op old) r.1) (λ m. done (value (bump_value op old (bumped op old), m))))) o o'
              (λ i i'. target_with A D t t' d l l' h i i')
              (λ b b' k j j'. match_next g (ImageOf keys) (Result B) (load_from R b.0 b.1) (load_from R' b'.0 b'.1)
              (λ old. next (store_to R b.0 (bumped op old) b.1) (λ m. done (value (bump_value op old (bumped op old), m))))
              (λ old. next (store_to R' b'.0 (bumped op old) b'.1) (λ m. done (value (bump_value op old (bumped op old), m))))
              (load_match D t b.0 b'.0 k.0 a b.1 b'.1 k.1)
              (λ old old' i.
              let new : bumped op old' ≡ value_image keys (bumped op old) = ap (bumped op) i ∙ bumped_image keys op old in
              let both : bump_value op old' (bumped op old') ≡ value_image keys (bump_value op old (bumped op old)) = (λ n. bump_value op (i n) (new n)) ∙ bump_value_image keys op old (bumped op old) in
              stored_match D B t b.0 b'.0 k.0 w u (bumped op old) (bumped op old') (bump_value op old (bumped op old)) (bump_value op old' (bumped op old')) new both b.1 b'.1 k.1))
          exp_with A B e e' (to_signed C D p q op x x' y) l l' h o o' = match_next_safe g (Result B) (Result B) (exp R me x l) (exp R' me' x' l') (λ r. done (value (sign op r.0, r.1))) (λ r. done (value (sign op r.0, r.1))) o o' (λ i i'. exp_with A B x x' y l l' h i i')
              (λ a a' k j j'. match_value g (Result B) (sign op a.0, a.1) (sign op a'.0, a'.1) (ap (sign op) k.0 ∙ sign_image keys op a.0, k.1))
          exp_with A B e e' (to_binary C D E p q op a a' b b' c d) l l' h o o' = match_next_safe g (Result D) (Result B) (exp R me a l) (exp R' me' a' l')
              (λ r. next (exp R me b r.1) (λ z. done (with_locals z.1 (operate R.same_class op r.0 z.0)))) (λ r. next (exp R' me' b' r.1) (λ z. done (with_locals z.1 (operate R'.same_class op r.0 z.0)))) o o'
              (λ i i'. exp_with A D a a' c l l' h i i')
              (λ r r' k j j'. match_next_safe g (Result B) (Result B) (exp R me b r.1) (exp R' me' b' r'.1) (λ z. done (with_locals z.1 (operate R.same_class op r.0 z.0))) (λ z. done (with_locals z.1 (operate R'.same_class op r'.0 z.0))) j j'
              (λ i i'. exp_with D B b b' d r.1 r'.1 k.1 i i')
              (λ z z' n i i'. match_outcome g (Result B) (with_locals z.1 (operate R.same_class op r.0 z.0)) (with_locals z'.1 (operate R'.same_class op r'.0 z'.0))
              (with_rel keys s frame B z.1 z'.1 (operate R.same_class op r.0 z.0) (operate R'.same_class op r'.0 z'.0) (rw (k.0, n.0) (operate_rel keys R R' g.rows op r.0 z.0)) n.1)))
          exp_with A B e e' (to_both C D E F p q a a' b b' c d i j) l l' h o o' = match_next_safe g (Result D) (Result B) (exp R me a l) (exp R' me' a' l')
              (λ r. on_truth r.0 (exp R me b r.1) (done (value (truth false, r.1)))) (λ r. on_truth r.0 (exp R' me' b' r.1) (done (value (truth false, r.1)))) o o' (λ n n'. exp_with A D a a' c l l' h n n')
              (λ r r' k u u'. match_truth_safe g (Result B) r.0 r'.0 k.0 (exp R me b r.1) (done (value (truth false, r.1))) (exp R' me' b' r'.1) (done (value (truth false, r'.1))) u u'
              (λ n n'. less E B j (exp R me b r.1) (exp R' me' b' r'.1) (exp_with D E b b' d r.1 r'.1 k.1 n n'))
              (λ n n'. match_value g (Result B) (truth false, r.1) (truth false, r'.1) (refl, shifted_less keys s frame D B i r.1 r'.1 k.1)))
          exp_with A B e e' (to_either C D E F p q a a' b b' c d i j) l l' h o o' = match_next_safe g (Result D) (Result B) (exp R me a l) (exp R' me' a' l')
              (λ r. on_truth r.0 (done (value (truth true, r.1))) (exp R me b r.1)) (λ r. on_truth r.0 (done (value (truth true, r.1))) (exp R' me' b' r.1)) o o' (λ n n'. exp_with A D a a' c l l' h n n')
              (λ r r' k u u'. match_truth_safe g (Result B) r.0 r'.0 k.0 (done (value (truth true, r.1))) (exp R me b r.1) (done (value (truth true, r'.1))) (exp R' me' b' r'.1) u u'
              (λ n n'. match_value g (Result B) (truth true, r.1) (truth true, r'.1) (refl, shifted_less keys s frame D B i r.1 r'.1 k.1))
              (λ n n'. less E B j (exp R me b r.1) (exp R' me' b' r'.1) (exp_with D E b b' d r.1 r'.1 k.1 n n')))
          exp_with A B e e' (to_cast C D p q c x x' y) l l' h o o' = match_next_safe g (Result B) (Result B) (exp R me x l) (exp R' me' x' l')
              (λ r. done (with_locals r.1 (cast_value (is_instance R c r.0) r.0))) (λ r. done (with_locals r.1 (cast_value (is_instance R' (keys.class c) r.0) r.0))) o o' (λ i i'. exp_with A B x x' y l l' h i i')
              (λ r r' k j j'. match_outcome g (Result B) (with_locals r.1 (cast_value (is_instance R c r.0) r.0)) (with_locals r'.1 (cast_value (is_instance R' (keys.class c) r'.0) r'.0))
              (with_rel keys s frame B r.1 r'.1 (cast_value (is_instance R c r.0) r.0) (cast_value (is_instance R' (keys.class c) r'.0) r'.0)
              (rw (k.0, is_instance_image keys R R' g.rows c r.0) (cast_rel keys (is_instance R c r.0) r.0)) k.1))
          exp_with A B e e' (to_static_call C D p q m es es' has y) l l' h o o' = match_next_safe g (Lists B) (Result B) (exps R me es l) (exps R' me' es' l')
              (λ z. call (invoke m null z.0) (λ x. done (answer z.1 x))) (λ z. call (invoke (keys.method m) null z.0) (λ x. done (answer z.1 x))) o o' (λ i i'. exps_with A B es es' y l l' h i i')
              (λ z z' k u u'. match_call g (Result B) m null null z.0 z'.0 (λ x. done (answer z.1 x)) (λ x. done (answer z'.1 x)) has refl k.0 u.0 u'.0 (answer_match B z.1 z'.1 k.1))
          exp_with A B e e' (to_instance_call C D E p q x x' m es es' has y d) l l' h o o' = match_next_safe g (Result D) (Result B) (exp R me x l) (exp R' me' x' l')
              (λ r. next (exps R me es r.1) (λ z. on_class (class_of R r.0) (λ c. call (invoke (unwrap_or (R.dispatch c m) m) r.0 z.0) (λ n. done (answer z.1 n)))))
              (λ r. next (exps R' me' es' r.1) (λ z. on_class (class_of R' r.0) (λ c. call (invoke (unwrap_or (R'.dispatch c (keys.method m)) (keys.method m)) r.0 z.0) (λ n. done (answer z.1 n))))) o o'
              (λ i i'. exp_with A D x x' y l l' h i i')
              (λ r r' k j j'. match_next_safe g (Lists B) (Result B) (exps R me es r.1) (exps R' me' es' r'.1)
              (λ z. on_class (class_of R r.0) (λ c. call (invoke (unwrap_or (R.dispatch c m) m) r.0 z.0) (λ n. done (answer z.1 n))))
              (λ z. on_class (class_of R' r'.0) (λ c. call (invoke (unwrap_or (R'.dispatch c (keys.method m)) (keys.method m)) r'.0 z.0) (λ n. done (answer z.1 n)))) j j'
              (λ i i'. exps_with D B es es' d r.1 r'.1 k.1 i i') (λ z z' n u u'. dispatched B m has r.0 z.0 z.1 z'.1 n.1 r'.0 k.0 z'.0 n.0 u u'))
          exp_with A B e e' (to_super_call C D E p q x x' m es es' has y d) l l' h o o' = match_next_safe g (Result D) (Result B) (exp R me x l) (exp R' me' x' l')
              (λ r. next (exps R me es r.1) (λ z. non_null r.0 (call (invoke m r.0 z.0) (λ n. done (answer z.1 n)))))
              (λ r. next (exps R' me' es' r.1) (λ z. non_null r.0 (call (invoke (keys.method m) r.0 z.0) (λ n. done (answer z.1 n))))) o o'
              (λ i i'. exp_with A D x x' y l l' h i i')
              (λ r r' k j j'. match_next_safe g (Lists B) (Result B) (exps R me es r.1) (exps R' me' es' r'.1)
              (λ z. non_null r.0 (call (invoke m r.0 z.0) (λ n. done (answer z.1 n)))) (λ z. non_null r'.0 (call (invoke (keys.method m) r'.0 z.0) (λ n. done (answer z.1 n)))) j j'
              (λ i i'. exps_with D B es es' d r.1 r'.1 k.1 i i')
              (λ z z' n u u'. match_non_null_safe g (Result B) r.0 r'.0 k.0 (call (invoke m r.0 z.0) (λ c. done (answer z.1 c))) (call (invoke (keys.method m) r'.0 z'.0) (λ c. done (answer z'.1 c))) u u'
              (λ i i'. match_call g (Result B) m r.0 r'.0 z.0 z'.0 (λ c. done (answer z.1 c)) (λ c. done (answer z'.1 c)) has k.0 n.0 i.0 i'.0 (answer_match B z.1 z'.1 n.1))))
          exp_with A B e e' (to_create C D p q c k es es' has d) l l' h o o' = match_answers_safe g (Result B) (is_new R c) (is_new R' (keys.class c)) (λ n. record { at = p; action = create n }) (λ n. record { at = q; action = create n })
              (λ n. next (exps R me es l) (λ z. call (construct k n z.0) (λ a. done (constructed n z.1 a))))
              (λ n. next (exps R' me' es' l') (λ z. call (construct (keys.constructor k) n z.0) (λ a. done (constructed n z.1 a))))
              (is_new_image keys R R' g.rows c) (λ v. refl) o o'
              (λ v j j'. match_next_safe g (Lists B) (Result B) (exps R me es l) (exps R' me' es' l')
              (λ z. call (construct k v z.0) (λ a. done (constructed v z.1 a))) (λ z. call (construct (keys.constructor k) (value_image keys v) z.0) (λ a. done (constructed (value_image keys v) z.1 a))) j j'
              (λ i i'. exps_with A B es es' d l l' h i i')
              (λ z z' n u u'. match_construct g (Result B) k v (value_image keys v) z.0 z'.0 (λ a. done (constructed v z.1 a)) (λ a. done (constructed (value_image keys v) z'.1 a)) has refl n.0 u.0 u'.0 (constructed_match B v (value_image keys v) refl z.1 z'.1 n.1)))
          exp_with A B e e' (to_super_constructor C D E p q x x' k es es' has y d) l l' h o o' = match_next_safe g (Result D) (Result B) (exp R me x l) (exp R' me' x' l')
              (λ r. next (exps R me es r.1) (λ z. non_null r.0 (call (construct k r.0 z.0) (λ a. done (constructed r.0 z.1 a)))))
              (λ r. next (exps R' me' es' r.1) (λ z. non_null r.0 (call (construct (keys.constructor k) r.0 z.0) (λ a. done (constructed r.0 z.1 a))))) o o'
              (λ i i'. exp_with A D x x' y l l' h i i')
              (λ r r' b j j'. match_next_safe g (Lists B) (Result B) (exps R me es r.1) (exps R' me' es' r'.1)
              (λ z. non_null r.0 (call (construct k r.0 z.0) (λ a. done (constructed r.0 z.1 a)))) (λ z. non_null r'.0 (call (construct (keys.constructor k) r'.0 z.0) (λ a. done (constructed r'.0 z.1 a)))) j j'
              (λ i i'. exps_with D B es es' d r.1 r'.1 b.1 i i')
              (λ z z' n u u'. match_non_null_safe g (Result B) r.0 r'.0 b.0 (call (construct k r.0 z.0) (λ a. done (constructed r.0 z.1 a))) (call (construct (keys.constructor k) r'.0 z'.0) (λ a. done (constructed r'.0 z'.1 a))) u u'
              (λ i i'. match_construct g (Result B) k r.0 r'.0 z.0 z'.0 (λ a. done (constructed r.0 z.1 a)) (λ a. done (constructed r'.0 z'.1 a)) has b.0 n.0 i.0 i'.0 (constructed_match B r.0 r'.0 b.0 z.1 z'.1 n.1))))

          pub target_with : (A B : NumberSet) (t t' : Target K) → TargetImage keys R Here s.code A t t' B → (l l' : List (Value K)) → Shift A l l' → OldSafe g (target R me t l) → NewSafe g (target R' me' t' l') → Matched g (Slots B t) (target R me t l) (target R' me' t' l')
          target_with A B t t' (to_local C p q n below) l l' h o o' = match_value g (Slots B t) (in_local n, l) (in_local (s.code.at n), l') (local_slots p n below, h)
          target_with A B t t' (to_static_field C p q x) l l' h o o' = match_value g (Slots B t) (in_static p x, l) (in_static q (keys.field x), l') (static_slots p q x, h)
          target_with A B t t' (to_field_of C D p q x x' y d) l l' h o o' = match_next_safe g (Result B) (Slots B t) (exp R me x l) (exp R' me' x' l') (λ r. done (value (in_object p r.0 y, r.1))) (λ r. done (value (in_object q r.0 (keys.field y), r.1))) o o'
              (λ i i'. exp_with A B x x' d l l' h i i') (λ r r' k j j'. match_value g (Slots B t) (in_object p r.0 y, r.1) (in_object q r'.0 (keys.field y), r'.1) (object_slots p q x r.0 r'.0 y k.0, k.1))

          pub exps_with : (A B : NumberSet) (es es' : Exps K) → ExpsImage keys R Here s.code A es es' B → (l l' : List (Value K)) → Shift A l l' → OldSafe g (exps R me es l) → NewSafe g (exps R' me' es' l') → Matched g (Lists B) (exps R me es l) (exps R' me' es' l')
          exps_with A B es es' (to_end C) l l' h o o' = match_value g (Lists B) ([], l) ([], l') (refl, h)
          exps_with A B es es' (to_more C D E x x' xs xs' d y) l l' h o o' = match_next_safe g (Result D) (Lists B) (exp R me x l) (exp R' me' x' l')
              (λ r. next (exps R me xs r.1) (λ z. done (value (r.0 ∷ z.0, z.1)))) (λ r. next (exps R' me' xs' r.1) (λ z. done (value (r.0 ∷ z.0, z.1)))) o o' (λ i i'. exp_with A D x x' d l l' h i i')
              (λ r r' k j j'. match_next_safe g (Lists B) (Lists B) (exps R me xs r.1) (exps R' me' xs' r'.1) (λ z. done (value (r.0 ∷ z.0, z.1))) (λ z. done (value (r'.0 ∷ z.0, z.1))) j j' (λ i i'. exps_with D B xs xs' y r.1 r'.1 k.1 i i')
              (λ z z' n u u'. match_value g (Lists B) (r.0 ∷ z.0, z.1) (r'.0 ∷ z'.0, z'.1) ((λ c. k.0 c ∷ n.0 c), n.1)))

      -- no expression is changed
      none_changed : ExpsKnown NoExp
      none_changed A B e e' none l l' h o o' = absurd none

      pub exp_known : (A B : NumberSet) (e e' : Exp K) → ExpTo keys R s.code A e e' B → (l l' : List (Value K)) → Shift A l l' → OldSafe g (exp R me e l) → NewSafe g (exp R' me' e' l') → Matched g (Result B) (exp R me e l) (exp R' me' e' l')
      exp_known A B e e' d l l' h o o' = exp_with NoExp none_changed A B e e' d l l' h o o'

      pub target_known : (A B : NumberSet) (t t' : Target K) → TargetTo keys R s.code A t t' B → (l l' : List (Value K)) → Shift A l l' → OldSafe g (target R me t l) → NewSafe g (target R' me' t' l') → Matched g (Slots B t) (target R me t l) (target R' me' t' l')
      target_known A B t t' d l l' h o o' = target_with NoExp none_changed A B t t' d l l' h o o'

      pub exps_known : (A B : NumberSet) (es es' : Exps K) → ExpsTo keys R s.code A es es' B → (l l' : List (Value K)) → Shift A l l' → OldSafe g (exps R me es l) → NewSafe g (exps R' me' es' l') → Matched g (Lists B) (exps R me es l) (exps R' me' es' l')
      exps_known A B es es' d l l' h o o' = exps_with NoExp none_changed A B es es' d l l' h o o'
