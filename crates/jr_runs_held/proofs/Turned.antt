-- Two programs with the same declarations, alike without another key, are alike the other way round.
use Rattle.std.proofs.Common.{◌≡◌, ℕ, List, [], ◌∷◌, ◌++◌, map, refl, sym, ap, ◌∙◌, subst}
use Rattle.jr_runs.specs.Keys.{Keys}
use Rattle.jr_runs.specs.Values.{Value, int, truth, null, text, class_object, object}
use Rattle.jr_runs.specs.Actions.{Location, part, shared, Action, load, store, enter, exit, create, start, Trace}
use Rattle.jr_runs.specs.Core.{Program}
use Rattle.jr_runs.specs.Running.{Start, of_method, of_constructor, Ending, gave, gave_nothing, threw, Whole, Bounded}
use Rattle.jr_runs.specs.Starting.{IsStart}
use Rattle.jr_runs.specs.KeyMaps.{same_keys, value_image, location_image, action_image, trace_image, start_image, ending_image}
use Rattle.jr_runs.specs.Alike.{Alike, AlikeExactly}

module _ {K : Keys} where
  same_value : (v : Value K) → value_image same_keys v ≡ v
  same_value (int z) = refl
  same_value (truth b) = refl
  same_value null = refl
  same_value (text t) = refl
  same_value (class_object c) = refl
  same_value (object n c) = refl

  same_values : (vs : List (Value K)) → map (value_image same_keys) vs ≡ vs
  same_values [] = refl
  same_values (v ∷ vs) = λ i. same_value v i ∷ same_values vs i

  same_location : (x : Location K) → location_image same_keys x ≡ x
  same_location (part o f) = ap (λ v. part v f) (same_value o)
  same_location (shared f) = refl

  pub same_action : (a : Action K) → action_image same_keys a ≡ a
  same_action (load k x v) = λ i. load k (same_location x i) (same_value v i)
  same_action (store k x v) = λ i. store k (same_location x i) (same_value v i)
  same_action (enter o) = ap enter (same_value o)
  same_action (exit o) = ap exit (same_value o)
  same_action (create o) = ap create (same_value o)
  same_action (start o v) = λ i. start (same_value o i) (same_value v i)

  pub same_trace : (t : Trace K) → trace_image same_keys t ≡ t
  same_trace [] = refl
  same_trace (a ∷ t) = λ i. same_action a i ∷ same_trace t i

  same_start : (c : Start K) → start_image same_keys c ≡ c
  same_start (of_method m me args) = λ i. of_method m (same_value me i) (same_values args i)
  same_start (of_constructor k me args) = λ i. of_constructor k (same_value me i) (same_values args i)

  same_ending : (e : Ending K) → ending_image same_keys e ≡ e
  same_ending (gave v) = ap gave (same_value v)
  same_ending gave_nothing = refl
  same_ending (threw f) = refl

  pub turned : (W : Trace K → Trace K → Type 0) (n : ℕ) (P Q : Program K) → Q.rows ≡ P.rows → Alike same_keys W n P Q → Alike same_keys (λ u t. W t u) n Q P
  turned W n P Q rows a = record {
    injective_on_classes = λ c d e. e;
    injective_on_fields = λ f g e. e;
    keeps_kinds = λ f. sym (a.keeps_kinds f);
    ended_of_new = λ c i t e w.
        let g = a.ended_of_old c (starts c i) t e (subst (λ x. Whole P x t e) (same_start c) w) in (
          g.0,
          ending_image same_keys e,
          subst (λ x. Whole Q x g.0 (ending_image same_keys e)) (same_start c) g.1,
          sym (same_ending (ending_image same_keys e) ∙ same_ending e),
          subst (λ x. W x (trace_image same_keys g.0)) (same_trace t) (subst (W (trace_image same_keys t)) (sym (same_trace g.0)) g.2),
        );
    ended_of_old = λ c i u d w.
        let g = a.ended_of_new c (starts c i) u d (subst (λ x. Whole Q x u d) (sym (same_start c)) w) in (
          g.0,
          subst (λ x. Whole P x g.0 (ending_image same_keys d)) (sym (same_start c)) (subst (Whole P c g.0) (sym (same_ending g.1) ∙ sym g.3 ∙ sym (same_ending d)) g.2),
          subst (λ x. W x (trace_image same_keys u)) (same_trace g.0) (subst (W (trace_image same_keys g.0)) (sym (same_trace u)) g.4),
        );
    bounded_of_new = λ c i t b.
        let g = a.bounded_of_old c (starts c i) t (subst (λ x. Bounded P x t) (same_start c) b) in (
          g.0,
          g.1,
          g.2,
          subst (λ x. Bounded P x (t ++ g.0)) (sym (same_start c)) g.3,
          subst (λ x. Bounded Q x g.1) (same_start c) g.4,
          subst (λ x. W x (trace_image same_keys g.1)) (same_trace (t ++ g.0)) (subst (W (trace_image same_keys (t ++ g.0))) (sym (same_trace g.1)) g.5),
        );
    bounded_of_old = λ c i u b.
        let g = a.bounded_of_new c (starts c i) u (subst (λ x. Bounded Q x u) (sym (same_start c)) b) in (
          g.0,
          g.1,
          g.2,
          subst (λ x. Bounded Q x (u ++ g.0)) (same_start c) g.3,
          subst (λ x. Bounded P x g.1) (sym (same_start c)) g.4,
          subst (λ x. W x (trace_image same_keys (u ++ g.0))) (same_trace g.1) (subst (W (trace_image same_keys g.1)) (sym (same_trace (u ++ g.0))) g.5),
        );
  }
    where
      starts : (c : Start K) → IsStart Q.rows c → IsStart P.rows c
      starts c i = subst (λ R. IsStart R c) rows i

-- the same runs
other_way : {K : Keys} {P Q : Program K} → AlikeExactly same_keys P Q → Alike same_keys (λ u t. t ≡ u) 0 P Q
other_way a = record {
  injective_on_classes = a.injective_on_classes;
  injective_on_fields = a.injective_on_fields;
  keeps_kinds = a.keeps_kinds;
  ended_of_new = λ c i t e w. let g = a.ended_of_new c i t e w in (g.0, g.1, g.2, g.3, sym g.4);
  ended_of_old = λ c i u d w. let g = a.ended_of_old c i u d w in (g.0, g.1, sym g.2);
  bounded_of_new = λ c i t b. let g = a.bounded_of_new c i t b in (g.0, g.1, g.2, g.3, g.4, sym g.5);
  bounded_of_old = λ c i u b. let g = a.bounded_of_old c i u b in (g.0, g.1, g.2, g.3, g.4, sym g.5);
}

pub turned_exactly : {K : Keys} (P Q : Program K) → Q.rows ≡ P.rows → AlikeExactly same_keys P Q → AlikeExactly same_keys Q P
turned_exactly P Q rows a = let t = turned (λ u t. t ≡ u) 0 P Q rows (other_way a) in t
