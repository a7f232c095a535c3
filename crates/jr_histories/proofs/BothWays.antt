-- Programs that are exactly alike are so the other way too; so each history of either is one of the other.
use Rattle.std.proofs.Common.{◌≡◌, ℕ, zero, suc, List, [], ◌∷◌, ◌++◌, map, Option, Some, None, option_map, unwrap_or, IsTrue, refl, sym, ap, ◌∙◌, subst}
use Rattle.std.specs.Prelude.{◌↔◌}
use Rattle.jr_runs.specs.Keys.{Keys}
use Rattle.jr_runs.specs.Values.{Value}
use Rattle.jr_runs.specs.Actions.{Trace}
use Rattle.jr_runs.specs.Rows.{Rows}
use Rattle.jr_runs.specs.Core.{Program}
use Rattle.jr_runs.specs.Fitting.{class_of}
use Rattle.jr_runs.specs.Running.{Start, of_method, of_constructor, Ending, gave, gave_nothing, threw, Whole, Bounded}
use Rattle.jr_runs.specs.Starting.{IsStart}
use Rattle.jr_runs.specs.KeyMaps.{KeyMap, Undoes, value_image, type_image, trace_image, start_image, ending_image}
use Rattle.jr_runs.specs.Values.{Ty, int_type, boolean_type, reference}
use Rattle.jr_runs.specs.Images.{SameRows}
use Rattle.jr_runs.specs.Alike.{AlikeExactly}
use Rattle.jr_runs.specs.FirstValues.{First, gives, makes}
use Rattle.jr_runs.proofs.Undoing.{value_back}
use Rattle.jr_runs.proofs.Renaming.{image_append}
use Rattle.jr_runs.proofs.ImageValues.{declarations, class_of_image}
use Rattle.jr_histories.specs.Histories.{Thread, begins, started, Runs, thread_at, Step, History, AreThreads}
use Rattle.jr_histories.specs.Laws.{thread_image, step_image, first_image, KeepsBeginnings, SameHistories}
use Rattle.jr_histories.proofs.Backwards.{action_back, trace_back, thread_to, thread_from}
use Rattle.jr_histories.proofs.Histories.{histories_are_old, exact_runs_are_reordered}
use Rattle.jr_histories.proofs.Threads.{same_runs, beginnings_are_kept, found_to}

-- ---- what undoes a map of keys undoes it on all that has keys

module _ {K : Keys} (r s : KeyMap K) (u : Undoes r s) where
  type_back : (t : Ty K) → type_image s (type_image r t) ≡ t
  type_back int_type = refl
  type_back boolean_type = refl
  type_back (reference c) = ap reference (u.class c)

  first_back : (x : First K) → first_image s (first_image r x) ≡ x
  first_back (gives v) = ap gives (value_back r s u v)
  first_back (makes c) = ap makes (u.class c)

  values_back : (vs : List (Value K)) → map (value_image s) (map (value_image r) vs) ≡ vs
  values_back [] = refl
  values_back (v ∷ vs) = λ i. value_back r s u v i ∷ values_back vs i

  start_back : (c : Start K) → start_image s (start_image r c) ≡ c
  start_back (of_method m me args) = λ i. of_method (u.method m i) (value_back r s u me i) (values_back args i)
  start_back (of_constructor k me args) = λ i. of_constructor (u.constructor k i) (value_back r s u me i) (values_back args i)

  ending_back : (e : Ending K) → ending_image s (ending_image r e) ≡ e
  ending_back (gave v) = ap gave (value_back r s u v)
  ending_back gave_nothing = refl
  ending_back (threw f) = refl

  thread_back : (x : Thread K) → thread_image s (thread_image r x) ≡ x
  thread_back (begins c) = ap begins (start_back c)
  thread_back (started o) = ap started (value_back r s u o)

  threads_back : (xs : List (Thread K)) → map (thread_image s) (map (thread_image r) xs) ≡ xs
  threads_back [] = refl
  threads_back (x ∷ xs) = λ i. thread_back x i ∷ threads_back xs i

  steps_back : (h : List (Step K)) → map (step_image s) (map (step_image r) h) ≡ h
  steps_back [] = refl
  steps_back (e ∷ h) = λ i. record { thread = e.thread; action = action_back r s u e.action i } ∷ steps_back h i

-- ---- exact likeness, turned round

module _ {K : Keys} (r s : KeyMap K) (undoes : Undoes r s) (back : Undoes s r) (P Q : Program K) (alike : AlikeExactly r P Q) (starts : (c : Start K) → IsStart P.rows c ↔ IsStart Q.rows (start_image r c)) where
  -- the start of the old program
  start_old : (c : Start K) → IsStart Q.rows c → IsStart P.rows (start_image s c)
  start_old c is = (starts (start_image s c)).1 (subst (λ (d : Start K). IsStart Q.rows d) (sym (start_back s r back c)) is)

  whole_there : (c : Start K) (t : Trace K) (e : Ending K) → Whole Q (start_image r (start_image s c)) t e → Whole Q c t e
  whole_there c t e w = subst (λ (d : Start K). Whole Q d t e) (start_back s r back c) w

  bounded_there : (c : Start K) (t : Trace K) → Bounded Q (start_image r (start_image s c)) t → Bounded Q c t
  bounded_there c t w = subst (λ (d : Start K). Bounded Q d t) (start_back s r back c) w

  whole_here : (c : Start K) (t : Trace K) (e : Ending K) → Whole Q c t e → Whole Q (start_image r (start_image s c)) t e
  whole_here c t e w = subst (λ (d : Start K). Whole Q d t e) (sym (start_back s r back c)) w

  bounded_here : (c : Start K) (t : Trace K) → Bounded Q c t → Bounded Q (start_image r (start_image s c)) t
  bounded_here c t w = subst (λ (d : Start K). Bounded Q d t) (sym (start_back s r back c)) w

  -- a trace whose image is another is that one's
  trace_was : (u t : Trace K) → trace_image r u ≡ t → trace_image s t ≡ u
  trace_was u t e = ap (trace_image s) (sym e) ∙ trace_back r s undoes u

  pub turned : AlikeExactly s Q P
  turned = record {
    injective_on_classes = λ c d e. sym (back.class c) ∙ ap r.class e ∙ back.class d;
    injective_on_fields = λ f g e. sym (back.field f) ∙ ap r.field e ∙ back.field g;
    keeps_kinds = λ f. sym (alike.keeps_kinds (s.field f)) ∙ ap Q.rows.field_kind (back.field f);
    ended_of_new = λ c is t e w.
        let g = alike.ended_of_old (start_image s c) (start_old c is) t e w in
        (g.0, ending_image r e, whole_there c g.0 (ending_image r e) g.1, sym (ending_back r s undoes e), trace_was t g.0 g.2);
    ended_of_old = λ c is u d w.
        let g = alike.ended_of_new (start_image s c) (start_old c is) u d (whole_here c u d w) in
        (g.0, subst (λ (e : Ending K). Whole P (start_image s c) g.0 e) (sym (ap (ending_image s) g.3 ∙ ending_back r s undoes g.1)) g.2, trace_was g.0 u g.4);
    bounded_of_new = λ c is t w.
        let g = alike.bounded_of_old (start_image s c) (start_old c is) t w in
        (g.0, g.1, g.2, g.3, bounded_there c g.1 g.4, trace_was (t ++ g.0) g.1 g.5);
    bounded_of_old = λ c is u w.
        let g = alike.bounded_of_new (start_image s c) (start_old c is) u (bounded_here c u w) in
        (g.0, g.1, g.2, bounded_there c (u ++ g.0) g.3, g.4, trace_was g.1 (u ++ g.0) g.5);
  }

-- ---- histories

module _ {K : Keys} (r s : KeyMap K) (undoes : Undoes r s) (back : Undoes s r) (P Q : Program K) (alike : AlikeExactly r P Q) (rows : SameRows r P.rows Q.rows) (starts : (c : Start K) → IsStart P.rows c ↔ IsStart Q.rows (start_image r c))
    (run : K.method) (has : IsTrue (P.rows.has_method run)) (first first' : K.field → First K) (firsts : (f : K.field) → first' (r.field f) ≡ first_image r (first f)) where
  keeps : KeepsBeginnings r P.rows Q.rows run (r.method run) first first'
  keeps = beginnings_are_kept r P.rows Q.rows rows run has first first' firsts

  keeps_back : KeepsBeginnings s Q.rows P.rows (r.method run) run first' first
  keeps_back = record {
    field_type = λ f. sym (type_back r s undoes (P.rows.field_type (s.field f))) ∙ ap (type_image s) (sym (rows.field_type (s.field f)) ∙ ap Q.rows.field_type (back.field f));
    first_value = λ f. sym (first_back r s undoes (first (s.field f))) ∙ ap (first_image s) (sym (firsts (s.field f)) ∙ ap first' (back.field f));
    runs = λ o c d p q.
        let here : Runs Q.rows (r.method run) (started (value_image r (value_image s o))) c = subst (λ (v : Value K). Runs Q.rows (r.method run) (started v) c) (sym (value_back s r back o)) p in
        sym (start_back r s undoes d) ∙ ap (start_image s) (sym (same_runs r P.rows Q.rows rows run has (value_image s o) d c q here));
  }

  -- what a thread runs has its image, and is one
  runs_to : (x : Thread K) (c : Start K) → Runs P.rows run x c → Runs Q.rows (r.method run) (thread_image r x) (start_image r c)
  runs_to (begins a) c e = ap (start_image r) e
  runs_to (started o) c (k, is, e) = (
    r.class k,
    class_of_image r P.rows Q.rows (declarations r P.rows Q.rows rows) o ∙ ap (option_map r.class) is,
    ap (start_image r) e ∙ ap (λ (m : K.method). of_method m (value_image r o) []) (sym (ap (λ (n : Option K.method). unwrap_or n (r.method run)) (rows.dispatch k run has) ∙ found_to r P.rows Q.rows rows run (P.rows.dispatch k run))),
  )

  runs_from : (x : Thread K) (c : Start K) → Runs Q.rows (r.method run) (thread_image r x) c → (d : Start K) × Runs P.rows run x d × (c ≡ start_image r d)
  runs_from (begins a) c e = (a, refl, e)
  runs_from (started o) c (k, is, e) = by (class_of P.rows o) refl
    where
      by : (n : Option K.class) → class_of P.rows o ≡ n → (d : Start K) × Runs P.rows run (started o) d × (c ≡ start_image r d)
      by None none = absurd (let p : None ≡ Some k = sym (class_of_image r P.rows Q.rows (declarations r P.rows Q.rows rows) o ∙ ap (option_map r.class) none) ∙ is in cc)
      by (Some j) some =
          let d : Start K = of_method (unwrap_or (P.rows.dispatch j run) run) o [] in
          let runs : Runs P.rows run (started o) d = (j, some, refl) in
          (d, runs, same_runs r P.rows Q.rows rows run has o d c runs (k, is, e))

  threads_to : (threads : List (Thread K)) → AreThreads P run threads → AreThreads Q (r.method run) (map (thread_image r) threads)
  threads_to threads are i y at =
      let x = thread_from r threads i y at in
      let c = are i x.0 x.1 in
      let e : Some (thread_image r x.0) ≡ Some y = sym (thread_to r threads i x.0 x.1) ∙ at in
      let same : thread_image r x.0 ≡ y = cc in
      (start_image r c.0, subst (λ (z : Thread K). Runs Q.rows (r.method run) z (start_image r c.0)) same (runs_to x.0 c.0 c.1), (starts c.0).0 c.2)

  threads_from : (threads : List (Thread K)) → AreThreads Q (r.method run) (map (thread_image r) threads) → AreThreads P run threads
  threads_from threads are i x at =
      let c = are i (thread_image r x) (thread_to r threads i x at) in
      let d = runs_from x c.0 c.1 in
      (d.0, d.1, (starts d.0).1 (subst (λ (z : Start K). IsStart Q.rows z) d.2 c.2))

  same_histories : SameHistories r P Q run (r.method run) first first'
  same_histories = record {
    forth = λ threads are h old.
        let news = threads_to threads are in
        let there : History P run first (map (thread_image s) (map (thread_image r) threads)) (map (step_image s) (map (step_image r) h)) =
        subst (λ (xs : List (Thread K)). History P run first xs (map (step_image s) (map (step_image r) h))) (sym (threads_back r s undoes threads))
        (subst (λ (g : List (Step K)). History P run first threads g) (sym (steps_back r s undoes h)) old) in
        (news, histories_are_old s r back undoes 0 Q P (exact_runs_are_reordered s Q P (turned r s undoes back P Q alike starts)) (r.method run) run first' first keeps_back (map (thread_image r) threads) news (map (step_image r) h) there);
    back = λ threads are h new.
        let of_threads = threads_back s r back threads in
        let of_steps = steps_back s r back h in
        let olds = threads_from (map (thread_image s) threads) (subst (λ (xs : List (Thread K)). AreThreads Q (r.method run) xs) (sym of_threads) are) in
        let there : History Q (r.method run) first' (map (thread_image r) (map (thread_image s) threads)) (map (step_image r) (map (step_image s) h)) =
        subst (λ (xs : List (Thread K)). History Q (r.method run) first' xs (map (step_image r) (map (step_image s) h))) (sym of_threads)
        (subst (λ (g : List (Step K)). History Q (r.method run) first' threads g) (sym of_steps) new) in (
          map (thread_image s) threads,
          map (step_image s) h,
          sym of_threads,
          sym of_steps,
          olds,
          histories_are_old r s undoes back 0 P Q (exact_runs_are_reordered r P Q alike) run (r.method run) first first' keeps (map (thread_image s) threads) olds (map (step_image s) h) there,
        );
  }

pub exact_histories_agree : {K : Keys} (r s : KeyMap K) → Undoes r s → Undoes s r → (P Q : Program K) → AlikeExactly r P Q → SameRows r P.rows Q.rows → ((c : Start K) → IsStart P.rows c ↔ IsStart Q.rows (start_image r c))
    → (run : K.method) → IsTrue (P.rows.has_method run) → (first first' : K.field → First K) → ((f : K.field) → first' (r.field f) ≡ first_image r (first f)) → SameHistories r P Q run (r.method run) first first'
exact_histories_agree r s undoes back P Q alike rows starts run has first first' firsts = same_histories r s undoes back P Q alike rows starts run has first first' firsts
