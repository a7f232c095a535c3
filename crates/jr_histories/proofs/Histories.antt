-- Each history of the new program is one of the old program.
use Rattle.std.proofs.Common.{◌≡◌, ℕ, List, [], ◌∷◌, ◌++◌, map, Some, sym, ap, ◌∙◌, subst}
use Rattle.jr_plans.specs.Swaps.{same, chain}
use Rattle.jr_runs.specs.Keys.{Keys}
use Rattle.jr_runs.specs.Actions.{Trace}
use Rattle.jr_runs.specs.Core.{Program}
use Rattle.jr_runs.specs.Running.{Start, Ending, Whole}
use Rattle.jr_runs.specs.Reordering.{Reordered}
use Rattle.jr_runs.specs.KeyMaps.{KeyMap, Undoes, value_image, trace_image, start_image}
use Rattle.jr_runs.specs.Alike.{AlikeExactly, AlikeReordered}
use Rattle.jr_runs.specs.FirstValues.{First}
use Rattle.jr_histories.specs.Histories.{Thread, begins, started, Runs, thread_at, Step, part_of, OfThreads, History, AreThreads}
use Rattle.jr_histories.specs.Laws.{thread_image, step_image, first_image, KeepsBeginnings}
use Rattle.jr_histories.proofs.Backwards.{part_image, thread_to, thread_from, swaps_back, steps_back}

module _ {K : Keys} (r s : KeyMap K) (undoes : Undoes r s) (back : Undoes s r) (n : ℕ) (P Q : Program K) (alike : AlikeReordered r n P Q) (run run' : K.method) (first first' : K.field → First K) (keeps : KeepsBeginnings r P.rows Q.rows run run' first first')
    (threads : List (Thread K)) (are : AreThreads P run threads) where
  -- what the thread of the new program runs is the image of what it runs in the old one
  same_run : (x : Thread K) (c d : Start K) → Runs P.rows run x c → Runs Q.rows run' (thread_image r x) d → d ≡ start_image r c
  same_run (begins a) c d p q = q ∙ ap (start_image r) (sym p)
  same_run (started o) c d p q = keeps.runs o c d p q

  of_threads : (h : List (Step K)) → OfThreads (map (thread_image r) threads) (map (step_image r) h) → OfThreads threads h
  of_threads [] g = tt
  of_threads (e ∷ h) g = (thread_from r threads e.thread g.0.0 g.0.1, of_threads h g.1)

  part_back : (h : List (Step K)) (g : History Q run' first' (map (thread_image r) threads) (map (step_image r) h)) (i : ℕ) (x : Thread K) → thread_at threads i ≡ Some x
      → (c : Start K) × Runs P.rows run x c × (u : Trace K) × (e : Ending K) × Whole P c u e × Reordered u (part_of i h)
  part_back h g i x at =
      let mine = are i x at in
      let new = g.parts i (thread_image r x) (thread_to r threads i x at) in
      let is : new.0 ≡ start_image r mine.0 = same_run x mine.0 new.0 mine.1 new.1 in
      let old = alike.ended_of_new mine.0 mine.2 new.2 new.3 (subst (λ c. Whole Q c new.2 new.3) is new.4) in
      let all : Reordered (trace_image r old.0) (trace_image r (part_of i h)) =
      subst (λ t. Reordered (trace_image r old.0) t) (part_image r i h) (chain (trace_image r old.0) new.2 (part_of i (map (step_image r) h)) old.4 new.5) in
      (mine.0, mine.1, old.0, old.1, old.2, swaps_back r s undoes old.0 (part_of i h) all)

  pub histories_back : (h : List (Step K)) → History Q run' first' (map (thread_image r) threads) (map (step_image r) h) → History P run first threads h
  histories_back h g = record {
    of_threads = of_threads h g.of_threads;
    parts = part_back h g;
    own_objects = λ i j o a b. g.own_objects i j (value_image r o) (thread_to r threads i (started o) a) (thread_to r threads j (started o) b);
    objects = λ f. g.objects (r.field f);
    one_each = λ f f' c d a b e. alike.injective_on_fields f f' (g.one_each (r.field f) (r.field f') (r.class c) (r.class d) (keeps.first_value f ∙ ap (first_image r) a) (keeps.first_value f' ∙ ap (first_image r) b) e);
    steps = steps_back r s undoes P.rows Q.rows keeps.field_type first first' keeps.first_value g.objects threads [] h g.steps;
  }

pub histories_are_old : {K : Keys} (r s : KeyMap K) → Undoes r s → Undoes s r → (n : ℕ) → (P Q : Program K) → AlikeReordered r n P Q → (run run' : K.method) → (first first' : K.field → First K) → KeepsBeginnings r P.rows Q.rows run run' first first'
    → (threads : List (Thread K)) → AreThreads P run threads → (h : List (Step K)) → History Q run' first' (map (thread_image r) threads) (map (step_image r) h) → History P run first threads h
histories_are_old r s undoes back n P Q alike run run' first first' keeps threads are h g = histories_back r s undoes back n P Q alike run run' first first' keeps threads are h g

equal_swaps : {K : Keys} (u t : Trace K) → u ≡ t → Reordered u t
equal_swaps u t e = subst (λ x. Reordered u x) e (same u)

pub exact_runs_are_reordered : {K : Keys} (r : KeyMap K) (P Q : Program K) → AlikeExactly r P Q → AlikeReordered r 0 P Q
exact_runs_are_reordered r P Q a = record {
  injective_on_classes = a.injective_on_classes;
  injective_on_fields = a.injective_on_fields;
  keeps_kinds = a.keeps_kinds;
  ended_of_new = λ c i t e w. let g = a.ended_of_new c i t e w in (g.0, g.1, g.2, g.3, equal_swaps (trace_image r g.0) t g.4);
  ended_of_old = λ c i u d w. let g = a.ended_of_old c i u d w in (g.0, g.1, equal_swaps (trace_image r u) g.0 g.2);
  bounded_of_new = λ c i t b. let g = a.bounded_of_new c i t b in (g.0, g.1, g.2, g.3, g.4, equal_swaps (trace_image r g.1) (t ++ g.0) g.5);
  bounded_of_old = λ c i u b. let g = a.bounded_of_old c i u b in (g.0, g.1, g.2, g.3, g.4, equal_swaps (trace_image r (u ++ g.0)) g.1 g.5);
}
