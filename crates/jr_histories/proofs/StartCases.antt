-- `static int f; static int main(Thread t) { t.start(); return f; }`, and a thread whose `run` is `f = 1;`: a history in which the
-- thread is started, writes, and is read. And a monitor that is entered while another thread is in it, in no history.
use Rattle.std.proofs.Common.{◌≡◌, ◌⊎◌, ℕ, zero, suc, false, List, [], ◌∷◌, Some, None, pos, refl, sym, ap, ◌∙◌, subst, inl, inr, ⊎_elim}
use Rattle.jr_plans.specs.Swaps.{same}
use Rattle.jr_runs.specs.Values.{Value, int, truth, null, object}
use Rattle.jr_runs.specs.Actions.{FieldKind, plain, Location, shared, Action, load, store, enter, exit, create, start, Trace}
use Rattle.jr_runs.specs.Arithmetic.{value}
use Rattle.jr_runs.specs.Core.{read, assign, instance_call, static_field, eval, return, starts, written, Program}
use Rattle.jr_runs.specs.Evaluation.{goes_on, returns}
use Rattle.jr_runs.specs.Running.{Start, of_method, Ending, gave, gave_nothing, Whole}
use Rattle.jr_runs.specs.Reordering.{Reordered}
use Rattle.jr_runs.proofs.Sample.{K, rows, program, code, number, num, var, args_of}
use Rattle.jr_histories.specs.Histories.{Thread, begins, started, Runs, thread_at, Step, part_of, Counts, MayCome, History}
use Rattle.jr_runs.specs.FirstValues.{First, gives, makes}

-- method 1 is `run` of Thread, and method 2 its `start`
abbrev P : Program K
P = program
    (written (code 1 (eval None (instance_call None (var 0) 2 (args_of [])) ∷ return None (read None (static_field None 5)) ∷ []))
    ∷ written (code 0 (eval None (assign None (static_field None 5) (num (pos 1))) ∷ [])) ∷ starts ∷ []) []

-- a Thread
abbrev worker : Value K
worker = object 1 3

abbrev main : Thread K
main = begins (of_method 0 null (worker ∷ []))

abbrev threads : List (Thread K)
threads = main ∷ started worker ∷ []

abbrev first : ℕ → First K
first f = gives (number 0)

abbrev does : ℕ → Action K → Step K
does i a = record { thread = i; action = a }

abbrev is_started : Step K
is_started = does 0 (start worker (truth false))

abbrev writes : Step K
writes = does 1 (store plain (shared 5) (number 1))

abbrev reads : Step K
reads = does 0 (load plain (shared 5) (number 1))

abbrev steps : List (Step K)
steps = is_started ∷ writes ∷ reads ∷ []

-- ---- what the threads run

main_runs : Whole P (of_method 0 null (worker ∷ [])) (start worker (truth false) ∷ load plain (shared 5) (number 1) ∷ []) (gave (number 1))
main_runs = record { answers = truth false ∷ number 1 ∷ []; fuel = 2; out = value (returns (Some (number 1))); trace_is = refl; end_is = refl; ending_is = refl }

thread_runs : Whole P (of_method 1 worker []) (store plain (shared 5) (number 1) ∷ []) gave_nothing
thread_runs = record { answers = []; fuel = 1; out = value (goes_on []); trace_is = refl; end_is = refl; ending_is = refl }

-- ---- other actions and other threads

abbrev thread_in : Thread K → Value K
thread_in (begins c) = null
thread_in (started o) = o

no_thread : {A : Type 0} (x : Thread K) → None ≡ Some x → A
no_thread x e = absurd (apart e)
  where
    apart : None ≡ Some x → ⊥
    apart i = cc

main_is_not_started : {A : Type 0} (o : Value K) → Some main ≡ Some (started o) → A
main_is_not_started o e = absurd (apart e)
  where
    apart : Some main ≡ Some (started o) → ⊥
    apart i = cc

one_thread : (x y : Thread K) → Some x ≡ Some y → x ≡ y
one_thread x y e = cc

abbrev Part : ℕ → Thread K → Type 0
Part i x = (c : Start K) × Runs rows 1 x c × (u : Trace K) × (e : Ending K) × Whole P c u e × Reordered u (part_of i steps)

main_part : Part 0 main
main_part = (of_method 0 null (worker ∷ []), refl, start worker (truth false) ∷ load plain (shared 5) (number 1) ∷ [], gave (number 1), main_runs, same (start worker (truth false) ∷ load plain (shared 5) (number 1) ∷ []))

thread_part : Part 1 (started worker)
thread_part = (of_method 1 worker [], (3, refl, refl), store plain (shared 5) (number 1) ∷ [], gave_nothing, thread_runs, same (store plain (shared 5) (number 1) ∷ []))

parts : (i : ℕ) (x : Thread K) → thread_at threads i ≡ Some x → Part i x
parts zero x e = subst (Part 0) (one_thread main x e) main_part
parts (suc zero) x e = subst (Part 1) (one_thread (started worker) x e) thread_part
parts (suc (suc i)) x e = no_thread x e

own_objects : (i j : ℕ) (o : Value K) → thread_at threads i ≡ Some (started o) → thread_at threads j ≡ Some (started o) → i ≡ j
own_objects zero j o e d = main_is_not_started o e
own_objects (suc zero) zero o e d = main_is_not_started o d
own_objects (suc zero) (suc zero) o e d = refl
own_objects (suc zero) (suc (suc j)) o e d = no_thread (started o) d
own_objects (suc (suc i)) j o e d = no_thread (started o) e

-- ---- each step may come

no_start_loads : {A : Type 0} (o v w : Value K) (k : FieldKind) (at : Location K) → start o v ≡ load k at w → A
no_start_loads o v w k at e = absurd (apart e)
  where
    apart : start o v ≡ load k at w → ⊥
    apart i = cc

no_start_enters : {A : Type 0} (o v w : Value K) → start o v ≡ enter w → A
no_start_enters o v w e = absurd (apart e)
  where
    apart : start o v ≡ enter w → ⊥
    apart i = cc

none_made : {A : Type 0} (n : ℕ) → None ≡ Some n → A
none_made n e = absurd (apart e)
  where
    apart : None ≡ Some n → ⊥
    apart i = cc

no_store_loads : {A : Type 0} (at at' : Location K) (v w : Value K) (k : FieldKind) → store plain at v ≡ load k at' w → A
no_store_loads at at' v w k e = absurd (apart e)
  where
    apart : store plain at v ≡ load k at' w → ⊥
    apart i = cc

no_store_enters : {A : Type 0} (at : Location K) (v w : Value K) → store plain at v ≡ enter w → A
no_store_enters at v w e = absurd (apart e)
  where
    apart : store plain at v ≡ enter w → ⊥
    apart i = cc

no_store_starts : {A : Type 0} (at : Location K) (v o w : Value K) → store plain at v ≡ start o w → A
no_store_starts at v o w e = absurd (apart e)
  where
    apart : store plain at v ≡ start o w → ⊥
    apart i = cc

no_load_enters : {A : Type 0} (at : Location K) (v w : Value K) → load plain at v ≡ enter w → A
no_load_enters at v w e = absurd (apart e)
  where
    apart : load plain at v ≡ enter w → ⊥
    apart i = cc

no_load_starts : {A : Type 0} (at : Location K) (v o w : Value K) → load plain at v ≡ start o w → A
no_load_starts at v o w e = absurd (apart e)
  where
    apart : load plain at v ≡ start o w → ⊥
    apart i = cc

abbrev answer_in : Action K → Value K
answer_in (load k at v) = v
answer_in (store k at v) = v
answer_in (enter o) = o
answer_in (exit o) = o
answer_in (create o) = o
answer_in (start o v) = v

abbrev place_in : Action K → Location K
place_in (load k at v) = at
place_in (store k at v) = at
place_in (enter o) = shared 0
place_in (exit o) = shared 0
place_in (create o) = shared 0
place_in (start o v) = shared 0

start_comes : MayCome rows first (λ f. 0) threads [] is_started
start_comes = record {
  loads = λ k at v e. no_start_loads worker (truth false) v k at e;
  enters = λ o e j d. no_start_enters worker (truth false) o e;
  is_new = λ n e. none_made n e;
  is_not_first = λ n e f c. none_made n e;
  starts = λ o v e. ((λ i. tt), (λ i. sym (ap answer_in e)));
  was_started = λ o e. main_is_not_started o e;
}

write_comes : MayCome rows first (λ f. 0) threads (is_started ∷ []) writes
write_comes = record {
  loads = λ k at v e. no_store_loads (shared 5) at (number 1) v k e;
  enters = λ o e j d. no_store_enters (shared 5) (number 1) o e;
  is_new = λ n e. none_made n e;
  is_not_first = λ n e f c. none_made n e;
  starts = λ o v e. no_store_starts (shared 5) (number 1) o v e;
  was_started = λ o e. inl (truth false, ap (λ x. start (thread_in x) (truth false)) (one_thread (started worker) (started o) e));
}

-- it reads what was written last
read_comes : MayCome rows first (λ f. 0) threads (writes ∷ is_started ∷ []) reads
read_comes = record {
  loads = λ k at v e. inl (plain, ap (λ a. store plain (place_in a) (answer_in a)) e);
  enters = λ o e j d. no_load_enters (shared 5) (number 1) o e;
  is_new = λ n e. none_made n e;
  is_not_first = λ n e f c. none_made n e;
  starts = λ o v e. no_load_starts (shared 5) (number 1) o v e;
  was_started = λ o e. main_is_not_started o e;
}

none_is_made : {A : Type 0} (v : Value K) (c : ℕ) → gives v ≡ makes c → A
none_is_made v c e = absurd (apart e)
  where
    apart : gives v ≡ makes c → ⊥
    apart i = cc

started_thread_is_read : History P 1 first threads steps
started_thread_is_read = record {
  of_threads = ((main, refl), ((started worker, refl), ((main, refl), tt)));
  parts = parts;
  own_objects = own_objects;
  objects = λ f. 0;
  one_each = λ f g c d e. none_is_made (number 0) c e;
  steps = (start_comes, (write_comes, (read_comes, tt)));
}

-- ---- what may not come

-- the initial value, behind a store of another
no_old_value : MayCome rows first (λ f. 0) threads (writes ∷ is_started ∷ []) (does 0 (load plain (shared 5) (number 0))) → ⊥
no_old_value m = ⊎_elim (λ d. apart d.1) (λ d. d.0 plain (number 1) refl) (m.loads plain (shared 5) (number 0) refl)
  where
    apart : {k : FieldKind} → store plain (shared 5) (number 1) ≡ store k (shared 5) (number 0) → ⊥
    apart e = other (ap answer_in e)
      where
        other : number 1 ≡ number 0 → ⊥
        other i = cc

-- a thread that wasn't started
no_thread_unasked : MayCome rows first (λ f. 0) threads [] writes → ⊥
no_thread_unasked m = m.was_started worker refl

-- a monitor in which another thread is: it has entered it once, and never exited it
no_second_entry : MayCome rows first (λ f. 0) threads (does 0 (enter worker) ∷ []) (does 1 (enter worker)) → ⊥
no_second_entry m =
    let d = m.enters worker refl 0 (λ e. zero_is_not_one e) in
    let one : d.0 ≡ 1 = ⊎_elim (λ i. i.3 ∙ ap suc i.4) (λ i. absurd (i.0 (refl, refl))) d.1 in
    let none : d.0 ≡ 0 = ⊎_elim (λ i. absurd (no_exit i.1)) (λ i. i.1) d.2 in
    zero_is_not_one (sym none ∙ one)
  where
    zero_is_not_one : ◌≡◌ {A = ℕ} 0 1 → ⊥
    zero_is_not_one e = cc

    no_exit : enter worker ≡ exit worker → ⊥
    no_exit e = cc

-- with one exit it may come
second_entry_behind_the_exit : (j : ℕ) → (j ≡ 1 → ⊥) → (n : ℕ) × Counts j (enter worker) (does 0 (exit worker) ∷ does 0 (enter worker) ∷ []) n × Counts j (exit worker) (does 0 (exit worker) ∷ does 0 (enter worker) ∷ []) n
second_entry_behind_the_exit zero d = (
  1,
  inr ((λ i. no_enter i.1), inl (refl, refl, 0, refl, refl)),
  inl (refl, refl, 0, refl, inr ((λ i. no_exit i.1), refl)),
)
  where
    no_enter : exit worker ≡ enter worker → ⊥
    no_enter e = cc

    no_exit : enter worker ≡ exit worker → ⊥
    no_exit e = cc
second_entry_behind_the_exit (suc j) d = (
  0,
  inr ((λ i. other i.0), inr ((λ i. other i.0), refl)),
  inr ((λ i. other i.0), inr ((λ i. other i.0), refl)),
)
  where
    other : 0 ≡ suc j → ⊥
    other e = cc
