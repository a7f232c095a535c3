-- Finished threads, and the order in which their actions came (JLS 17.4, with sequential memory).
use Rattle.std.specs.Prelude.{◌≡◌, ◌⊎◌, ℕ, zero, suc, Bool, true, false, List, [], ◌∷◌, Option, Some}
use Rattle.std.specs.Prelude.{None, unwrap_or, nat_eq}
use Rattle.jr_runs.specs.Keys.{Keys}
use Rattle.jr_runs.specs.Values.{Value, int, truth, null, text, class_object, object}
use Rattle.jr_runs.specs.Actions.{FieldKind, Location, part, shared, Action, load, store, enter}
use Rattle.jr_runs.specs.Actions.{exit, create, start, Trace}
use Rattle.jr_runs.specs.Rows.{Rows}
use Rattle.jr_runs.specs.FirstValues.{First, gives, makes, default_of}
use Rattle.jr_runs.specs.Fitting.{class_of}
use Rattle.jr_runs.specs.Core.{Program}
use Rattle.jr_runs.specs.Running.{Start, of_method, Ending, Whole}
use Rattle.jr_runs.specs.Starting.{IsStart}
use Rattle.jr_runs.specs.Reordering.{Reordered}

-- ---- threads

-- a thread that begins with a run, or that of a Thread object, which begins when it is started
pub data Thread (K : Keys) : Type 0 where
  begins : (run : Start K) → Thread K
  started : (of : Value K) → Thread K

-- What a thread runs. run: the method `run` of Thread. Of an object it is what dispatch finds.
abbrev pub Runs : {K : Keys} → Rows K → K.method → Thread K → Start K → Type 0
Runs R run (begins c) d = d ≡ c
Runs {K = K} R run (started o) d = (c : K.class) × (class_of R o ≡ Some c)
    × (d ≡ of_method (unwrap_or (R.dispatch c run) run) o [])

abbrev pub thread_at : {K : Keys} → List (Thread K) → ℕ → Option (Thread K)
thread_at [] i = None
thread_at (x ∷ xs) zero = Some x
thread_at (x ∷ xs) (suc i) = thread_at xs i

-- a thread's number, and what it did
pub record Step (K : Keys) : Type 0 where
  pub thread : ℕ
  pub action : Action K

abbrev pub if_same : {K : Keys} → Bool → Action K → Trace K → Trace K
if_same true x t = x ∷ t
if_same false x t = t

-- one thread's actions, in their order
abbrev pub part_of : {K : Keys} → ℕ → List (Step K) → Trace K
part_of i [] = []
part_of i (e ∷ h) = if_same (nat_eq i e.thread) e.action (part_of i h)

-- ---- memory: b are the steps before, the latest first

-- objects: the number of each such field's own object
abbrev pub FirstIs : {K : Keys} → First K → ℕ → Value K → Type 0
FirstIs (gives w) n v = v ≡ w
FirstIs (makes c) n v = v ≡ object n c

abbrev pub InitialIs : {K : Keys} → Rows K → (K.field → First K) → (K.field → ℕ) → Location K
    → Value K → Type 0
InitialIs R first objects (part o f) v = v ≡ default_of (R.field_type f)
InitialIs R first objects (shared f) v = FirstIs (first f) (objects f) v

-- the last store to the location stored this value; it is the initial one where there is none
abbrev pub LastIs : {K : Keys} → Rows K → (K.field → First K) → (K.field → ℕ) → List (Step K)
    → Location K → Value K → Type 0
LastIs R first objects [] at v = InitialIs R first objects at v
LastIs {K = K} R first objects (e ∷ b) at v =
    ((kind : FieldKind) × (e.action ≡ store kind at v))
    ⊎ (((kind : FieldKind) (w : Value K) → e.action ≡ store kind at w → ⊥)
    × LastIs R first objects b at v)

-- how often thread j did this
abbrev pub Counts : {K : Keys} → ℕ → Action K → List (Step K) → ℕ → Type 0
Counts j a [] n = n ≡ 0
Counts j a (e ∷ b) n =
    ((e.thread ≡ j) × (e.action ≡ a) × (m : ℕ) × (n ≡ suc m) × Counts j a b m)
    ⊎ (((e.thread ≡ j) × (e.action ≡ a) → ⊥) × Counts j a b n)

-- the number of the object that is made
abbrev pub number_of : {K : Keys} → Value K → Option ℕ
number_of (int z) = None
number_of (truth b) = None
number_of null = None
number_of (text t) = None
number_of (class_object c) = None
number_of (object n c) = Some n

abbrev pub made_number : {K : Keys} → Action K → Option ℕ
made_number (load kind at v) = None
made_number (store kind at v) = None
made_number (enter o) = None
made_number (exit o) = None
made_number (create o) = number_of o
made_number (start o v) = None

abbrev pub NoneMakes : {K : Keys} → ℕ → List (Step K) → Type 0
NoneMakes n [] = Unit {0}
NoneMakes n (e ∷ b) = (made_number e.action ≡ Some n → ⊥) × NoneMakes n b

abbrev pub NoneStarts : {K : Keys} → Value K → List (Step K) → Type 0
NoneStarts o [] = Unit {0}
NoneStarts {K = K} o (e ∷ b) = ((v : Value K) → e.action ≡ start o v → ⊥) × NoneStarts o b

abbrev pub OneStarts : {K : Keys} → Value K → List (Step K) → Type 0
OneStarts o [] = ⊥
OneStarts {K = K} o (e ∷ b) = ((v : Value K) × (e.action ≡ start o v)) ⊎ OneStarts o b

-- What is asked of a step e behind the steps b.
pub record MayCome {K : Keys} (R : Rows K) (first : K.field → First K) (objects : K.field → ℕ)
    (threads : List (Thread K)) (b : List (Step K)) (e : Step K) : Type 0 where
  -- a load gives the value of the last store, or the initial value
  pub loads : (kind : FieldKind) (at : Location K) (v : Value K) → e.action ≡ load kind at v
      → LastIs R first objects b at v
  -- a monitor is entered only where every other thread has exited it as often as entered it
  pub enters : (o : Value K) → e.action ≡ enter o → (j : ℕ) → (j ≡ e.thread → ⊥)
      → (n : ℕ) × Counts j (enter o) b n × Counts j (exit o) b n
  -- a new object is no earlier one, and no field's own
  pub is_new : (n : ℕ) → made_number e.action ≡ Some n → NoneMakes n b
  pub is_not_first : (n : ℕ) → made_number e.action ≡ Some n → (f : K.field) (c : K.class)
      → first f ≡ makes c → objects f ≡ n → ⊥
  -- a start answers that the thread was not started before exactly where no earlier one has its
  -- object
  pub starts : (o v : Value K) → e.action ≡ start o v
      → (v ≡ truth false → NoneStarts o b) × (NoneStarts o b → v ≡ truth false)
  -- a thread with an object acts only behind a start of it
  pub was_started : (o : Value K) → thread_at threads e.thread ≡ Some (started o) → OneStarts o b

abbrev pub AllMayCome : {K : Keys} → Rows K → (K.field → First K) → (K.field → ℕ)
    → List (Thread K) → List (Step K) → List (Step K) → Type 0
AllMayCome R first objects threads b [] = Unit {0}
AllMayCome R first objects threads b (e ∷ h) =
    MayCome R first objects threads b e × AllMayCome R first objects threads (e ∷ b) h

-- each step is one of these threads
abbrev pub OfThreads : {K : Keys} → List (Thread K) → List (Step K) → Type 0
OfThreads threads [] = Unit {0}
OfThreads {K = K} threads (e ∷ h) =
    ((x : Thread K) × (thread_at threads e.thread ≡ Some x)) × OfThreads threads h

-- Each thread's actions are those of a whole run, up to exchanges that the grid allows, and each
-- step may come where it comes.
pub record History {K : Keys} (P : Program K) (run : K.method) (first : K.field → First K)
    (threads : List (Thread K)) (h : List (Step K)) : Type 0 where
  pub of_threads : OfThreads threads h
  pub parts : (i : ℕ) (x : Thread K) → thread_at threads i ≡ Some x
      → (c : Start K) × Runs P.rows run x c
      × (u : Trace K) × (e : Ending K) × Whole P c u e × Reordered u (part_of i h)
  -- no two threads have one object
  pub own_objects : (i j : ℕ) (o : Value K) → thread_at threads i ≡ Some (started o)
      → thread_at threads j ≡ Some (started o) → i ≡ j
  -- the fields' own objects, one each
  pub objects : K.field → ℕ
  pub one_each : (f g : K.field) (c d : K.class) → first f ≡ makes c → first g ≡ makes d
      → objects f ≡ objects g → f ≡ g
  pub steps : AllMayCome P.rows first objects threads [] h

-- each thread is run on what fits
abbrev pub AreThreads : {K : Keys} → Program K → K.method → List (Thread K) → Type 0
AreThreads {K = K} P run threads = (i : ℕ) (x : Thread K) → thread_at threads i ≡ Some x
    → (c : Start K) × Runs P.rows run x c × IsStart P.rows c
