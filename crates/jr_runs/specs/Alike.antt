-- When two programs have the same runs, up to a map of keys and a relation of traces.
use Rattle.std.specs.Prelude.{◌≡◌, ◌≤◌, ℕ, ◌++◌, length}
use Rattle.jr_runs.specs.Keys.{Keys}
use Rattle.jr_runs.specs.Actions.{Trace}
use Rattle.jr_runs.specs.Core.{Program}
use Rattle.jr_runs.specs.Reordering.{Reordered}
use Rattle.jr_runs.specs.Running.{Start, Ending, Whole, Bounded}
use Rattle.jr_runs.specs.Starting.{IsStart}
use Rattle.jr_runs.specs.KeyMaps.{KeyMap, trace_image, start_image, ending_image}

-- P is the old program, Q the new one. W: from the old trace to the new one; n: by how many actions
-- a bounded run may be continued first.
pub record Alike {K : Keys} (r : KeyMap K) (W : Trace K → Trace K → Type 0) (n : ℕ)
    (P Q : Program K) : Type 0 where
  pub injective_on_classes : (c d : K.class) → r.class c ≡ r.class d → c ≡ d
  pub injective_on_fields : (f g : K.field) → r.field f ≡ r.field g → f ≡ g
  pub keeps_kinds : (f : K.field) → Q.rows.field_kind (r.field f) ≡ P.rows.field_kind f
  -- each run of Q that ended or threw comes from one of P
  pub ended_of_new : (c : Start K) → IsStart P.rows c → (t : Trace K) (e : Ending K)
      → Whole Q (start_image r c) t e
      → (u : Trace K) × (d : Ending K) × Whole P c u d × (e ≡ ending_image r d)
      × W (trace_image r u) t
  -- each run of P that ended or threw leads to one of Q
  pub ended_of_old : (c : Start K) → IsStart P.rows c → (u : Trace K) (d : Ending K) → Whole P c u d
      → (t : Trace K) × Whole Q (start_image r c) t (ending_image r d) × W (trace_image r u) t
  -- the same of bounded runs, when they have been continued
  pub bounded_of_new : (c : Start K) → IsStart P.rows c → (t : Trace K)
      → Bounded Q (start_image r c) t
      → (more : Trace K) × (u : Trace K) × (length more ≤ n)
      × Bounded Q (start_image r c) (t ++ more)
      × Bounded P c u × W (trace_image r u) (t ++ more)
  pub bounded_of_old : (c : Start K) → IsStart P.rows c → (u : Trace K) → Bounded P c u
      → (more : Trace K) × (t : Trace K) × (length more ≤ n) × Bounded P c (u ++ more)
      × Bounded Q (start_image r c) t × W (trace_image r (u ++ more)) t

-- the same runs
abbrev pub AlikeExactly : {K : Keys} → KeyMap K → Program K → Program K → Type 0
AlikeExactly r P Q = Alike r (λ u t. u ≡ t) 0 P Q

-- the same runs, up to exchanges that the reordering grid allows
abbrev pub AlikeReordered : {K : Keys} → KeyMap K → ℕ → Program K → Program K → Type 0
AlikeReordered {K = K} r n P Q = Alike r (λ (u : Trace K) (t : Trace K). Reordered u t) n P Q
