-- What is kept of runs, of first values, and so of what several threads do, whatever becomes of
-- keys.
use Rattle.std.specs.Prelude.{◌≡◌, ℕ, List, codes}
use Rattle.jr_ast.specs.MemberTree as syntax
use Rattle.jr_runs.specs.Core as core
use Rattle.jr_runs.specs.KeyMaps.{KeyMap}
use Rattle.jr_runs.specs.Alike.{AlikeExactly}
use Rattle.jr_runs.specs.FirstValues.{First}
use Rattle.jr_histories.specs.Laws.{first_image, SameHistories}
use Rattle.jr_table.specs.Keys.{FieldKey, MethodKey}
use Rattle.jr_table.specs.Decls.{MemberKey}
use Rattle.jr_table.specs.Rows.{Row}
use Rattle.jr_table.specs.Prelude.{thread_key}
use Rattle.jr_code.specs.RunKeys.{RunKeys}
use Rattle.jr_code.specs.CodedFields.{AreFirstValues}
use Rattle.jr_code.specs.Exchanged.{exchanged}
use Rattle.jr_code.specs.Programs.{IsCodeOf}

-- sources as runs see them: `begins`, `ends` and `super_at` as in `IsCodeOf`
pub record Sources (A : Type 0) : Type 0 where
  pub begins : A → ℕ → ℕ
  pub ends : A → ℕ → ℕ
  pub rows : List Row
  pub super_at : MemberKey → ℕ
  pub units : List (syntax.Unit A)

-- they are the resolved program P
abbrev pub AreCode : {A : Type 0} → Sources A → core.Program RunKeys → Type 0
AreCode s P = IsCodeOf s.begins s.ends s.rows s.super_at s.units P

-- Whatever resolved programs they are: each method and constructor of the old ones, on a receiver
-- and arguments of its types, has in the new ones exactly the images of its runs, whole ones with
-- the same end and bounded ones, both ways.
abbrev pub KeepsRuns : {A B : Type 0} → (to : KeyMap RunKeys) → Sources A → Sources B → Type 0
KeepsRuns to s t = (P Q : core.Program RunKeys) → AreCode s P → AreCode t Q
    → AlikeExactly (exchanged to s.rows) P Q

-- its static fields begin with this
abbrev pub AreFirsts : {A : Type 0} → Sources A → core.Program RunKeys → (FieldKey → First RunKeys)
    → Type 0
AreFirsts s P first = AreFirstValues s.begins s.rows s.units P.rows first

-- Whatever resolved programs they are, and whatever static fields begin with: each field's image
-- begins in the new ones with the image of what the field begins with in the old ones.
abbrev pub KeepsFirstValues : {A B : Type 0} → (to : KeyMap RunKeys) → Sources A → Sources B
    → Type 0
KeepsFirstValues to s t = (P Q : core.Program RunKeys) → AreCode s P → AreCode t Q
    → (first first' : FieldKey → First RunKeys) → AreFirsts s P first → AreFirsts t Q first'
    → (k : FieldKey) → first' ((exchanged to s.rows).field k)
    ≡ first_image (exchanged to s.rows) (first k)

-- what a started thread runs, where its class doesn't override it
abbrev pub thread_run : MethodKey
thread_run = thread_key (codes "run")

-- And so each history of threads that are run on what fits, begun by the program or started by one
-- another, has its image in the new ones, and each of the new ones is the image of one of the old
-- ones: loads, stores, monitors, new objects and starts of all threads, in one order.
abbrev pub KeepsHistories : {A B : Type 0} → (to : KeyMap RunKeys) → Sources A → Sources B → Type 0
KeepsHistories to s t = (P Q : core.Program RunKeys) → AreCode s P → AreCode t Q
    → (first first' : FieldKey → First RunKeys) → AreFirsts s P first → AreFirsts t Q first'
    → SameHistories (exchanged to s.rows) P Q thread_run thread_run first first'
