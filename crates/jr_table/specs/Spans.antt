-- The tree of classes, numbered on entry and exit.
use Rattle.std.specs.Prelude.{
  ◌≡◌,
  ℕ,
  ◌+◌,
  ◌<◌,
  ◌≤◌,
  List,
  Option,
  Some,
  None,
  length,
  unwrap_or,
  option_and_then,
  slice_get,
  ◌↔◌,
}
use Rattle.jr_table.specs.declared.entries.Entry.{Entry}
use Rattle.jr_table.specs.declared.numbered.Numbered.{Numbered}
use Rattle.jr_table.specs.declared.spans.Spans.{Spans}
use Rattle.jr_table.specs.Chains.{parent_of, IsSubclassAt}

-- each superclass has a row
abbrev pub ParentsStand : List Entry → Type 0
ParentsStand rows = (c p : ℕ) → parent_of rows c ≡ Some p → p < length rows

abbrev pub enter_of : Numbered → ℕ → ℕ
enter_of x c = unwrap_or (slice_get x.enter.items c) 0

abbrev pub exit_of : Numbered → ℕ → ℕ
exit_of x c = unwrap_or (slice_get x.exit.items c) 0

-- the one before with the same superclass
abbrev pub before_of : Numbered → ℕ → Option ℕ
before_of x c = option_and_then (λ (o : Option ℕ). o) (slice_get x.before.items c)

-- What is tested of each row: it is entered before it is left, right behind its superclass or where
-- the one before it is left, and it is left before its superclass is.
pub record Fits (rows : List Entry) (x : Numbered) (c : ℕ) : Type 0 where
  pub opens : enter_of x c < exit_of x c
  pub placed : slice_get x.order.items (enter_of x c) ≡ Some c
  pub inside : (p : ℕ) → parent_of rows c ≡ Some p
      → (enter_of x p < enter_of x c) × (exit_of x c ≤ exit_of x p)
  pub first : before_of x c ≡ None → (p : ℕ) → parent_of rows c ≡ Some p
      → enter_of x c ≡ enter_of x p + 1
  pub root : before_of x c ≡ None → parent_of rows c ≡ None → enter_of x c ≡ 0
  pub behind : (s : ℕ) → before_of x c ≡ Some s
      → (s < length rows) × (parent_of rows s ≡ parent_of rows c) × (exit_of x s ≡ enter_of x c)

pub record AreNumbered (rows : List Entry) (x : Numbered) : Type 0 where
  pub each : (c : ℕ) → c < length rows → Fits rows x c
  pub entered : length x.enter.items ≡ length rows
  pub left : length x.exit.items ≡ length rows

-- where two rows are numbered, the one is within the other exactly where it is below it
abbrev pub AreSpans : List Entry → Spans → Type 0
AreSpans rows x = (c d a b e : ℕ) → slice_get x.enter.items c ≡ Some a
    → slice_get x.enter.items d ≡ Some b → slice_get x.exit.items d ≡ Some e
    → ((b ≤ a) × (a < e)) ↔ IsSubclassAt rows c d
