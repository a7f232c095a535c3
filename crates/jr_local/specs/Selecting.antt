-- What extract local finds, and why it is refused by itself: that of `jr_bodies`.
use Rattle.std.specs.Prelude.{ℕ, Option, List}
use Rattle.jr_text.specs.declared.spans.Span.{Span}
use Rattle.jr_table.specs.Scope.{ScopeLocal}
use Rattle.jr_names.specs.Refusals.{Refusal}
use Rattle.jr_bind.specs.Programs.{Program}
use Rattle.jr_pieces.specs.Standings.{Standing}
use Rattle.jr_pieces.specs.Nearest.{Element}
use Rattle.jr_bodies.specs.Selecting as selecting

abbrev pub Selected : (p : Program Span) (file from to : ℕ) → Type 0
Selected = selecting.Selected

abbrev pub RefusesExtract : (p : Program Span) (file from to : ℕ) (name : List ℕ) → Refusal
    → Type 0
RefusesExtract = selecting.RefusesExtract

module _ {p : Program Span} {file from to : ℕ} where
  abbrev pub at_value : Selected p file from to → Standing
  at_value x = selecting.at_value x

  abbrev pub element : (x : Selected p file from to) → Element x.value
  element x = selecting.element x

  abbrev pub bar : Selected p file from to → Option ℕ
  bar x = selecting.bar x

  abbrev pub taken : Selected p file from to → List ScopeLocal
  taken x = selecting.taken x

abbrev pub IsFree : (p : Program Span) (file from to : ℕ) (name : List ℕ) → Selected p file from to
    → Type 0
IsFree = selecting.IsFree
