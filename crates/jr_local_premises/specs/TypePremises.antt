-- How extract local writes a class as a type, by what the walk's mapping asks.
use Rattle.std.specs.Prelude.{ℕ, List}
use Rattle.jr_text.specs.declared.spans.Span.{Span}
use Rattle.jr_table.specs.Keys.{ClassKey, class}
use Rattle.jr_bind.specs.Programs.{Program}
use Rattle.jr_rewrite.specs.Respellings.{Choice}
use Rattle.jr_new_words.specs.Ways.{MakesType}
use Rattle.jr_local.specs.Selecting.{Selected}
use Rattle.jr_local.specs.Extracted.{from_there, WritesClass}
use Rattle.jr_local_walks.specs.Mappings.{moved, behind}
use Rattle.jr_local_walks.specs.Contexts.{IsLate, InOrder}
use Rattle.jr_local_walks.specs.Walked.{number, there, HasTypeRow}

-- where the local is in scope, and locals are in the order of their numbers
abbrev pub TypesAreWritten : Type 0
TypesAreWritten = (p : Program Span) (file from to : ℕ) (name : List ℕ)
    (x : Selected p file from to) (depth : ℕ) (k : ClassKey) (at : ℕ) (h : Choice)
    → HasTypeRow p file from to name x
    → InOrder p.rows (there p file from to name x).member (number p file from to name x) depth
    (IsLate (there p file from to name x).member (number p file from to name x))
    (there p file from to name x)
    → MakesType p.rows (moved p.rows (behind (number p file from to name x) name x.type depth))
    (there p file from to name x) at k h
    → WritesClass p.rows (from_there p file from to name x) (there p file from to name x) at
    (class k) h
