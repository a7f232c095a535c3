-- Where the members of a class are found: by their class and their name.
use Rattle.std.specs.Prelude.{ℕ, ◌+◌, List, Option, Some, map, length}
use Rattle.jr_index.specs.declared.linked.Linked.{Linked}
use Rattle.jr_index.specs.Linked.{AreLinkedFrom}
use Rattle.jr_table.specs.declared.entries.Entry.{Entry}
use Rattle.jr_table.specs.declared.entries.Sort.{Sort}
use Rattle.jr_table.specs.declared.entries.Sort.TheVariants as sort

-- The class that a row is found in: of a class the one around it.
abbrev pub owner_by : Sort → (class : ℕ) → (outer : Option ℕ) → Option ℕ
owner_by sort.Class class outer = outer
owner_by sort.Field class outer = Some class
owner_by sort.Method class outer = Some class
owner_by sort.Ctor class outer = Some class
owner_by sort.Local class outer = Some class

abbrev pub member_place : Entry → Option ℕ × List ℕ
member_place e = (owner_by e.sort e.class e.outer, e.name)

-- the rows are linked by their classes and names
abbrev pub LinksMembers : List Entry → Linked → Type 0
LinksMembers rows x = AreLinkedFrom (map member_place rows) (length rows + 1) 0 x
