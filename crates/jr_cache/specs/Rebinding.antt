-- Members that were bound before, of a program some of whose files stay.
use Rattle.std.specs.Prelude.{◌≡◌, ℕ, List, Bool, true, Some, slice_get}
use Rattle.jr_text.specs.declared.spans.Span.{Span}
use Rattle.jr_lex.specs.declared.items.Item.{Item}
use Rattle.jr_ast.specs.MemberTree as syntax
use Rattle.jr_table.specs.Rows.{Row}
use Rattle.jr_members.specs.WrittenMembers.{WrittenMember, written_members}
use Rattle.jr_program_laws.specs.FileParts.{begins}
use Rattle.jr_program.specs.declared.bounds.MemberBound.{MemberBound}
use Rattle.jr_program.specs.Members.{AreEachBound}

-- `earlier` was bound of the members of the units before, with their files' items and rows; where
-- `stays` tells so, a file has the unit and the items that it had
pub record IsRebinding (before : List Row) (rows : List Row) (files : List (List Item))
    (written : List (WrittenMember Span)) (stays : List Bool) (earlier : List MemberBound)
    : Type 0 where
  pub units : List (syntax.Unit Span)
  pub units_before : List (syntax.Unit Span)
  pub files_before : List (List Item)
  pub is : written ≡ written_members begins rows units
  pub bound : AreEachBound before files_before (written_members begins before units_before) earlier
  pub unit_stays : (file : ℕ) → slice_get stays file ≡ Some true
      → slice_get units_before file ≡ slice_get units file
  pub items_stay : (file : ℕ) → slice_get stays file ≡ Some true
      → slice_get files_before file ≡ slice_get files file
