-- What a table keeps.
use Rattle.std.specs.Prelude.{◌≡◌, List}
use Rattle.jr_index.specs.declared.linked.Linked.{Linked}
use Rattle.jr_table.specs.declared.class_index.ClassIndex.{ClassIndex}
use Rattle.jr_table.specs.declared.entries.Entry.{Entry}
use Rattle.jr_table.specs.declared.spans.Spans.{Spans}
use Rattle.jr_table.specs.Rows.{Row}
use Rattle.jr_table.specs.Entries.{entries_of}
use Rattle.jr_table.specs.Conditions.{AreRows}
use Rattle.jr_table.specs.ClassIndex.{FindsClasses}
use Rattle.jr_table.specs.MemberIndex.{LinksMembers}
use Rattle.jr_table.specs.Spans.{AreSpans}

pub record Keeps (rows : List Row) (entries : List Entry) (classes : ClassIndex)
    (members : Linked) (spans : Spans) : Type 0 where
  pub numbered : entries ≡ entries_of rows
  pub are : AreRows rows
  pub found : FindsClasses rows classes
  pub linked : LinksMembers entries members
  pub spanned : AreSpans entries spans
