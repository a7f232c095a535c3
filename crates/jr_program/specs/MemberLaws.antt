-- Laws of what is bound of written members, as statements.
use Rattle.std.specs.Prelude.{List}
use Rattle.jr_text.specs.declared.spans.Span.{Span}
use Rattle.jr_lex.specs.declared.items.Item.{Item}
use Rattle.jr_table.specs.Rows.{Row}
use Rattle.jr_members.specs.WrittenMembers.{WrittenMember}
use Rattle.jr_program.specs.declared.bounds.MemberBound.{MemberBound}
use Rattle.jr_program.specs.Members.{EachOf, CanBind, AreEachBound, AreKnown}
use Rattle.jr_program.specs.Members.{AreWrittenInOrder, AreInFileOrder}

-- where each written member is bound, all that they have is known
abbrev pub EachIsKnown : Type 0
EachIsKnown = (rows : List Row) (files : List (List Item)) (written : List (WrittenMember Span))
    (bounds : List MemberBound) → EachOf (CanBind rows files) written
    → AreEachBound rows files written bounds → AreKnown rows files written bounds

abbrev pub EachIsInOrder : Type 0
EachIsInOrder = (rows : List Row) (files : List (List Item)) (written : List (WrittenMember Span))
    (bounds : List MemberBound) → AreEachBound rows files written bounds
    → AreWrittenInOrder written → AreInFileOrder bounds
