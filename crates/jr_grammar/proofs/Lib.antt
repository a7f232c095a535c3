-- `Layouts`: laws on any layout (what it stands over, which spans its marks tell, other marks).
-- `ExpressionLayouts`, `StatementLayouts`, `MemberLayouts` tie layouts to spelling;
-- `ExpressionMarks`, `StatementMarks`, `MemberMarks`, `Marked` give a tree the marks of a layout.
-- `Remarked`, `RemarkedShape`: spelling and shape don't depend on marks. `Lexical`, `Reading`,
-- `OneAnswer`: what is read is a tree of the grammar, and readings are one. `Cases`: theorems on
-- single texts. No law and no body stands on a case. Cases of the crates above cite `Cases/Forms`
-- and `Cases/Scanned`.
pub mod OneAnswer
pub mod Layouts
pub mod ExpressionLayouts
pub mod StatementLayouts
pub mod MemberLayouts
pub mod ExpressionMarks
pub mod StatementMarks
pub mod MemberMarks
pub mod Marked
pub mod Lexical
pub mod Remarked
pub mod RemarkedShape
pub mod Reading
pub mod Cases
