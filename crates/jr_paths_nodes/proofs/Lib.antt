-- Reads: `Seeking`, `Walking`. Writes: `Picks` and `Puts` (one child), `PathSplits`, `Halves`,
-- `ClassHalves`, `Levels`, `Lending` (a path in halves, and what is lent once a borrow ends),
-- `ExprWrites`, `StmtWrites`, `MemberPlaces`, `MemberWrites`; `WithLaws`, `WithAgain`,
-- `WithChildren`: what a replaced child leaves as it was.
pub mod Seeking
pub mod Walking
pub mod Lending
pub mod ExprWrites
pub mod Picks
pub mod Puts
pub mod RowKinds
pub mod WithLaws
pub mod WithAgain
pub mod Levels
pub mod PathSplits
pub mod StmtWrites
pub mod WithChildren
pub mod Halves
pub mod MemberPlaces
pub mod MemberWrites
pub mod ClassHalves
