-- `Adding`, `MemberSums`: lines of members, one behind the other. `LineOrder`, `OneOrder`: the
-- order of lines, and that it leaves one list.
pub mod LineOrder
pub mod Adding
pub mod MemberSums
pub mod OneOrder
