pub mod Slots
pub mod Trees
pub mod SlotView
pub mod PartEnds
pub mod TypedTrees
pub mod TypedLaws
