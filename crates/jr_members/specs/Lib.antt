pub mod Fitting
pub mod Parts
pub mod WrittenMembers
pub mod PartView
pub mod WrittenLaws
