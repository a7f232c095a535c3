pub mod Targets
pub mod WrittenTypes
pub mod Texts
pub mod Walked
