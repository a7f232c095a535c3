pub mod Words
pub mod ProgramTargets
pub mod Searches
pub mod Names
pub mod Listed
pub mod TargetLaws
