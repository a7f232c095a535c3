pub mod MadeMethods
pub mod Extracts
pub mod Inlines
