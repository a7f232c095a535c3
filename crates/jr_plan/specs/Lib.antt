pub mod Transforms
pub mod Reasons
pub mod Renaming
