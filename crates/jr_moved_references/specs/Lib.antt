pub mod MovedReferences
pub mod FileReferences
