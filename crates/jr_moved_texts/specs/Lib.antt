pub mod Spaces
pub mod Moved
