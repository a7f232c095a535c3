pub mod Sources
pub mod Fetching
pub mod Storing
pub mod Views
