pub mod References
pub mod ReferenceView
pub mod Spellings
pub mod Binds
pub mod Taken
pub mod Rebound
