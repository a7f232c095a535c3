pub mod Staying
pub mod Sights
pub mod Around
pub mod Locals
pub mod Methods
