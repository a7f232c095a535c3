pub mod Held
pub mod Footprint
pub mod Places
pub mod Laws
