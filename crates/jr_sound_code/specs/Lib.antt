pub mod Misfits
pub mod Laws
