pub mod Family
pub mod Fronts
pub mod Places
pub mod PlacesInFiles
pub mod Names
