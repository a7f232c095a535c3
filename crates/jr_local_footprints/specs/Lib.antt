pub mod Ranges
pub mod Givens
pub mod SeenPieces
pub mod LostPairs
pub mod Laws
pub mod NullTests
