pub mod Pieces
pub mod ReferencePlaces
pub mod SpotWays
