pub mod PlacedWays
