pub mod Highest
pub mod Changes
pub mod Moves
pub mod Keys
pub mod Told
pub mod Kept
