pub mod Begun
pub mod Descending
pub mod ElementPlaces
pub mod PieceSites
pub mod Answers
