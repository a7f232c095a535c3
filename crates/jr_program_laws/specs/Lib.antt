pub mod FileParts
pub mod PlaceLaws
pub mod FoundTypes
