pub mod LocalPlaces
pub mod Heads
pub mod HeadView
pub mod LocalNamings
pub mod Paths
pub mod PlainValues
pub mod Inlines
pub mod InlineView
