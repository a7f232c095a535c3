-- `LastPlaces`: the last place of a name or a number. `Tracking`: one local more, one less.
-- `Looking`: the search from the end.
pub mod LastPlaces
pub mod Tracking
pub mod Looking
