-- `Words`: rows with one word changed. `Merging`: a row with the bits of another. `Extending`: rows
-- that steps have extended, piece by piece. `Closing`: rows that a pass leaves as they are are closed.
-- `Filled`: rows of numbers and of edges. `Telling`: closed rows tell of paths. `Lesser`: the least
-- number of some. `Outward`: a search from one node; `Finding`: it finds what paths reach.
pub mod Words
pub mod Merging
pub mod Extending
pub mod Closing
pub mod Filled
pub mod Telling
pub mod Lesser
pub mod Outward
pub mod Finding
