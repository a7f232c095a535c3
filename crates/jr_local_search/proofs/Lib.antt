-- `Walks`: the walk over declarations: rows of them, statements and lists. `Declaring`: names,
-- numbers and ways of declarations. `Descents`: the way down a path. `Paths`: a path leads to one
-- expression alone. `NameRows`: names in a list. `FirstNamed`: the first local of a name.
-- `PlaceCases`: what stands against a step.
pub mod Walks
pub mod Declaring
pub mod Descents
pub mod Paths
pub mod NameRows
pub mod FirstNamed
pub mod PlaceCases
