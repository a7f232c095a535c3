pub mod BoundNames
