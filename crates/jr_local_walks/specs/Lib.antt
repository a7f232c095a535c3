-- `Mappings`: the walk's mappings where a local comes or goes. `Contexts`: which locals are in scope.
-- `Walked`: what extract local asks follows from what a walk gathers.
pub mod Mappings
pub mod Contexts
pub mod Walked
