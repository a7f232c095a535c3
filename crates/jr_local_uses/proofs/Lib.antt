-- `Ordered`: a sort of numbers. `LocalNames`: what finds a local is no field. `Declaring`: the
-- member of a declared local. `Behind`: the names behind a declaration. `SpanRoots`: the list of a
-- body among the children of its member. `PlainSites`, `PlainBodies`: what only reads locals.
-- `Deciding`: from what stands against inline local to its refusals.
pub mod Ordered
pub mod LocalNames
pub mod Declaring
pub mod Behind
pub mod SpanRoots
pub mod PlainSites
pub mod PlainBodies
pub mod Deciding
