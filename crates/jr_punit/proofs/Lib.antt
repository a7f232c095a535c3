-- `ClassSteps`: steps of the machines for members, classes and units. `UnitWalks`, `UnitParses`: the
-- loop over the items.
pub mod ClassSteps
pub mod UnitWalks
pub mod UnitParses
