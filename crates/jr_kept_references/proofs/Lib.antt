-- Lowest first: `RegionWorlds` (what is known of the two programs at a place), `RegionTypes`
-- (written types), `RegionKept` (references of one node), `RegionExpressions` (one recursion over
-- expressions), `RegionAlong`, `RegionStatements`, `RegionMembers` (old and new trees side by
-- side). `MadeReferences`: what a refactoring makes. `OnReceivers`: where a local stands for
-- `this`. `Renamed`, `RenamedPlaces`: a rename as the case of one region. `RegionCases`: a region in
-- which a local is gone.
pub mod RegionWorlds
pub mod RegionTypes
pub mod RegionKept
pub mod RegionExpressions
pub mod RegionAlong
pub mod RegionStatements
pub mod RegionMembers
pub mod MadeReferences
pub mod Renamed
pub mod RenamedPlaces
pub mod OnReceivers
pub mod RegionCases
