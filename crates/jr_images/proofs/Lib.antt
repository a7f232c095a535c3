-- `MethodWalks`, `Imaging`: the code's sets and lists of images. `KeyImages`: what images of keys
-- and rows are of, and what keeps its name. `Forms`: forms of references. `SuitableSpelling`,
-- `IdentifierNames`, `RowNames`: a spelling suits its place, since rows' names are identifiers; so
-- each renamed text reads as its tree. `Dotted`: the words of a class's name as it is written.
-- References are kept, lowest first: `Chosen`, `Places` (rows and locals), `World` (what is known
-- of the two programs), `Rebound` (one reference, form by form), `Types`, `OneBound`, `Kept`
-- (types, one recursion over expressions), `Alongside`, `Sides` (statements), `Members`.
pub mod Forms
pub mod SuitableSpelling
pub mod Imaging
pub mod KeyImages
pub mod MethodWalks
pub mod IdentifierNames
pub mod RowNames
pub mod Dotted
pub mod Chosen
pub mod Places
pub mod World
pub mod Types
pub mod OneBound
pub mod Kept
mod Alongside
pub mod Sides
pub mod Members
pub mod Rebound
