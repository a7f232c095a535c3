-- Where things stand among a file's tokens: `StandingParts` (parts of a body), `StandingBodies` (bodies
-- of a file), `InlineParts` (a declaration and its reads). Texts: `PrintedTypes`, `NamedTypes`, `Declarations`,
-- `LineEnds`. Spots: `ExtractSpots`, `ExtractLists`, `InlineSpots`, `InlineLists`. Shapes:
-- `ShapedBodies`, `ValueShapes`. All together: `KeptNames`, `Fronts`, `ExtractFit`, `InlineFit`,
-- `Fitting` (with `Fronts: is_fit`, for `plans_read`). That spots are used and apart: `Used`.
pub mod StandingParts
pub mod StandingBodies
pub mod PrintedTypes
pub mod NamedTypes
pub mod LineEnds
pub mod ExtractSpots
pub mod Declarations
pub mod KeptNames
pub mod ExtractLists
pub mod InlineParts
pub mod InlineSpots
pub mod InlineLists
pub mod ValueShapes
pub mod ShapedBodies
pub mod ExtractFit
pub mod InlineFit
pub mod Fronts
pub mod Used
pub mod Fitting
