-- `BodyLists` (where a body's list stands), `OneSelected`. Two programs of the same files: `Frames`
-- (bodies but for what binding knows), `OneMember`, `InMember` (two members of a file hold no one
-- span), `BodiesOnce`, `SameSites`, `CrossedOnce`. `KeptClasses`: regions tell one class of a local.
-- Extract local: `ExtractFound`, `ExtractMade`, `ExtractPlan`. Inline local: `NamedOnce` (names
-- behind a declaration that begin at one byte are one), `DeclaredOnce`, `NamingsAt` (refusals by the
-- place of the declaration alone), `InlineFound`, `Copies`, `InlineMade`, `InlinePlan`.
pub mod BodyLists
pub mod OneSelected
pub mod Frames
pub mod OneMember
pub mod InMember
pub mod BodiesOnce
pub mod SameSites
pub mod CrossedOnce
pub mod KeptClasses
pub mod ExtractFound
pub mod ExtractMade
pub mod ExtractPlan
pub mod NamedOnce
pub mod DeclaredOnce
pub mod NamingsAt
pub mod InlineFound
pub mod Copies
pub mod InlineMade
pub mod InlinePlan
