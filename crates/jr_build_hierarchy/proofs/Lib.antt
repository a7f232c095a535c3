-- Superclasses, lowest first: `ClassNumbers`, `Nearest`, `Looks`, `MemberTypes`, `OneParent`, `Settling`,
-- `HierarchyLaws`, `Tops`, `Telling`, `Numbering`, `Rounds`, `Cycling`, `Unparented`.
pub mod ClassNumbers
pub mod Nearest
pub mod Looks
pub mod MemberTypes
pub mod OneParent
pub mod Settling
pub mod HierarchyLaws
pub mod Telling
pub mod Tops
pub mod Numbering
pub mod Rounds
pub mod Cycling
pub mod Unparented
