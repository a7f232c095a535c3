-- `Earliest`: the step from a kind of fault to the next, for all searches. Items: `DeclarationLists`,
-- `ClassParts`, `CtorLaws`, `Indexed`, `KeyLaws`. Searches, a file each: `PackageLaws`, `WordLaws`,
-- `DeclarationFaultLaws`.
pub mod DeclarationLists
pub mod Earliest
pub mod DeclarationFaultLaws
pub mod Indexed
pub mod WordLaws
pub mod PackageLaws
pub mod CtorLaws
pub mod KeyLaws
pub mod ClassParts
