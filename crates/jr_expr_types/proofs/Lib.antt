-- `Leading`: in the slots of a tree what is found is the type of the node to which a path leads
-- (`Listing`, `StepLaws`); `Listed`: ends of parts that are listed; `Kept`: types that are kept.
-- `TypedExps`, `TypedMembers`: in the tree of a member that is exactly `jr_table: TypesAt.TypeAt`.
pub mod Leading
pub mod Listing
pub mod TypedExps
pub mod StepLaws
pub mod Listed
pub mod Kept
pub mod TypedMembers
