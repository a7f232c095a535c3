-- Places go over tokens and not over trees. A relation `Over P R` (`Holding`) says of the
-- references R of some kind of node that over any tokens P of a file each begins where one of these
-- does, and that at one place they are bound to one declaration. Of two parts one behind the other
-- it holds where it does of each, since tokens rise (`TokenOrder`). So an arm of a tree says which
-- parts of its layout have references, in order (`ExpressionsHold`, `StatementsHold`,
-- `MembersHold`, `FileHolds`, `Filling`). `FoundOnce`: each reference finds one thing. `MeansOnce`:
-- a written type means one type, so a member has one key. `Supers`, `SuperPlaces`: the first
-- `super` of a constructor's tokens. `Reaching` and the files named `..Places`: places of rules,
-- which may coincide. `FileOrder`, `PartTokens`, `MemberParts`, `PartsHave`, `ItemTokens`: files
-- and parts. Types: `RowsOfDeclarations` (each declared item has its row), `Agreeing` (classes,
-- private members, member classes and superclasses by numbers, where rows and items agree on
-- classes and superclasses; nothing else is asked, so it holds of a program whose rows aren't known
-- to be its own too), `MemberTypesFound`, `Programs`, `StandsDeclared`, `TypesFound`,
-- `DeclaredFound`.
pub mod TokenOrder
pub mod Holding
pub mod Filling
pub mod FoundOnce
pub mod ExpressionsHold
pub mod Supers
pub mod MemberParts
pub mod StatementsHold
pub mod SuperPlaces
pub mod MembersHold
pub mod ItemTokens
pub mod MeansOnce
pub mod FileHolds
pub mod Reaching
pub mod ExpressionPlaces
pub mod StatementPlaces
pub mod MemberPlaces
pub mod PartTokens
pub mod FileOrder
pub mod PartPlaces
pub mod PartsHave
pub mod RowsOfDeclarations
pub mod Agreeing
pub mod MemberTypesFound
pub mod Programs
pub mod StandsDeclared
pub mod TypesFound
pub mod DeclaredFound
