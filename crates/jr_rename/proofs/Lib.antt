-- The plan: `Answering` puts the answers together as planned or refused; `Changing`, `Naming`,
-- `LocalRows`, `Telling`: pairs, names, the tables of locals, what is known afterwards. Clashes,
-- lowest first: `Least` (the least number of what has a property, joined from parts), `Contexts`
-- (the walk's scope is that of the definition's context), `WalkLaws`, `NamedLaws` (statements),
-- `Scoping`, `Leaves` (what is in scope is declared in the member), `Params`, `Codes`, `Parts` (a
-- member), `Programs` (the member's answer is the program's), `RowLaws`, `ClashTests`; `Listing`,
-- `Loops`, `Measures` serve the code.
mod ClashTests
mod Least
mod Contexts
mod WalkLaws
mod NamedLaws
mod Scoping
mod Params
mod Leaves
mod Codes
mod Parts
mod Programs
mod RowLaws
mod Listing
mod Loops
mod Measures
mod Changing
mod Naming
mod Answering
mod LocalRows
mod Telling
