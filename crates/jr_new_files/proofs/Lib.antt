-- Files are rewritten member by member: `Ordered` (the list stands in the order of the trees, each
-- member with the key that its class declares; crates above cite it), `Assembling` (down classes, units, files),
-- `FilesRewritten` (the law).
-- One member: `Finding` (declared types and the constructor of `super(..)` find one declaration),
-- `Resting` (what a part of a member rests on, with the numbers of its parts), `Standing` (a member
-- of a program has all that), `Placing` (places), `Giving` (members from their parts).
-- Members that are spared, lowest first: `ImagesStay` (keys and scopes that are their own images),
-- `Unmoved` (no effect), `Namesakes` (what is found has the name by which it is found), `Passing`
-- (lookups of other names go over to the new rows, by `jr_mentions: LookAlike`), `AskedBinds` (the
-- asked spelling is taken), `NothingBroken` (each reference finds one declaration), of which crates
-- above cite `Namesakes`, `AskedBinds`, `NothingBroken`; by kinds
-- `WordsOfTypes`, `WordsOfNames`, `WordsOfCalls`; the walks `TreesStay`, `BodiesStay`,
-- `MembersStay`.
-- `Mapped`: what a rename chooses is what its mapping does.
-- The program, lowest first: `Gathering` (effects one behind the other), `Putting` (a member in its
-- file), `Sparing`, `Among` (members that are passed over), `Losing` (the least so far), `Whole`
-- (what is gathered is the rewriting of the program, by `files_are_rewritten`).
pub mod Ordered
mod Assembling
mod FilesRewritten
mod Giving
mod Finding
mod Resting
mod Standing
pub mod Placing
mod ImagesStay
mod Unmoved
pub mod Namesakes
mod Passing
pub mod AskedBinds
pub mod NothingBroken
mod WordsOfTypes
mod WordsOfNames
mod WordsOfCalls
mod TreesStay
mod BodiesStay
mod MembersStay
mod Mapped
mod Losing
mod Gathering
mod Putting
mod Whole
mod Sparing
mod Among
