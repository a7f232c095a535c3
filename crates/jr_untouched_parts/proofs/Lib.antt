-- Around one list that is made anew all stays. The general law is `WholeProgram: list_is_whole`, of
-- any transformation that leaves the rest (`specs/Around: LeavesRest`); no clause says it, as none
-- can quantify over transformations. Lowest first: `Effects`; `TreesStay` (trees in which each word
-- may stay, by any choices), `OneWay`, `Numbers`, `Around` (the way to the list). Words that may stay
-- where keys and rows do, in what breaks no rule: `TypesStay`, `NamesStay`, `CallsStay`, `SoundWords`.
-- `MembersStay` (members and heads by their bodies), `FilesStay` (files by their members), `Places`,
-- `WrittenOnce`, `SameKeys`, `OneFile` (what a plan tells of it). Cases: `LocalSights`, `Locals`,
-- `InOrder`; `HeldWays`, `Methods`; `Cases` (places that don't see what they saw).
pub mod Effects
pub mod TypesStay
pub mod NamesStay
pub mod CallsStay
pub mod SoundWords
pub mod TreesStay
pub mod OneWay
pub mod Numbers
pub mod Around
pub mod Places
pub mod MembersStay
pub mod FilesStay
pub mod WrittenOnce
pub mod SameKeys
pub mod OneFile
pub mod WholeProgram
pub mod LocalSights
pub mod Locals
pub mod InOrder
pub mod HeldWays
pub mod Methods
mod Cases
