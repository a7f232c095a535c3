-- Lowest first. One answer: `FoundOnce`, `TakenOnce`, `WordsOnce`; for each word one thing is
-- chosen over any region: `NamesOnce`, `CallsOnce`, `TypesOnce`. Two regions: `Like`,
-- `RegionsAgree`. Trees: `OneSpot`, `OneTree`, `OneFile`. `OneDispatch`, `OneCrossing`. `Beside`:
-- programs of the same files. `DoAlike`: what a refactoring shows for `jr_plan: HasOnePlan`.
pub mod FoundOnce
pub mod TakenOnce
pub mod WordsOnce
pub mod NamesOnce
pub mod CallsOnce
pub mod TypesOnce
pub mod Like
pub mod OneSpot
pub mod OneTree
pub mod OneFile
pub mod RegionsAgree
pub mod OneDispatch
pub mod OneCrossing
pub mod Beside
pub mod DoAlike
