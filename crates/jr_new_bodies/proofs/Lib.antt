-- Lowest first. What is gathered: `Joining` (effects one behind the other), `Returning` (what was
-- gathered since a start is taken away). Expressions: `Sorts` (a thing is not two), `Bound` (what
-- isn't broken is bound), `Choices` (something is chosen), `Naming` (classes by place), `Typed`
-- (types by path), `NewTypes` (types of what stands there now), `Spotted` (beside spots),
-- `FindingSpots` (the first of a span), `Giving` (nodes from their parts), `Readying`, `Arms`,
-- `Stepping`, `Oks` (nodes as the code sees them). Statements: `Moving` (places), `Bodying`
-- (statements from their parts, what their parts rest on, and the loop over a list), `Leaving` (a
-- statement whose front has been walked), `Limbs` (each arm as the code sees it, and the measures).
pub mod Joining
mod Returning
mod Sorts
pub mod Bound
pub mod Choices
mod Spotted
mod FindingSpots
mod Giving
mod Readying
mod Naming
mod Typed
mod NewTypes
pub mod Oks
mod Arms
mod Stepping
mod Moving
mod Bodying
mod Leaving
mod Limbs
