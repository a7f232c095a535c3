-- `Backwards`: what a map of keys with an inverse leads back, of actions, exchanges and what is asked of
-- steps. `Histories`: so of histories. `Threads`: the same declarations keep what a thread runs.
-- `BothWays`: exact likeness is symmetric, and so histories are the same both ways. `StartCases`: a history with a start, and what no history has.
pub mod Backwards
pub mod Histories
pub mod Threads
pub mod BothWays
mod StartCases
