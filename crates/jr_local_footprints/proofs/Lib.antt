-- On spots: `SpottedWays` (ways), `HeldLists` (where the nearest element of a way stands), `Roots` (where
-- a body's list does). Known by spans and by spots: `BodyTokens` (tokens of a body), `WordsRise`
-- (numbers of locals), `BodyCasts`; so `SeenBodies`. `PlacesBehind`: sites stand in the member.
-- `Pairs`: from sites to lost pairs. `FootprintsSeen`: footprints. `ClassNames`, `Evaluated`: what is used
-- for its value is evaluated. Never null: `Declared` (initializers of locals in the order of their
-- numbers), `Assigns`, `AssignsBack` (which locals are assigned), `SuperArgs` (not those of a body, in
-- arguments of `super(..)`), `Flags` (flags that are made alike); so `OwnFlags`. `WorkedPairs`: examples.
pub mod SpottedWays
pub mod HeldLists
pub mod Roots
pub mod BodyTokens
pub mod WordsRise
pub mod BodyCasts
pub mod SeenBodies
pub mod PlacesBehind
pub mod Pairs
pub mod FootprintsSeen
pub mod ClassNames
pub mod Evaluated
pub mod Declared
pub mod Assigns
pub mod AssignsBack
pub mod Flags
pub mod SuperArgs
pub mod OwnFlags
mod WorkedPairs
