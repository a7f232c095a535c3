-- Lowest first. `Lasts`: the last of a list that has a property. `Agreeing`: two regions that agree
-- at a place choose the same there. `Kept`, `Classes`, `Numbers`: kept locals, by the walk's numbers
-- and by a region's images. `Seeing`, `Rooms`, `Left`: the mappings agree with the regions.
-- `Orders`, `Below`: along a body locals are in order. `Instead`: what is rewritten by some choices and spots
-- is rewritten so by others that follow from these; `Leading`: by a region that agrees.
-- Crates above cite `Agreeing` and `Rooms`.
mod Lasts
pub mod Agreeing
mod Kept
mod Classes
mod Numbers
mod Seeing
pub mod Rooms
mod Left
mod Orders
mod Below
mod Instead
mod Leading
pub mod Extracting
pub mod Inlining
