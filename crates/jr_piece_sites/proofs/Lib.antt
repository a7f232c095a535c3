-- `Places`: items by their numbers. `PartRows`: the parts of a piece are its children that are
-- expressions or statements; `Spotting`: on spots they are the same; `Fitting`: their places
-- fit; `Numbers`: their locals have numbers. `Leading`: paths lead from piece to piece.
-- `Counting`: how many sites steps have; `Growths`: walks one behind the other; `ExprKinds`,
-- `StmtArms`, `MemberArms`: what stands in front of a part of each kind of expression, statement
-- and member; `Descents`: the way down a path; `SpottedPaths`: paths lead on spots
-- where they lead on the tree; `Putting`: statements among the parts of a piece.
-- `WaysDown`: what stands in front on a path is what is evaluated before; `Withins`: statements
-- stand in pieces behind it; `WayPaths`: the path of a way leads where it does; `Standings`: so
-- pieces have ranges of sites. `Reaching`: what reads by paths find, for callers.
mod Places
mod PartRows
mod Spotting
mod Fitting
mod Numbers
pub mod Leading
mod Counting
mod Growths
mod StmtArms
pub mod Descents
mod SpottedPaths
mod MemberArms
mod Putting
mod ExprKinds
mod WaysDown
mod Withins
pub mod WayPaths
mod Standings
pub mod Reaching
