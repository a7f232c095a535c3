-- `Upwards`, `Climbing`, `Connected`: what stands in or below the highest class is all that
-- overriding connects. `Parting`: dispatch changes on a class exactly where it is below a method
-- that is parted, for any two programs that differ in names alone; `Asking`, `Moving`, `Rounds`,
-- `Belows`, `Lows`, `Marking`: nothing else is parted, and the walks that find it. `ImageEntries`:
-- a rename's program is such a one. `KeyedChanges`, `Telling`: numbers and keys. `KeptDispatch`.
pub mod Upwards
pub mod Climbing
pub mod Connected
pub mod Parting
pub mod Rounds
pub mod Moving
pub mod Asking
pub mod Belows
pub mod ImageEntries
pub mod KeyedChanges
pub mod Telling
pub mod Marking
pub mod Lows
pub mod KeptDispatch
