-- The programs, each in a file of its own: its tree, and what is computed of it.
pub mod VolatileFlag
pub mod Overflow
pub mod ZeroDivisor
pub mod NullReceiver
pub mod CountedLoop
pub mod Monitor
pub mod Dispatch
pub mod Initializers
pub mod FirstValues
pub mod Literals
pub mod SecondStart
pub mod Bumps
pub mod FailedCast
pub mod HandedOver
