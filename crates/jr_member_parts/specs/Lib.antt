pub mod ClassRows
pub mod InTheWay
pub mod MadeCalls
pub mod Heads
pub mod TwoPlaces
pub mod HeldLists
pub mod Receivers
