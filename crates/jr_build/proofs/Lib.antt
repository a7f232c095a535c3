-- `Cleaning`: no fault of any kind.
pub mod Cleaning
