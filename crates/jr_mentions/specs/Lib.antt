pub mod Apart
pub mod Alike
pub mod Avoids
pub mod Lasting
pub mod ApartView
pub mod RowSteps
pub mod AvoidTests
pub mod Settling
