pub mod ErrorView
pub mod Bounds
pub mod BoundView
pub mod BoundLogs
pub mod SuperPlaces
pub mod Programs
pub mod Targets
