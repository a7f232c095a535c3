pub mod Samples
pub mod SiteCases
pub mod EdgeCases
pub mod ThrowCases
pub mod DependenceCases
pub mod NeverNullCases
pub mod WrongTurns
