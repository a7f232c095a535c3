-- By computation, but for `DependenceCases` (that there are no more) and `NeverNullCases`, by cases.
pub mod SiteCases
pub mod EdgeCases
pub mod ThrowCases
pub mod DependenceCases
pub mod NeverNullCases
pub mod WrongTurns
mod PieceCases
