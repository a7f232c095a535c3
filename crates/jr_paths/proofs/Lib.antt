-- Where a path turns: `PathKinds`, `Firsts`, `LastSteps`, `Turning`.
pub mod PathKinds
pub mod Firsts
pub mod LastSteps
pub mod Turning
