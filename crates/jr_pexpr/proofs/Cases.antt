pub mod Forms
pub mod Stops
pub mod Refused
pub mod StatementExpressions
