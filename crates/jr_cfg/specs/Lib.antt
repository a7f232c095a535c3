pub mod Numbering
pub mod Seen
pub mod Placed
pub mod SiteSteps
pub mod StatementRoutes
pub mod MemberRoutes
pub mod Graphs
