pub mod Forms
pub mod ListStops
pub mod MemberStops
pub mod UnitStops
pub mod NoStatements
pub mod NoUnit
pub mod Bytes
