pub mod Lines
pub mod WayLines
pub mod MemberLines
pub mod Tallies
pub mod LineLaws
