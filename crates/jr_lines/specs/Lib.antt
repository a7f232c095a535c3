pub mod Lines
pub mod LineView
pub mod MemberLines
pub mod LineLaws
