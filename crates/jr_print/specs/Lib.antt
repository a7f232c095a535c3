pub mod ExpressionText
pub mod StatementText
pub mod MemberText
pub mod Starts
pub mod ReadsBack
pub mod Adds
