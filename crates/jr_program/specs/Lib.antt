pub mod Tokens
pub mod Members
pub mod Binding
pub mod MemberLaws
