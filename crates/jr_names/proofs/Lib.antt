-- `JoinLaws`: texts that are joined from parts.
pub mod JoinLaws
