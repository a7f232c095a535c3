pub mod Ties
pub mod Plain
pub mod Covers
pub mod Within
pub mod MemberCovers
