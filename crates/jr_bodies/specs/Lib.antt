pub mod MemberCode
pub mod CodeView
pub mod Bodies
pub mod CodedBodies
pub mod BodyLaws
pub mod Selecting
