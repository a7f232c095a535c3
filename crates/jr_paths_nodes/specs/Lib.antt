pub mod NodeView
pub mod Seeks
pub mod With
pub mod Reaches
pub mod Lent
pub mod StmtLent
pub mod MemberLent
