pub mod KeysTo
pub mod CastsAgree
pub mod TablesAgree
pub mod KeepsRuns
pub mod Laws
