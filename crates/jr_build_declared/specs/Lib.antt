pub mod DeclaredView
pub mod Gathers
pub mod Fitting
pub mod Packages
pub mod KeyIndex
pub mod DeclarationFaults
