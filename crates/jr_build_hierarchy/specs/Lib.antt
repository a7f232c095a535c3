pub mod Hierarchies
pub mod HierarchyView
pub mod Superclasses
