-- What callers' clauses cite of the lower crates is passed on.
pub use Rattle.jr_paths_nodes.specs.NodeView
pub use Rattle.jr_paths_nodes.specs.With
pub use Rattle.jr_paths_copies.specs.Same
pub mod PathKinds
pub mod PathLent
