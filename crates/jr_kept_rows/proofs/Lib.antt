-- Lowest first. `Heads`: where a refactoring leaves keys and rows, what is chosen for the words of
-- heads is that they stay, since they may stay and one thing is chosen; so heads of classes and
-- members, and initializers of fields, are rewritten to themselves. `BareTrees`, `SameClasses`,
-- `SameItems`, `ItemsBeside`, `RowsBeside`: trees that stand side by side and declare the same have
-- the same rows, wherever they stand (as jr_rename_laws has it of the images of a renaming).
-- `FilesBeside`: so do the files. `SameRows`, `SameFirsts`, `SamePrograms`: rows and first values.
-- `Locals`: the cases of extract and inline local.
pub mod Heads
pub mod BareTrees
pub mod SameClasses
pub mod SameItems
pub mod ItemsBeside
pub mod RowsBeside
pub mod FilesBeside
pub mod SameRows
pub mod SameFirsts
pub mod SamePrograms
pub mod Locals
