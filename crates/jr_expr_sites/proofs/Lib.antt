-- `Walking`: pieces are put behind one another. `Names`: what names do. `Spotted`: expressions as
-- spots have what their trees have. `Arms`: each kind of expression from its parts. `FieldRows`: the
-- row of a field.
mod Arms
mod Names
mod Spotted
pub mod Walking
mod FieldRows
