-- `Adding`: a log that has more. `Naming`, `Meant`, `Noted`, `Rowing`, `Abouting`, `Showing`,
-- `Scoped`, `Lasts`, `Numbers`, `TypeTests`: the answers of each arm by the exact functions of
-- jr_table. `Steps`, `Oks`: arms as the code sees them. `TypedParts`, `TypedKinds`: slots, parts
-- behind one another and types by kinds.
pub mod Lasts
pub mod Scoped
pub mod Numbers
pub mod TypeTests
pub mod Abouting
pub mod Adding
pub mod Naming
pub mod Showing
pub mod Rowing
pub mod Meant
pub mod Noted
pub mod Steps
pub mod Oks
pub mod TypedParts
pub mod TypedKinds
