-- `Finding`: what a name finds that breaks no rule. `Parts`: from a body to its part. `NamesBound`:
-- what is bound at a name.
pub mod Finding
pub mod Parts
pub mod NamesBound
