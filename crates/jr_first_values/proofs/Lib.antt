-- `Forms`: the forms of an initializer that has a value, and the value. `FieldsReached`: each field that
-- has a row is written. `WrittenFirsts`: what is said of all fields of a tree is said of each that is
-- written, and back. `FirstValues`: which fields begin with what is written, that there are such values,
-- and that they are one. `WrongTurns`: cases.
pub mod Forms
mod FieldsReached
pub mod WrittenFirsts
pub mod FirstValues
mod WrongTurns
