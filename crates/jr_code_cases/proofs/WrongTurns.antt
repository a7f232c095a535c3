-- The turns that an account of types could take wrong, each in a file of its own.
pub mod Endless
pub mod VoidValue
pub mod MissingReturn
pub mod Down
