pub mod Firsts
pub mod Parents
pub mod Walked
pub mod Cycles
pub mod Names
pub mod Index
pub mod NameTable
pub mod Linked
