pub mod Depends
pub mod Known
pub mod Listed
pub mod KindNames
pub mod Numbers
pub mod Kinds
pub mod Weights
pub mod Summed
