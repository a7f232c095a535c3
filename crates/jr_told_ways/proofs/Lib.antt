-- `Decoding`: a way is found again by its path.
pub mod Decoding
