-- `Seeking`: what a search in a list has found, where it suits. `Members`: from code to written
-- members and files.
-- `ExtractPlaces`: what extract local finds.
pub mod Seeking
pub mod Members
pub mod ExtractPlaces
