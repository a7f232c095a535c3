-- `Covered`: the dependences of a row of sites are those of `jr_cover`. `Keyed`: sites are related as
-- the pure sites with their keys are. `Standing`: the sites of a piece in those of its
-- way. `RunCovers`: the list covers what runs do.
pub mod Covered
pub mod Keyed
pub mod Standing
pub mod RunCovers
