-- Lowest first: `Families` (pairs of a rename), `KeptFamilies` (overriding in the new program);
-- `FrontForms` (what each choice puts in front of a word), `FrontTrees` (what the new expression has
-- there), `FrontsAlong`, `FrontsOfStatements`, `FrontsOfFiles` (old and new trees side by side);
-- `PlacesJoined` (places of wholes by those of parts), `NameTokens` (spans on tokens of names),
-- `PlaceNames` (what a choice changes lies on such), `PlacesApart` (places over the tokens of a tree:
-- none stands twice, and their edits lie on names), `PlacesOfExpressions`, `PlacesOfStatements`,
-- `PlacesOfFiles`, `ItemNames` (from tokens to items), `PlannedPlaces` (of a plan).
pub mod Families
pub mod KeptFamilies
pub mod FrontForms
pub mod FrontTrees
pub mod FrontsAlong
pub mod FrontsOfStatements
pub mod FrontsOfFiles
pub mod PlacesJoined
pub mod NameTokens
pub mod PlaceNames
pub mod PlacesApart
pub mod PlacesOfExpressions
pub mod PlacesOfStatements
pub mod PlacesOfFiles
pub mod ItemNames
pub mod PlannedPlaces
