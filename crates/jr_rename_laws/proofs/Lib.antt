-- Lowest first. New programs: `SameClasses` (what types mean depends on the declared classes
-- alone), `Still` (what a renaming without classes leaves), `DeclarationImages`, `RowImages`,
-- `TypesFound`, `TypesStay`, `InitsStay`, `TreeImages` (one recursion over classes),
-- `DeclarationsBeside`, `CleanImages` (faults), `FairImages`, `Apart`, `StillImages` (the whole),
-- and one file a kind of declaration; `OneLocal`: keys where one local is renamed; `FairClasses`,
-- `ClassFair`, `RenamingFair`: rows are fair where a class is renamed too. Classes: `WrittenTypes`,
-- `Objects`, `ItemsBeside`, `Initializers`, `TreesBeside`, `NewAgreeing` (images of rows agree with
-- the new declarations: superclasses of top-level classes first, then of member classes by how many
-- looks they take), `NewRows`, `NewNames`, `NewClean`, `Whole`, `Constructors`. Plans: `Planned`,
-- `Planning`. One plan: `Alike` (two renamings of the same declarations make the same of each key,
-- row and scope), `OneRewriting`, `WordsOnce` (words in front of a dot), `OneChoice` (the ways of
-- `jr_new_words: Ways` as one), `OneProgram`, `OneClash`, `OneRefusal`, `OnePlan` (one reason after
-- the other).
pub mod BareBinding
mod OneLocal
mod SameClasses
pub mod Still
mod DeclarationImages
mod RowImages
mod TypesStay
mod BareTrees
mod InitsStay
mod TreeImages
mod DeclarationsBeside
mod DeclarationMembers
mod CleanImages
mod LocalNames
mod LocalImages
mod TypesFound
pub mod DeclarationRows
mod MemberNames
mod StillImages
mod FieldImages
mod MethodImages
mod FairImages
mod Apart
mod Planned
mod FairClasses
mod ClassFair
mod RenamingFair
pub mod Planning
mod WrittenTypes
mod Objects
mod Renamed
mod ItemsBeside
mod Initializers
mod TreesBeside
mod ClassDeclarations
mod NewAgreeing
mod NewRows
mod MembersBeside
mod NewNames
mod NewClean
mod Whole
mod Constructors
pub mod Alike
pub mod OneRewriting
mod WordsOnce
pub mod OneChoice
pub mod OneProgram
mod OneClash
pub mod OneRefusal
mod OnePlan
