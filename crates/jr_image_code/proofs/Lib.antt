-- Lowest first: `References` (what the code of a reference is, by what it is bound to), `Fronts` (what a
-- respelling puts in front of a word), `VariableImages`, `CallImages`, `ExpImages` (one recursion over
-- expressions), `StmtImages`, `MemberImages` (methods), `ConstructorImages`, `InitImages`. `ReceiverImages`:
-- where a local stands for `this`. `Through`:
-- images with sets of agreeing locals; `Flowing`: between all sets that old code goes between. `Renamed`: a rename's expressions, as a case.
pub mod References
pub mod Fronts
pub mod VariableImages
pub mod CallImages
pub mod ExpImages
pub mod StmtImages
pub mod MemberImages
pub mod ConstructorImages
pub mod InitImages
pub mod ReceiverImages
pub mod Through
pub mod Flowing
pub mod Renamed
