-- What a log says of a member (`Bounding`, `TypedBounds`), finding by halves (`Searching`), errors in
-- order (`Telling`), the member of a key (`MemberFound`), declarations that are shared (`SharedDecls`).
pub mod Telling
pub mod Bounding
pub mod Searching
pub mod MemberFound
pub mod TypedBounds
pub mod SharedDecls
