-- `Fronts`: numbers of parts. `Coded`: a member's code and its body. `Nested`: where a body's list stands. `Typed`: types by
-- the paths of ways.
pub mod Coded
pub mod Nested
pub mod Typed
pub mod Fronts
