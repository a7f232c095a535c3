-- `Declares`: from the code of a member to the written members, and to a file. `Targets`: the local
-- that is asked for.
-- `Foreign`: none is of the prelude.
pub mod Declares
pub mod Targets
pub mod Foreign
