-- `Planned`: what holds of any transform. `FirstLoss`: one reference is the first that is lost.
-- `Alone`: what a refactoring shows so that it has one plan. `Rename`, `RenameLost`: a rename is a
-- refactoring. `Cases`: two worked edits.
pub mod Planned
pub mod FirstLoss
pub mod Alone
pub mod Rename
pub mod RenameLost
pub mod Cases
