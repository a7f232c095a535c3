-- In order: `Keeping`, `Agreeing` (one local, by induction on ways), `UsedPaths` (from where a read
-- comes), `Families` (all locals at once, as sets; what the tables tell of sites), `ExpSets`,
-- `StmtSets` (from ways to code, over trees and their translation together), `BySets` (from images by
-- any sets to images by these), `Tables`, `Around` (a piece's place), `UnusedSets` (the law on sets),
-- `ListBeginnings` (of a list alone), `Regrouped` (the piece as one part of a way), `LaterWrites`
-- (runs), `Example` (the premises can be met), `UsedCases`. Crates above cite the laws, and
-- `BySets: exp_by, stmt_by, stmts_by, other_spots`, `StmtSets: stmts_keep`.
pub mod Keeping
pub mod Agreeing
pub mod UsedPaths
pub mod Families
pub mod ExpSets
pub mod StmtSets
pub mod BySets
pub mod Tables
pub mod Around
pub mod UnusedSets
pub mod ListBeginnings
pub mod Regrouped
pub mod LaterWrites
pub mod UsedCases
pub mod Example
