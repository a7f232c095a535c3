-- `Adding`: dependences are put behind a list, and when two such steps are one. `Asking`: which
-- dependences are in question in each step. `Leading`: whether one site depends on another, by what
-- is known of paths. `Stopping`: paths between the same stops, and the stops as they are gathered.
-- `Pointing`: sites in a row of references. `Sorting`: which there can't be between two sites.
-- `Telling`: what is listed of two sites, and what it weighs. `Mapped`: sites that are seen in
-- another way. `Alike`: rows of sites that are related alike. `Numbering`: sites by numbers are.
-- `SumLaws`: what a site weighs with those before each other one; `TogetherLaws`: and all together.
pub mod Adding
pub mod Asking
pub mod Leading
pub mod Mapped
pub mod Pointing
pub mod Sorting
pub mod Stopping
pub mod Telling
pub mod Alike
pub mod Numbering
pub mod SumLaws
pub mod TogetherLaws
