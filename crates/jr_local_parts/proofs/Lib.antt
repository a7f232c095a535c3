-- `Goings`: places one behind the other. `Descents`: the way down a path leads to the nearest element
-- (law D: `arrived`). `Counting`: numbers one behind the other.
-- `PairedSites`: the sites of a pair in footprints. `FileLists`: edits of files, losses of one.
pub mod Goings
pub mod Descents
pub mod Counting
pub mod PairedSites
pub mod FileLists
