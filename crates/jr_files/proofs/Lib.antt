-- `Counting`: calls and counts. `FetchLaws`: the first fault in the order of work. `StoreLaws`:
-- what was stored before a store that failed.
pub mod Counting
mod StoreLaws
mod FetchLaws
