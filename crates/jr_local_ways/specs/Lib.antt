-- `ReadyWays`: what a walk rests on, where a way leads. `Elements`: the nearest element of an
-- expression. `Unbased`: where the parent of a node begins doesn't matter where marks are spans.
pub mod ReadyWays
pub mod Elements
pub mod Unbased
