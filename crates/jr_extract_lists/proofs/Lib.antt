-- `WrittenTypes`: how a type is written. `FoundTargets`: what is found, and its body. `Places`: where walks
-- are. `Pieces`: the expression. `Lists`: the statement, and those behind it. `Walking`, `Passing`: walks, step
-- by step. `Numbers`, `Spotting`: what they take. `Listing`: the whole list. `Single`: the item of a list of at
-- most one.
mod WrittenTypes
mod FoundTargets
mod Places
mod Pieces
mod Lists
mod Listing
mod Walking
mod Passing
mod Numbers
mod Spotting
mod Single
