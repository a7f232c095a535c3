-- `SearchLaws`, `Loops`, `Numbering`: the walk finds exactly the local that is declared there.
-- `Declaring`, `Finding`: the names of a part. `Asking`, `Telling`: of what a word of the file
-- names one is found, and what is found it names. `Holders`: one identifier holds a byte, and
-- `Holding` the code that finds it. `Nowhere`: what is found nowhere. `one_is_target` goes over
-- tokens as the laws of places do: `NamedParts`, `NamedMembers`, `NamedFiles` say of each kind of
-- node that what it declares and what it refers to begin at tokens of their own, and `OneTarget`
-- says so of a program.
mod Holding
pub mod Nowhere
mod SearchLaws
mod Loops
mod Declaring
mod Finding
mod Asking
mod Holders
mod Telling
mod Numbering
mod NamedParts
mod NamedMembers
mod NamedFiles
mod OneTarget
