-- `RunEnds`, `InputLaws`, `Beginning`, `Replying`, `Following`: what a run comes to. `OneFile`,
-- `RenameEnds`: the same of a rename. `Changed`, `Writing`, `PutLaws`, `Unwritten`: output.
-- `RanClauses`, `RunClauses`, `Settled`, `EarlyEnds`, `Everywhere`: each clause of `run` is one law
-- on what comes of words; a clause that is searched for in each arm costs more than all laws.
-- `Served`: the session serves each step of a script. `WordPlaces`: words by number.
mod Beginning
mod Changed
mod EarlyEnds
mod Everywhere
mod Following
mod InputLaws
mod OneFile
mod PutLaws
mod RenameEnds
mod Replying
mod RanClauses
mod RunEnds
mod RunClauses
mod Served
mod Settled
mod Unwritten
mod WordPlaces
mod Writing
