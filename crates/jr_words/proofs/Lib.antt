-- `WordLaws`, `OneCommand`, `RunLaws`, `Seen`: words and commands. `Walking`: what a word does to
-- `clap`'s walk, three states between words. `Reading`: the whole walk, both ways. `Rows`: how rows
-- are found by id. `MatchLaws`: from `clap`'s clauses to the arguments.
mod WordLaws
mod OneCommand
mod RunLaws
mod Seen
mod Rows
mod Walking
mod Reading
mod MatchLaws
