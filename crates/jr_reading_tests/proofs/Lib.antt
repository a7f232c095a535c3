-- `Heads`, `Spans`: what units of read texts have, as `jr_build: build` asks it. `OneMember`: one
-- member of a program can be bound by its key.
pub mod Heads
pub mod Spans
mod OneMember
