-- Laws of lines, and where a text can be cut beside them. `Runs`: runs of bytes of one kind.
-- `LinePlaces`: line starts, indents, ends of lines. `LayoutLaws`: what is put in front of a brace.
-- `Answering`: each layout is one alone. `Computing`: the definitions as tests. `Cases`: small texts.
pub mod Runs
pub mod LinePlaces
pub mod LayoutLaws
pub mod Answering
pub mod Computing
mod Cases
