-- The clauses of steps: `Inside` (one machine inside another), `InPlace` (a state that steps in
-- place), `CueTokens`, `ListFrames`, `Closers`, `PartAnswers`, `StatementMarks`. The laws on whole
-- readings are in jr_punit.
pub mod Inside
pub mod InPlace
pub mod CueTokens
pub mod ListFrames
pub mod Closers
pub mod PartAnswers
pub mod StatementMarks
