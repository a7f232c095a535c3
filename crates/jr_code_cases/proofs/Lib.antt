-- From a text to its code by computation. `Reading`: a tree's spans; `TopTypes`, `DeclaredRows`: what
-- names of types mean, and the rows, where each class is a top-level one; `Pairing`, `CleanWords`,
-- `NoCycle`, `Clean`: no fault of declarations; `ComputedExps`, `ComputedMembers`,
-- `ComputedProgram`: code; `Sound`, `Broken`: which rules are broken; `ComputedFirsts`: what static
-- fields begin with; `Memory`: histories of one thread and of two; `OneRun`: a run that asks for
-- nothing is the only one. `Showing` joins them: each case is a tree, and `refl` for what has to be
-- computed of it, by what `Computing` unfolds. `Programs`, `WrongTurns`: the cases.
pub mod Reading
pub mod TopTypes
pub mod DeclaredRows
pub mod ComputedExps
pub mod ComputedMembers
pub mod ComputedProgram
pub mod Pairing
pub mod CleanWords
pub mod NoCycle
pub mod Clean
pub mod Sound
pub mod Broken
pub mod ComputedFirsts
pub mod Memory
pub mod OneRun
pub mod Showing
pub mod Computing
pub mod Programs
pub mod WrongTurns
