-- Found: `Finding` (what a lookup finds is of its sort, and arguments fit), `Answers`. Code stands:
-- `CodeStands` (expressions), `StatementsStand`, `MembersStand`, `Meeting` (what a written member
-- has), `Unwritten` (constructors that aren't written), `ProgramStands`. Code is well typed:
-- `Fitting` (types of binding and of runs), `TypedCode` (expressions), `TypedStatements`,
-- `Completing`, `TypedMembers`, `RowsProper` (types of rows), `Reached` (which rows are written),
-- `SoundRowsStand` (dispatch), `WellTypedStand`. `SoundPrograms`: what is written in a sound program
-- breaks no rule. `OneProgram`: its code is one. `Asking`: what is asked for from outside.
-- `Misfitting`: where runs stop. `WrongTurns`: cases.
mod Finding
mod CodeStands
mod Answers
mod StatementsStand
mod MembersStand
mod Unwritten
mod Meeting
mod ProgramStands
mod Fitting
mod TypedCode
mod TypedStatements
mod Completing
mod SoundPrograms
mod RowsProper
mod Reached
mod SoundRowsStand
mod TypedMembers
mod WellTypedStand
mod Asking
mod Misfitting
mod OneProgram
mod WrongTurns
