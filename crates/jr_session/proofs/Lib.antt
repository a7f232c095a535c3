-- States: `Histories`, `Places`, `KeptLaws`, `StateLaws`, `LengthLaws`, `EditLaws`, `Exchanging`,
-- `Turning`, `SessionSteps`, `StepCases`, `StepFiles`, `RefusalCases`, `Telling` (the places that a
-- refusal tells). Shows: `ShownLines`, `ShownMembers`, `DependenceShows`, `ShownOnce`, `ShowSteps`, `Showing`. A refactoring: `Making`, `Planning`,
-- `Trying`, `Staying`, `HadBack` (what was analysed before), `Refactored`, `RefactoredFiles`,
-- `PlansRead`, `AskedSteps` and `RequestSteps` (any that can be asked for), `SpanRequest` (2 and 3);
-- what is known of the new table: `NewTables`, `NewTells`. One answer: `OneAnswer` (edits, undoing,
-- redoing), `OneFault`, `OneWrong`, `OneRefactoring`, `RenameRequest`, `ExtractRequest`, `OneStep`;
-- `PlanReasons`, `FirstReason`. Promises: `KeptPrograms` (of any refactoring, by what it shows),
-- `RowsStay` (of those that keep all rows), `NewPrograms` (of a rename, and of all), `NewTrees`,
-- `NewRows`, `BareReferences` (what a tree's references find doesn't depend on its marks), `TakenBack`.
pub mod Histories
pub mod Places
pub mod KeptLaws
pub mod StateLaws
pub mod LengthLaws
pub mod RefusalCases
pub mod EditLaws
pub mod Making
pub mod SessionSteps
pub mod StepCases
pub mod OneAnswer
pub mod OneFault
pub mod OneWrong
pub mod OneRefactoring
pub mod RenameRequest
pub mod SpanRequest
pub mod ExtractRequest
pub mod OneStep
pub mod PlanReasons
pub mod FirstReason
pub mod ShownLines
pub mod ShownMembers
pub mod DependenceShows
pub mod ShownOnce
pub mod ShowSteps
pub mod Showing
pub mod Exchanging
pub mod Turning
pub mod Planning
pub mod Trying
pub mod Telling
pub mod RefactoredFiles
pub mod StepFiles
pub mod Refactored
pub mod BareReferences
pub mod TakenBack
pub mod NewRows
pub mod NewTrees
pub mod PlansRead
pub mod AskedSteps
pub mod RequestSteps
pub mod NewTables
pub mod KeptPrograms
pub mod RowsStay
pub mod NewPrograms
pub mod Staying
pub mod HadBack
pub mod NewTells
