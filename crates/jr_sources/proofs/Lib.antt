-- Sources: `SourceLaws`, `Entries`, `Totals`. Readings: `Lexing`, `AllRead`, `Faulty`, `Filled`,
-- `FirstTokens`, `Heads`, `Spans`, `PartsFit`, `ReadUnits`. Analyses: `Analysing`, `SourceFaults`,
-- `InFiles`, `DeclarationFiles`, `WrittenOrder` (members in the order of their files),
-- `MembersFew`; `Binding` has what all calls say of bound members, `Rebinding` what is kept,
-- `HadBack` what is had back.
-- `Nearer`, `FirstErrors`: the first broken rule. `WholeProgram`: sources without faults and errors
-- are a program, and the tokens by which members are bound are those of the readings.
pub mod SourceLaws
pub mod Entries
pub mod Totals
pub mod AllRead
pub mod Faulty
pub mod FirstTokens
pub mod Heads
pub mod Spans
pub mod PartsFit
pub mod InFiles
pub mod DeclarationFiles
pub mod Analysing
pub mod WrittenOrder
pub mod Lexing
pub mod SourceFaults
pub mod ReadUnits
pub mod Filled
pub mod Nearer
pub mod WholeProgram
pub mod FirstErrors
pub mod MembersFew
pub mod Rebinding
pub mod HadBack
pub mod Binding
