-- By steps over the tokens from left to right (`Steps`: stay, cast, swap, close, a spot's run).
-- `ExpressionSteps`, `StatementSteps`, `MemberSteps` flatten a rewriting; `Woven`, `Weaving` turn
-- steps into lexemes of the new text, where what stands directly in front of a change stays what it
-- is (`jr_lex: Yields`); `Parts`, `Cuts`, `Tiles`, `Skipping`, `Stepping`, `WordSteps`, `NewTokens`
-- serve these. `ExpressionShapes`, `MemberShapes` keep the side conditions of the grammar.
-- `Rewriting` has the laws. `Entries`, `Putting`, `Pushing`: the code's changes and edits.
-- `SpotWeaving`, `Moved`: what spots need of texts, and a piece that moves. `WholeLines`: a run that
-- goes, or is replaced, with its lines (`LastBytes`, `BlankBytes` serve it; `LinesCase`: a small text).
-- `BareForms`, `Unbared`, `UnbaredMembers`: what stands along a tree stands along each that is equal
-- but for marks.
pub mod Parts
pub mod Cuts
pub mod Steps
pub mod LastBytes
pub mod Tiles
pub mod Firsts
pub mod Weaving
pub mod Skipping
pub mod Woven
pub mod SpotWeaving
pub mod BlankBytes
pub mod WholeLines
pub mod LinesCase
pub mod Moved
pub mod Entries
pub mod Stepping
pub mod WordSteps
pub mod NewTokens
pub mod ExpressionSteps
pub mod StatementSteps
pub mod MemberSteps
pub mod ExpressionShapes
pub mod MemberShapes
pub mod Rewriting
pub mod Putting
pub mod BareForms
pub mod Unbared
pub mod Pushing
pub mod UnbaredMembers
