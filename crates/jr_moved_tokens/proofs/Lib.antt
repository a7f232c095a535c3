-- Lowest first: `Runs` (what some steps make of a text), `StepRuns` (each step is one), `PiecePlaces`
-- (where the tokens of lexemes stand, and how far a byte moves), `MovedTokens` (a token that stays).
pub mod Runs
pub mod StepRuns
pub mod PiecePlaces
pub mod MovedTokens
