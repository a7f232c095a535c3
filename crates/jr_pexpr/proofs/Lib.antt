-- Two laws carry all: complete (a shaped tree's spelling takes the machine to the tree, `Complete`)
-- and sound (a state spells what was read, `Sound`). From them: no two trees spell the same tokens,
-- the longest is found, the stop is exact (`Reading`, `Statements`, `Readings`, `OneAnswers`).
-- `Found`, `Scans`, `Maps`, `Reading`, `Statements`, `Marks`, `Levels` are about any machine, and
-- jr_punit cites them. Machines are generic in marks: `EraseSteps`, `Marks`, `Places`, `Placing`,
-- `OwnMarks` say that with spans and without the steps are alike. `Walking`, `WalkLaws`, `Finds`,
-- `Few`: the walks over items. `Cases`: single texts.
pub mod Spell
pub mod Scans
pub mod Found
pub mod Levels
pub mod Complete
pub mod PieceTokens
pub mod Sound
pub mod Reading
pub mod Opens
pub mod Statements
pub mod EraseSteps
pub mod Placing
pub mod Places
pub mod Maps
pub mod Marks
pub mod Cases
pub mod OwnMarks
pub mod Stacks
pub mod Rows
pub mod Wholes
pub mod Quotes
pub mod Walking
pub mod WalkLaws
pub mod Few
pub mod Finds
pub mod Readings
pub mod OneAnswers
pub mod StartReads
