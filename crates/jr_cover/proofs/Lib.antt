-- In order: `WayLaws` (each way begins, and from each of its sites a way leads out), `Visits` (plans
-- that visit sites in order do so in every run, by induction on plans and on fuel), `Parts` (pieces
-- of a member, and positions in them), `Going` (one lemma a construct), `StraightWays`, `ExpGoes`,
-- `StmtGoes` (loops, monitors), `OutsideGoes` (code of other members), `Cover`, `Depending`: the two
-- laws of cover. `PieceActs`, `PiecesCross`: what pieces do. `KeepsLocals`, `NeverNullRuns`: never
-- null. `Touching`: which locals code reads and writes, and whether it calls and loops, by its
-- sites; from it `PieceWrites`, `NeverNullMembers`, `SideBySide` and `UnreadLocals` (two plans that
-- do the same), `PieceReads`, and `Rising`, `Unstopped`, `PieceEnds` (a plan that visits its sites
-- in rising order ends). `PlainSilent`: plain expressions. `SpotPaths`: spots have their paths.
-- Crates above cite `FlowLaws: flow_is` (the lists of `Flows` have what the relations of `Ways` say)
-- and `Unique: one_site` (an action is done at one site alone). `Example`: the premises can be met.
pub mod Apart
pub mod WayLaws
pub mod Visits
pub mod Parts
pub mod Going
pub mod StraightWays
pub mod ExpGoes
pub mod StmtGoes
pub mod OutsideGoes
pub mod Cover
pub mod Depending
pub mod Sparing
pub mod KeepsLocals
pub mod NeverNullRuns
pub mod Touching
pub mod PieceWrites
pub mod SideBySide
pub mod UnreadLocals
pub mod PieceReads
pub mod Rising
pub mod Unstopped
pub mod PieceEnds
pub mod NeverNullMembers
pub mod PlainSilent
mod Example
pub mod Unique
pub mod FlowLaws
pub mod PieceActs
pub mod PiecesCross
pub mod SpotPaths
mod SpotCases
mod TranslationCases
