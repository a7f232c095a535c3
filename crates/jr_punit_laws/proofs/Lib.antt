-- Laws on machines for lists of statements, parameters, arguments, members, classes, units: that
-- each is complete and sound (`StatementComplete`, `StatementSound`, `OwnComplete`, `OwnSound`,
-- `Arguments`, `Parameters`, `Types`), that stops are exact (`StatementEnds`, `OwnEnds`), classes
-- and units (`Classes`, `MemberReads`, `UnitReads`). One machine reads inside another
-- (`jr_pstmt: Inside`): it goes on where it can, else what is whole in it is taken by the outer
-- one. The files named `..Stands` say that marks are spans, those named `Bare..` and `ReadsAlike`
-- that marks play no part. `StopPlaces`, `UnitAnswers`, `OneReading`: what `parse_unit` answers.
-- `Expressions` and `ExpressionStands` gather what is cited of jr_pexpr. `Cases`: readings of texts.
pub mod Cases
pub mod Expressions
pub mod Types
pub mod StatementSpell
pub mod StatementComplete
pub mod StatementSound
pub mod StatementEnds
pub mod Readings
pub mod Arguments
pub mod Parameters
pub mod MemberSpell
pub mod OwnComplete
pub mod OwnSound
pub mod OwnEnds
pub mod Classes
pub mod MemberReads
pub mod UnitReads
pub mod StopPlaces
pub mod MapSteps
pub mod BareParts
pub mod BareStatements
pub mod BareMembers
pub mod ReadsAlike
pub mod Standing
pub mod ExpressionStands
pub mod TypeStands
pub mod StatementStands
pub mod ParameterStands
pub mod OwnStands
pub mod ClassStands
pub mod MemberStands
pub mod UnitStands
pub mod ReadsMarked
pub mod OneReading
pub mod UnitAnswers
