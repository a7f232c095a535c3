-- `Leading`, `StatementLeading`: the part into which a search goes leads on to each way of it, a
-- search by spans goes the same way, and the part is smaller. `Going`, `StatementGoing`: how far a
-- search has come. `Choosing`, `ChoosingStatements`: tests of spans, and the loops over arguments
-- and elements. `Absent`: what isn't found isn't there. `Ending`: the first `return`.
pub mod Leading
pub mod Going
pub mod Choosing
pub mod ChoosingStatements
pub mod StatementLeading
pub mod StatementGoing
pub mod Absent
pub mod Ending
