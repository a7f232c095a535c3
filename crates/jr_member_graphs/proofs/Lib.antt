-- `Writes`: the locals that expressions write are those of their sites. `Assigned`: those that are
-- gathered as written are those that the member assigns. `MemberFlagging`: what a walk takes for
-- never null is what flags say. `Telling`: its own flags tell what is never null. `Gathered`: the walk over statements. `FlagSteps`: flags that are made one by one, and marks.
-- `MemberFlags`: those of each kind of member. `NumberedLocals`: initializers stand in the order of
-- numbers. `NoNulls`: what is never null comes to no null.
mod Writes
pub mod Assigned
mod MemberFlagging
pub mod Telling
mod Gathered
mod FlagSteps
mod MemberFlags
mod NumberedLocals
mod NoNulls
