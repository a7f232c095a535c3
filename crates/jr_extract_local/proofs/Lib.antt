-- `SpansFit`: the places of sites fit. `MemberNodes`: where the element of a list stands among a member's nodes;
-- `Leading`: so do those of a target. `Losing`: the pair that is lost. `FirstLosses`: the first reference that is
-- lost; `Planning`: what is planned, or refused for it. `Selected`: what is found stands in a written member.
mod SpansFit
mod MemberNodes
mod Leading
mod Losing
mod FirstLosses
mod Planning
mod Selected
