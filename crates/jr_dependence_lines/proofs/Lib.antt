-- `OneOrder`: two lists in strict order with the same elements are one. `OneWay`: a way has one list
-- of lines; `OneGiven`: what is known of a member is one (its locals can be numbered: `Numbered`);
-- `OneLines`: so members have one list of lines, or one first that is too large. `Counting`: lines
-- are put behind others. `Along`: paths along edges that are the same. `Listing`: what is listed of
-- the sites of a graph. `WayDependences`: what depends in a graph, in its way. `MemberSteps`: lines
-- of a member and of members, one behind the other. `SpansFit`: spans fit. `ShownLines`: what is
-- shown where all was counted first.
pub mod OneOrder
pub mod OneWay
pub mod Numbered
pub mod OneGiven
pub mod OneLines
pub mod Counting
pub mod Along
pub mod WayDependences
pub mod Listing
pub mod MemberSteps
pub mod SpansFit
pub mod ShownLines
