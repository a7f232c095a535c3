-- Rows and members: `RowLaws`, `ClassLaws`, `Chaining`, `Ending`, `StepsUp`, `SpanLaws`; one walk
-- for all that is looked for (`MemberLaws`, `MemberWalk`, `Testing`, `OneEach`, `FirstLaws`), by
-- what places rows have (`WantedPlaces`, `MethodPlaces`, `CtorPlaces`); methods of a name in order
-- (`GatherLaws`, `GatherWalk`, `Gathered`, `InOrder`, `CollectWalk`, `Ascending`); numbers and keys
-- (`Border`). Lookup is exact: `FieldLaws`, `Inward`, `Accessing`, `Assigning`, `Choosing`,
-- `OneCtor`, `CallLaws`, `ScopeLaws`, `ShowingLaws`, joined by `LookupLaws`. Types and references:
-- `RowTypes`, `Typing`, `TypeTests`, `ReferenceLaws`, `Referring`, `TypeNotes`,
-- `DeclaredReferences`. What is noted is what is broken, and nothing else: `Noting`, `Walking`,
-- `Everywhere`, tests of rules (`FlowTests`, `DeclarationTests`, `OverrideTests`), one file a sort
-- of rule (`Breaking..`: a `data` of the rules that its nodes may break, a lemma a kind of node,
-- one that takes the `data` to the relation), `BindingDeclarations`, `BindingNothing`, joined by
-- `MemberNotes`. `ErrorOrder`, `ErrorLaws`: errors in order, each once. `Same..`: equality of keys,
-- kinds and lists. `Cases`, `LookupCases`, `BindingCases..`, `BindingSamples`: small programs as
-- theorems.
pub mod SameArms
pub mod SameLists
pub mod FirstLaws
pub mod Chaining
pub mod Ending
pub mod RowLaws
pub mod MemberLaws
pub mod Testing
pub mod OneEach
pub mod StepsUp
pub mod Border
pub mod Gathered
pub mod Cases
pub mod Accessing
pub mod Inward
pub mod FieldLaws
pub mod Assigning
pub mod Ascending
pub mod Choosing
pub mod OneCtor
pub mod CallLaws
pub mod ScopeLaws
pub mod ShowingLaws
pub mod LookupLaws
pub mod LookupCases
pub mod RowTypes
pub mod Typing
pub mod BindingSamples
pub mod BindingCasesClasses
pub mod BindingCasesFlow
pub mod BindingCasesNames
pub mod BindingCasesTypes
pub mod BindingCasesVariables
pub mod ReferenceLaws
pub mod Referring
pub mod TypeTests
pub mod Breaking
pub mod DeclarationTests
pub mod BreakingReferences
pub mod BreakingMembers
pub mod BreakingFinals
pub mod BindingNothing
pub mod BreakingExpressions
pub mod Noting
pub mod Walking
pub mod ClassLaws
pub mod SameMaps
pub mod MemberWalk
pub mod WantedPlaces
pub mod MethodPlaces
pub mod SameKinds
pub mod GatherLaws
pub mod GatherWalk
pub mod InOrder
pub mod CollectWalk
pub mod CtorPlaces
pub mod SpanLaws
pub mod TypeNotes
pub mod FlowTests
pub mod BreakingStatements
pub mod OverrideTests
pub mod BreakingHeads
pub mod DeclaredReferences
pub mod BreakingDeclarations
pub mod BindingDeclarations
pub mod Everywhere
pub mod MemberNotes
pub mod ErrorOrder
pub mod ErrorLaws
