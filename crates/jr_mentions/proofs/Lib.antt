-- `apart_look_alike`: entries are taken to a normal form, in which a field or method of one of the
-- names gets one that is another than what is looked for (`Normal`); under it each exact lookup by
-- number is the same (`Keeping`, `KeptMembers`, `KeptFindings`, `KeptCalls`, `SameOverriding`).
-- That what is found has none of the names comes from the relations (`CleanRows`, `CleanAnswers`).
-- `LooksAlike` joins them. `parts_last`, `types_last`: along the exact functions of jr_table, one
-- file a sort (`SameTests`, `SameMeanings`, `SameOwnNotes`, `SameStatementNotes`, `SameHeadNotes`,
-- `SamePartNotes`, `TypesCarried`), joined by `PartsLasting`. Code: `RowPairs`, `EntryPairs`,
-- `NamePairs`, `RowTests`, `Stepping`, `Settling` (the walk over rows); `AvoidLaws`, `NoNames`,
-- `PartsAvoid`, `TestLoops`, `TreeLoops`, `TreeMeasures` (the walk over a tree).
pub mod SameMeanings
pub mod SameTests
pub mod SameOwnNotes
pub mod SameStatementNotes
pub mod SameHeadNotes
pub mod SamePartNotes
pub mod PartsLasting
pub mod PartsAvoid
pub mod TypesCarried
pub mod Keeping
pub mod KeptMembers
pub mod KeptFindings
pub mod KeptCalls
pub mod Normal
pub mod RowPairs
pub mod EntryPairs
pub mod CleanRows
pub mod CleanAnswers
pub mod SameOverriding
pub mod LooksAlike
pub mod AvoidLaws
pub mod NoNames
pub mod TestLoops
pub mod TreeLoops
pub mod TreeMeasures
pub mod Stepping
pub mod RowTests
pub mod NamePairs
pub mod Settling
