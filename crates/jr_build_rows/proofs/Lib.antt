-- Searches, a file each: `TypeFaultLaws`, `TwiceParamLaws`, `TwiceMemberLaws` (`SignatureLaws`,
-- `Knowing`, `Least`). What is declared: `Heading`, `Apart`, `MeaningLaws`, `CleanClasses`. Rows:
-- `OwnRows`, `NamedRows`, `RowCycles`, `ProgramRows`; `OneRows`: a program has one table.
pub mod Least
pub mod TypeFaultLaws
pub mod SignatureLaws
pub mod Knowing
pub mod TwiceParamLaws
pub mod TwiceMemberLaws
pub mod Heading
pub mod Apart
pub mod OwnRows
pub mod MeaningLaws
pub mod CleanClasses
pub mod NamedRows
pub mod RowCycles
pub mod ProgramRows
pub mod OneRows
