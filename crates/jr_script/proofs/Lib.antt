-- `MemberLaws`, `NameLaws`, `CountLaws`: members of an object. `OneStep`, `StepLaws`: an object is
-- one step or has one fault, a line a row. `ElementLaws`, `OneScript`: an array. `ReportLaws`.
pub mod MemberLaws
pub mod CountLaws
pub mod NameLaws
pub mod StepLaws
pub mod ElementLaws
pub mod ReportLaws
pub mod OneStep
pub mod OneScript
