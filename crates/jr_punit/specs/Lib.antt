pub mod ClassView
pub mod UnitView
