pub mod Lasting
pub mod HadBack
pub mod Rebinding
pub mod ChangedPrograms
pub mod RebindSteps
