-- `OwnSteps`: steps of the machine for a member that is no class.
pub mod OwnSteps
