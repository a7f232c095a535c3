pub mod OneSelected
pub mod OnePlan
