-- `Keys`: keys that stay, and the one that moves. `Apart`: spots are used. `Cases`: small examples,
-- each a sentence of the rules.
pub mod Keys
pub mod Apart
mod Cases
mod StaticCases
mod InstanceCases
