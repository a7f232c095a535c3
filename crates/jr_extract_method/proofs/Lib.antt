-- `Apart`: spots are used. `Cases`: small examples, each a sentence of the rules.
pub mod Apart
mod Cases
