-- `Apart`: the spot is used.
pub mod Apart
mod Cases
