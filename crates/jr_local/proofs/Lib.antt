-- `Sound`: the regions are sound. `Cases`, `WorkedRows`: small examples, each a sentence of the rules.
pub mod Sound
mod Cases
mod WorkedRows
