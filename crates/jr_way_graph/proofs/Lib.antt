-- `Running`: the shapes of a way are gone through as its flow is made (`jr_cover: Flows`).
-- `Exact`: their edges are those of the way.
-- `Growing`: edges and the stack of pieces, as the code makes them longer.
pub mod Running
mod Exact
mod Growing
