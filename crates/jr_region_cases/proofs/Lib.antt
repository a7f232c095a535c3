-- `ExtractPlaces`: places around a local that is made. `NameSpots`: the name of a made local has its
-- type. `CastsOfThis`: casts of `this` where its class is another. `StaleLocals`: a local that stops
-- agreeing at a list that becomes a call.
mod ExtractPlaces
mod NameSpots
mod CastsOfThis
mod StaleLocals
