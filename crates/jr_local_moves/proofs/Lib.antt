-- `MappedSites`: the same pair of two pieces where sites are seen in another way. `Taking`: sites
-- and places out of a footprint. `Referring`: places of references. `SpotsSeen`: ways by marks and
-- by spots.
pub mod MappedSites
pub mod Taking
pub mod Referring
pub mod SpotsSeen
