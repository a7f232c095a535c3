pub mod KnownPlaces
pub mod KeysIn
pub mod CodeRelations
pub mod SetImages
pub mod FlowImages
pub mod CodedSpots
pub mod MemberCodes
pub mod Laws
