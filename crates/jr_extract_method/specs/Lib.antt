pub mod PieceWays
pub mod Selecting
pub mod Results
pub mod Refusing
pub mod Regions
pub mod Extracting
pub mod ExtractMethod
pub mod Laws
