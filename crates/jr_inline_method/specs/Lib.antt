pub mod Calling
pub mod Refusing
pub mod Regions
pub mod Inlining
pub mod InlineMethod
pub mod Laws
