pub mod SoughtValues
pub mod ValueView
pub mod Chosen
pub mod Extracts
pub mod ExtractView
