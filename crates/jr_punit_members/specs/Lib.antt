pub mod ArgView
pub mod ParamView
pub mod LeadView
pub mod HeadView
pub mod OwnView
