pub mod Aims
pub mod KnownFacts
pub mod Meanings
pub mod Routes
pub mod StepView
pub mod Steps
