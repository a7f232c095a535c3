-- `Walked`: what has a property where a way leads, has it somewhere in the list. `Leading`: paths.
-- `Valued`: what has a type is no class's name.
pub mod Walked
pub mod Leading
pub mod Valued
