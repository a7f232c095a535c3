-- `Marking`: rows of copies; `MadeOf`: a node and the parts that it was made of.
pub mod Marking
pub mod MadeOf
