-- `Called`: from what calls answer of pieces to the pair that they lose.
pub mod Called
