-- `Cut`: lexemes one behind the other, and the tokens of the text that they make. `Gluing`: one
-- part in front of a text, where blanks become one. `Parts`: any number of parts.
pub mod Cut
pub mod Gluing
pub mod Parts
