-- `TokenPlaces`, `SuperWords`: tokens by place, words `super`. `Membership`, `Comparing`,
-- `EachBound`, `Binding`: one bound of each member, in order. `FileOrder`: members stay in the
-- order of their files. `Standing`: files of a known program, as laws of places take them.
pub mod Comparing
pub mod Membership
pub mod TokenPlaces
pub mod SuperWords
pub mod Binding
pub mod EachBound
pub mod FileOrder
pub mod Standing
