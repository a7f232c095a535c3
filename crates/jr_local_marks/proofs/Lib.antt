-- `Spelling`: tokens of a text have the bytes of their words. `Behind`: what stands behind an element.
pub mod Spelling
pub mod Behind
