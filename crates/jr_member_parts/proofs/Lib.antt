-- `Apart`: spots at what is named by way of `this` are used.
pub mod Apart
