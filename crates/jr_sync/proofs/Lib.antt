-- `Agreeing`: what agrees, by tests. `Found`: what the three tests find. `Pairs`: first pairs.
pub mod Agreeing
pub mod Found
pub mod Pairs
