-- `Flagging`: flags that are made one by one.
pub mod Flagging
