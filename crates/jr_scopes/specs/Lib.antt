pub mod Numbers
pub mod Helds
pub mod Tracked
pub mod Restoring
pub mod Places
