pub mod TypeFaults
pub mod Signatures
pub mod ExactRows
pub mod Heads
