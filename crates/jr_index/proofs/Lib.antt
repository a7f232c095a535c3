-- `Walking`, `Returning`, `Marking`, `Around`: a walk upwards, when it comes back, and stamps.
-- `Early`: ways come early. `Parity`, `Setting`: tables of names. `Linking`: numbers linked in
-- order.
pub mod Walking
pub mod Returning
pub mod Marking
pub mod Around
pub mod Early
pub mod Parity
pub mod Setting
pub mod Linking
