-- `BodyPremises`: of bodies. `SelectedPremises`: of what extract local selects. `TypePremises`: of
-- the type that it writes.
pub mod BodyPremises
pub mod SelectedPremises
pub mod TypePremises
