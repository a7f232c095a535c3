-- `InFront`: what comes before an expression stands in front, by induction on its way. `Finds`: an
-- expression is found by its span; `Leads`: what is found has a way. `Nests`: trees that are read have nested spans. `Cases`: examples,
-- each a sentence of the rules.
pub mod InFront
pub mod Finds
pub mod Nests
pub mod Leads
mod Cases
