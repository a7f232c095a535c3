-- `Standing`: statements that stand last in others. `Limbs`: each kind of statement from its parts.
-- `Bodies`: each kind of member; `ModifierWords`: its modifiers. `NumberAt`: its locals can be
-- numbered. `StepLaws`: steps have the sites and shapes of their way; `BareWays`: what stands at a
-- site doesn't matter to edges. `AccessKinds`: kinds of accesses. `Following`: runs follow the graph.
mod Standing
mod Limbs
pub mod StepLaws
pub mod NumberAt
mod BareWays
mod Bodies
mod ModifierWords
mod AccessKinds
mod Following
