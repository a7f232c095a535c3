-- `Images`: what keys and rows become, by how they are mapped. `NearScopes`, `NearLocals`: a
-- spelling binds in a near scope exactly where it binds in the place's. `Kept`: what lookups see of
-- what is kept. `OneEach`: a way finds one thing. `ChosenBy`: what is chosen by a way is what is
-- chosen of one kind of declaration; `OnTypes`: on values. `Founds`, `Finds`, `TopFounds`,
-- `DeclKinds`: what is found, by kind. `Leading`, `Refuting`, `Parents`, `Above`: words of classes.
-- `SimpleNames`, `Unchanged`, `UnchangedBy`: names that stay. `Spells`, `Growing`, `Oks` serve
-- these. `Nothings`, `ClassesInFront`, `ValuesInFront`: what words in front of a dot find, and what
-- is chosen for a class there.
pub mod Images
mod NearLocals
mod NearScopes
mod Kept
mod Growing
mod Founds
mod DeclKinds
pub mod OneEach
mod Nothings
mod ClassesInFront
mod Finds
mod Spells
mod ChosenBy
mod OnTypes
mod Parents
mod Oks
mod Above
mod SimpleNames
mod Leading
mod Refuting
mod TopFounds
mod Unchanged
mod UnchangedBy
pub mod ValuesInFront
