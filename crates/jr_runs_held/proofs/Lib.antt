-- `HeldLocal` (`held_match`): a list with a local more that holds what the other list evaluates, over
-- `UntilExps`; `Turned`: alikeness the other way round. `WildSilent` (`goes_past`, `goes_before`): an
-- expression goes past silent code. `CrossedPieces` (`crossed`): two pieces change places.
-- `CalmCode`, `SilentCode` (`calm_exp`, `calm_pieces`, `silent_is`, `piece_twins`): what a footprint says
-- of code; `Written`: what code of any kind leaves alone; `PlaceRuns`, `PlaceMatch`: an expression in its
-- place. `PastSilent` (`past_match`) and
-- `PastCalm` (`calm_match`, over `Quiet`): what goes past to a place, with `Passing` and `PastPrograms` of
-- whole programs. `HeldCases`: small programs to which the laws apply.
pub mod Steps
pub mod Turned
pub mod UntilExps
pub mod HeldLocal
pub mod WildSilent
pub mod CrossedPieces
pub mod CalmCode
pub mod SilentCode
pub mod Written
pub mod PlaceRuns
pub mod PlaceMatch
pub mod PastSilent
pub mod Quiet
pub mod PastCalm
pub mod Passing
pub mod PastPrograms
mod HeldCases
