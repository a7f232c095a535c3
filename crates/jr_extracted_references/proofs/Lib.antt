-- Lowest first: `Worlds` (what is known of both programs), `Locals` (locals in scope side by side), `Rooms`
-- (their images, and lists of those in scope), `Counts` (how many are declared), `SpotStatements`,
-- `SpotMembers` (statements and members side by side, beside a list that becomes something else), `Around`
-- (places outside of the list), `Made` (places where the made local is in scope), `Spot` (what the list has
-- become), `Whole`.
pub mod Worlds
pub mod Locals
pub mod Rooms
pub mod Counts
pub mod SpotStatements
pub mod SpotMembers
pub mod Around
pub mod Made
pub mod Spot
pub mod Whole
