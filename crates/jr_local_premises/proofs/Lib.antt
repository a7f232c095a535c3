-- `Fronts`: numbers of a member's parts. `Bodies`: bodies of members. `Rows`: types have rows.
-- `Within`: what is known along a way. `Selecting`: what is selected. `Types`: how its
-- type is written.
mod Fronts
mod Bodies
mod Rows
mod Within
mod Selecting
mod Types
