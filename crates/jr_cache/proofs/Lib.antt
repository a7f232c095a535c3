-- `bounds_last` joins the three laws of jr_mentions (`BoundsLast`, `Lasting`). The n-th member of
-- both lists is the same part of a file that stays: by the files' numbers alone, side by side
-- (`FileParts`, `SamePlaces`, `SideBySide`, `Counting`, `OneByOne`). `HadBack`: what is had back.
pub mod BoundsLast
pub mod Counting
pub mod FileParts
pub mod SamePlaces
pub mod SideBySide
pub mod Lasting
pub mod OneByOne
pub mod HadBack
