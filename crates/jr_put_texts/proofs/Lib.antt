-- Texts that are put in. `InOrder`: items stand in order by where they begin, and by where they end,
-- so that what a search by halves finds is the one that stands there. `Pieces`: a piece with its
-- changes, as it is put together from left to right.
mod InOrder
mod Pieces
