-- The limits of a shelf.
use Rattle.std.specs.Prelude.{ℕ}

-- how many bytes a file has at most
abbrev pub file_limit : ℕ
file_limit = 1048576

-- how many stores a shelf in memory takes
abbrev pub store_limit : ℕ
store_limit = 1024
