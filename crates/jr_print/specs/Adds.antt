-- What a function that prints says of its buffer.
use Rattle.std.specs.Prelude.{◌≡◌, ℕ, List, ◌++◌, Result, OnOk, string_bytes}
use Rattle.std.specs.Global.{Global}
use Rattle.std.specs.declared.string.String.{String}

-- where it is Ok, the text has been put at the end of the buffer
abbrev pub Adds : {T E : Type 0} → Result T E → String Global → String Global → List ℕ → Type 0
Adds result old new text = OnOk result (string_bytes new ≡ string_bytes old ++ text)
