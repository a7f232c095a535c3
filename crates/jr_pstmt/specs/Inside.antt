-- One machine that reads inside another.
use Rattle.std.specs.Prelude.{Option, Some, None, unwrap_or, option_map}

-- the one inside goes on where it can; else what is whole there is taken by the other
abbrev pub inner : {S N : Type 0} → (S → N) → Option N → Option S → Option N
inner within taken (Some next) = Some (within next)
inner within taken None = taken

-- where what is inside has become whole, the other goes on behind it
abbrev pub settled : {S T N : Type 0} → (S → N) → (T → N) → (S → Option T) → S → N
settled within behind whole next = unwrap_or (option_map behind (whole next)) (within next)
