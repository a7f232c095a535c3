-- A step that is taken in place.
use Rattle.std.specs.Prelude.{◌≡◌, Bool, true, false, Option, Some, None, Result, Ok, Err}

-- what stands there after it is the next state; `false` where there is none
abbrev pub GoesTo : {S E : Type 0} → Result Bool E → S → Option S → Type 0
GoesTo (Ok true) s next = next ≡ Some s
GoesTo (Ok false) s next = next ≡ None
GoesTo (Err e) s next = Unit {0}
