-- Steps that are taken in place.
use Rattle.std.proofs.Common.{◌≡◌, Bool, true, false, Option, Some, None, refl, sym, ap, subst, ◌∙◌}
use Rattle.std.specs.Prelude.{Result, Ok, Err, option_map}
use Rattle.std.specs.declared.alloc.AllocError.{AllocError}
use Rattle.jr_pstmt.specs.InPlace.{GoesTo}

-- what is inside went on, and what is around it with it
pub goes_within : {S N E : Type 0} (within : S → N) (result : Result Bool E) (s : S) (next : Option S) → GoesTo result s next → GoesTo result (within s) (option_map within next)
goes_within within (Ok true) s next h = ap (option_map within) h
goes_within within (Ok false) s next h = ap (option_map within) h
goes_within within (Err e) s next h = tt

-- it went on
pub went : {S : Type 0} (b : Bool) (s : S) (next : Option S) → GoesTo {E = AllocError} (Ok b) s next → b ≡ true → next ≡ Some s
went true s next h e = h
went false s next h e = absurd cc

-- there was none to go on to
pub stayed : {S : Type 0} (b : Bool) (s : S) (next : Option S) → GoesTo {E = AllocError} (Ok b) s next → b ≡ false → next ≡ None
stayed true s next h e = absurd cc
stayed false s next h e = h
