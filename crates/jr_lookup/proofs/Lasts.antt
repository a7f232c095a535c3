-- The last local of a name, as a walk over the locals finds it.
use Rattle.std.proofs.Common.{◌≡◌, Option, Some, None, refl}
use Rattle.jr_table.specs.Decls.{LocalKey}
use Rattle.jr_table.specs.Scope.{or_later}

pub or_none : (a : Option LocalKey) → or_later a None ≡ a
or_none None = refl
or_none (Some x) = refl

pub or_or : (a b c : Option LocalKey) → or_later (or_later a b) c ≡ or_later a (or_later b c)
or_or None b c = refl
or_or (Some x) b c = refl
