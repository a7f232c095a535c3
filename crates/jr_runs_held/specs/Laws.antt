-- The laws on held locals, at any types of keys.
use Rattle.std.specs.Prelude.{◌≡◌}
use Rattle.jr_runs.specs.Keys.{keys_of}
use Rattle.jr_runs.specs.Core.{Program}
use Rattle.jr_runs.specs.KeyMaps.{same_keys}
use Rattle.jr_runs.specs.Images.{ProgramTo}
use Rattle.jr_runs.specs.Alike.{AlikeExactly}
use Rattle.jr_runs_held.specs.Held.{HoldsLocal}

-- Q is P but for locals that hold what P evaluates where it needs it: extract local, where what is
-- extracted reads locals alone.
abbrev pub HeldLocalsKeepRuns : (C F M N A : Type 0) → Type 0
HeldLocalsKeepRuns C F M N A = (P Q : Program (keys_of C F M N A))
    → ProgramTo same_keys (HoldsLocal same_keys P.rows) P Q → AlikeExactly same_keys P Q

-- The same from Q to P: inline local of such an initializer, its value cast or not where it is
-- read.
abbrev pub HeldLocalsGo : (C F M N A : Type 0) → Type 0
HeldLocalsGo C F M N A = (P Q : Program (keys_of C F M N A)) → Q.rows ≡ P.rows
    → ProgramTo same_keys (HoldsLocal same_keys P.rows) P Q → AlikeExactly same_keys Q P
