-- The laws on runs, at any types of keys.
use Rattle.jr_runs.specs.Keys.{keys_of}
use Rattle.jr_runs.specs.Actions.{Trace}
use Rattle.jr_runs.specs.Core.{Program}
use Rattle.jr_runs.specs.Running.{Start, Ending, Whole}
use Rattle.jr_runs.specs.Starting.{IsStart}
use Rattle.jr_runs.specs.Typing.{WellTyped}
use Rattle.jr_runs.specs.TypedRuns.{EndFits, CallsAreWellMade}
use Rattle.jr_runs.specs.KeyMaps.{KeyMap, Undoes}
use Rattle.jr_runs.specs.Images.{Renamed}
use Rattle.jr_runs.specs.Alike.{AlikeExactly}

-- r has an inverse: it is one to one, and onto all keys.
abbrev pub RenamedProgramsAreAlike : (C F M N A : Type 0) → Type 0
RenamedProgramsAreAlike C F M N A = (r s : KeyMap (keys_of C F M N A)) → Undoes r s → Undoes s r
    → (P Q : Program (keys_of C F M N A)) → Renamed r P Q → AlikeExactly r P Q

-- each call and constructor run is made on a receiver and arguments that fit, and answers what fits
abbrev pub CallsAreMadeWell : (C F M N A : Type 0) → Type 0
CallsAreMadeWell C F M N A = (P : Program (keys_of C F M N A)) → WellTyped P → CallsAreWellMade P

-- a run on a receiver and arguments that fit, if it ended, has a value of the result's type
abbrev pub EndsFit : (C F M N A : Type 0) → Type 0
EndsFit C F M N A =
    (P : Program (keys_of C F M N A)) → WellTyped P → (c : Start (keys_of C F M N A))
    → IsStart P.rows c → (t : Trace (keys_of C F M N A)) (e : Ending (keys_of C F M N A))
    → Whole P c t e
    → EndFits P.rows c e
