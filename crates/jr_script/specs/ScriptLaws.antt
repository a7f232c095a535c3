-- What holds of the bytes of each script.
use Rattle.std.specs.Prelude.{◌≡◌, ℕ, ◌⊎◌, List}
use Rattle.jr_names.specs.declared.steps.Step.{Step}
use Rattle.jr_script.specs.declared.faults.ScriptFault.{ScriptFault}
use Rattle.jr_script.specs.declared.faults.ScriptFault.TheVariants.{Memory}
use Rattle.jr_script.specs.Scripts.{IsScript}
use Rattle.jr_script.specs.ScriptFaults.{IsScriptFault}

-- bytes mean one list of steps at most
abbrev pub MeansOneList : Type 0
MeansOneList = (bytes : List ℕ) (steps others : List Step) → IsScript bytes steps
    → IsScript bytes others → steps ≡ others

-- a script has no fault, but that memory may be wanted
abbrev pub ScriptHasNoFault : Type 0
ScriptHasNoFault = (bytes : List ℕ) (steps : List Step) (fault : ScriptFault) → IsScript bytes steps
    → IsScriptFault bytes fault → fault ≡ Memory

-- other bytes have one fault at most beside that
abbrev pub HasOneFault : Type 0
HasOneFault = (bytes : List ℕ) (fault other : ScriptFault) → IsScriptFault bytes fault
    → IsScriptFault bytes other → (fault ≡ Memory) ⊎ ((other ≡ Memory) ⊎ (fault ≡ other))
