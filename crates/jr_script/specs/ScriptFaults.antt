-- Which fault bytes have that are no script.
use Rattle.std.specs.Prelude.{◌≡◌, ℕ, ◌<◌, ◌≤◌, List, ◌∷◌, ◌++◌, length, All, None}
use Rattle.serde_json.specs.Data.{Data, array}
use Rattle.serde_json.specs.Find.{as_array}
use Rattle.serde_json.specs.View.{items_of}
use Rattle.jr_names.specs.declared.steps.Step.{Step}
use Rattle.jr_script.specs.declared.faults.ScriptFault.{ScriptFault}
use Rattle.jr_script.specs.declared.faults.ScriptFault.TheVariants.{TooLong, NotJson, NotAList}
use Rattle.jr_script.specs.declared.faults.ScriptFault.TheVariants.{TooMany, NotAScript, Memory}
use Rattle.jr_script.specs.Steps.{Means}
use Rattle.jr_script.specs.StepFaults.{IsBad}
use Rattle.jr_script.specs.Scripts.{script_limit, step_limit, HasValue}

-- each element in front of the place is a step, and of the one there the member is told
pub record IsFirstBad (elements : List Data) (place : ℕ) (member : List ℕ) : Type 0 where
  pub front : List Data
  pub element : Data
  pub back : List Data
  pub split : elements ≡ front ++ element ∷ back
  pub count : place ≡ length front
  pub steps : All (λ d. (s : Step) × Means d s) front
  pub bad : IsBad element member

-- In this order: too long, no JSON, no array, too many elements, an element that is no step. Memory
-- is wanted only for bytes that aren't too long.
abbrev pub IsScriptFault : List ℕ → ScriptFault → Type 0
IsScriptFault bytes TooLong = script_limit < length bytes
IsScriptFault bytes NotJson = (length bytes ≤ script_limit) × ((d : Data) → ¬ HasValue bytes d)
IsScriptFault bytes NotAList =
    (length bytes ≤ script_limit) × ((d : Data) × HasValue bytes d × (as_array d ≡ None))
IsScriptFault bytes (TooMany count) =
    (length bytes ≤ script_limit) × ((elements : List Data)
    × HasValue bytes (array (items_of elements)) × (step_limit < length elements)
    × (count ≡ length elements))
IsScriptFault bytes (NotAScript step member) =
    (length bytes ≤ script_limit) × ((elements : List Data)
    × HasValue bytes (array (items_of elements)) × (length elements ≤ step_limit)
    × IsFirstBad elements step member)
IsScriptFault bytes Memory = length bytes ≤ script_limit

-- ---- for private clauses

abbrev pub IsValueFault : List ℕ → ScriptFault → Type 0
IsValueFault bytes TooLong = ⊥
IsValueFault bytes NotJson = (d : Data) → ¬ HasValue bytes d
IsValueFault bytes NotAList = ⊥
IsValueFault bytes (TooMany count) = ⊥
IsValueFault bytes (NotAScript step member) = ⊥
IsValueFault bytes Memory = Unit {0}

abbrev pub IsElementFault : List Data → ScriptFault → Type 0
IsElementFault elements TooLong = ⊥
IsElementFault elements NotJson = ⊥
IsElementFault elements NotAList = ⊥
IsElementFault elements (TooMany count) = ⊥
IsElementFault elements (NotAScript step member) = IsFirstBad elements step member
IsElementFault elements Memory = Unit {0}
