-- Which bytes are a script.
use Rattle.std.specs.Prelude.{◌≡◌, ℕ, ◌≤◌, List, length, Some, IsUtf8}
use Rattle.std.specs.List.{AllZip}
use Rattle.serde_json.specs.Data.{Data, array}
use Rattle.serde_json.specs.Read.{read}
use Rattle.serde_json.specs.View.{items_of}
use Rattle.jr_names.specs.declared.steps.Step.{Step}
use Rattle.jr_script.specs.Steps.{Means}

-- how many bytes a script has at most, and how many steps
abbrev pub script_limit : ℕ
script_limit = 1048576

abbrev pub step_limit : ℕ
step_limit = 1000

-- the bytes are a JSON text of the value, as `serde_json` reads it
abbrev pub HasValue : List ℕ → Data → Type 0
HasValue bytes d = IsUtf8 bytes × (read bytes ≡ Some d)

-- the bytes are an array of objects, each of which is the step at its place
pub record IsScript (bytes : List ℕ) (steps : List Step) : Type 0 where
  pub elements : List Data
  pub within : length bytes ≤ script_limit
  pub value : HasValue bytes (array (items_of elements))
  pub few : length elements ≤ step_limit
  pub means : AllZip Means elements steps
