use Rattle.std.proofs.Common.{take, map}
use Rattle.std.specs.List.{AllZip}
use Rattle.serde_json.specs.View.{view}
use Rattle.jr_script.specs.Steps.{Means}
use Rattle.jr_script.proofs.scripts.read_steps.Given as goal

abbrev pub invariant-loop-element : goal.invariant-loop-element
invariant-loop-element l = AllZip Means (map view (take l.element-index l.elements)) l.steps.items
