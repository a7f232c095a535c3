use Rattle.std.proofs.Common.{map}
use Rattle.jr_words.specs.Asked.{operand_of}
use Rattle.jr_files.specs.Views.{store_of}
use Rattle.jr_top.specs.OutputView.{dir_of}
use Rattle.jr_top.specs.Scripts.{sources_from}
use Rattle.jr_top.proofs.Changed.{StoresUpTo}
use Rattle.jr_top.proofs.outputs.changed_files.Given as goal

-- what changed among the files so far
abbrev pub invariant-loop-number : goal.invariant-loop-number
invariant-loop-number l = StoresUpTo (dir_of l.out) (sources_from (map operand_of l.files) (map (λ b. b.items) l.read)) l.session.files l.number (map store_of l.stores.items)
