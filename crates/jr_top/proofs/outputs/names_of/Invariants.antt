use Rattle.std.proofs.Common.{◌≡◌, map, take}
use Rattle.jr_top.specs.OutputView.{text_of}
use Rattle.jr_top.proofs.outputs.names_of.Given as goal

-- the names so far
abbrev pub invariant-loop-file : goal.invariant-loop-file
invariant-loop-file l = l.names.items ≡ map text_of (take l.file-index l.files)
