use Rattle.std.proofs.Common.{map}
use Rattle.jr_build_declared.specs.KeyIndex.{name_key_at, IsIndexOf}
use Rattle.jr_build_declared.specs.DeclaredView.{declaration_of}
use Rattle.jr_build_declared.proofs.twice_classes.names_of_members.Given as goal

-- the names of the declarations so far are in the index
abbrev pub invariant-loop-number : goal.invariant-loop-number
invariant-loop-number l = IsIndexOf name_key_at (map declaration_of l.declarations) l.number l.index
