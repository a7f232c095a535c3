use Rattle.std.proofs.Common.{◌≡◌, ℕ, ◌<◌, map}
use Rattle.std.specs.Prelude.{Some, slice_get}
use Rattle.jr_ast.specs.Tree as tree
use Rattle.jr_ast.specs.View.{word_of}
use Rattle.jr_ast.specs.declared.members.Unit.{Unit}
use Rattle.jr_build_declared.specs.Packages.{package_names}
use Rattle.jr_build_declared.proofs.packages.package_differs.Given as goal

-- the files so far have the first one's names
abbrev pub invariant-loop-file : goal.invariant-loop-file
invariant-loop-file g l = (i : ℕ) (u v : Unit g.row.A.Denot) → i < l.file → slice_get l.units i ≡ Some u → slice_get l.units 0 ≡ Some v
    → package_names (map word_of u.package.items) ≡ package_names (map word_of v.package.items)
