use Rattle.std.proofs.Common.{◌≡◌, drop, map}
use Rattle.std.specs.Prelude.{◌↔◌}
use Rattle.jr_ast.specs.View.{word_of}
use Rattle.jr_build_declared.specs.Packages.{package_names}
use Rattle.jr_build_declared.proofs.packages.same_package.Given as goal

-- all names are the same exactly where those that are left are
abbrev pub invariant-loop-number : goal.invariant-loop-number
invariant-loop-number g l =
    (package_names (map word_of l.left) ≡ package_names (map word_of l.right)) ↔ (package_names (map word_of (drop l.number l.left)) ≡ package_names (map word_of (drop l.number l.right)))
