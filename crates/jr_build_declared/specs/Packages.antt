-- The package lines of a program's files (JLS 7.4). A tree has the names; the place of the word
-- `package` is told beside it.
use Rattle.std.specs.Prelude.{ℕ, List, [], ◌∷◌, Option, Some, None, map}
use Rattle.jr_ast.specs.Tree as tree
use Rattle.jr_ast.specs.MemberTree as syntax
use Rattle.jr_table.specs.Faults.{PackageLine}

module _ {A : Type 0} where
  abbrev pub package_names : List (tree.Word A) → List (List ℕ)
  package_names ws = map (λ (w : tree.Word A). w.text) ws

  abbrev pub line_of : ℕ → List (tree.Word A) → Option PackageLine
  line_of at [] = None
  line_of at (w ∷ ws) = Some (record { at = at; names = package_names (w ∷ ws) })

  -- the lines of the files, each with the place of its word
  abbrev pub lines_of : List ℕ → List (syntax.Unit A) → List (Option PackageLine)
  lines_of (at ∷ ats) (u ∷ us) = line_of at u.package_name ∷ lines_of ats us
  lines_of _ _ = []
