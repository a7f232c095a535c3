-- The flags of a member's locals, and that by them a graph or a footprint has a test for null just
-- where the value may be null.
use Rattle.std.specs.Prelude.{◌≡◌, ◌↔◌, ℕ, Bool, IsTrue, List, [], Option}
use Rattle.jr_ast.specs.Tree as tree
use Rattle.jr_cover.specs.NeverNullTrees.{NeverNull}
use Rattle.jr_cover.specs.Spots.{Spot}
use Rattle.jr_never_null.specs.Flags.{flags_behind, init_of}
use Rattle.jr_expr_sites.specs.KnownFacts.{Given, Others, known_of, is_never_null}

-- The flags of what is given are those of the member: by the initializers of its locals in the
-- order of their numbers, and which of them are assigned.
abbrev pub AreFlagsOf : Given → Others → (is_assigned : ℕ → Bool)
    → (inits : List (Option (tree.Exp Spot))) → Type 0
AreFlagsOf g o is_assigned inits =
    g.never_null ≡ flags_behind (known_of g o).facts is_assigned [] inits

-- By such flags a value is taken for never null exactly where the rules say so.
abbrev pub FlagsTellTheMember : Type 0
FlagsTellTheMember = (g : Given) (o : Others) (is_assigned : ℕ → Bool)
    (inits : List (Option (tree.Exp Spot))) → AreFlagsOf g o is_assigned inits
    → (e : tree.Exp Spot) → (IsTrue (is_never_null g e)
    ↔ NeverNull (known_of g o).facts (init_of inits) is_assigned e)
