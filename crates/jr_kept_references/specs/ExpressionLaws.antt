-- The law of a rename, of expressions: each reference is bound to the image of what it was bound
-- to.
use Rattle.std.specs.Prelude.{◌≡◌, ℕ, List, []}
use Rattle.jr_text.specs.declared.spans.Span.{Span}
use Rattle.jr_ast.specs.Tree as tree
use Rattle.jr_table.specs.Rows.{Row}
use Rattle.jr_table.specs.Conditions.{AreRows}
use Rattle.jr_table.specs.Context.{Context}
use Rattle.jr_table.specs.Binding.{Role}
use Rattle.jr_rewrite.specs.Rewritten.{Rewritten}
use Rattle.jr_rewrite.specs.Rewrites.{RewritesExp}
use Rattle.jr_images.specs.Images.{Renaming}
use Rattle.jr_images.specs.Spelling.{spelling}
use Rattle.jr_images.specs.Standing.{ContextTo}
use Rattle.jr_images.specs.Keeping.{IsKept}
use Rattle.jr_images.specs.RenameLaws.{IsFair}

-- at each place of the new program that stands for one of the old
abbrev pub ExpressionsAreKept : Type 0 → Type 0
ExpressionsAreKept A = (tells : A → ℕ → Span) (rows : List Row) (g : Renaming)
    (super_at : Context → ℕ) (c d : Context) (r : Role) (base : ℕ) (e : tree.Exp A)
    (o : Rewritten (tree.Exp A)) → AreRows rows → IsFair rows g → ContextTo g rows c d
    → RewritesExp tells (spelling (λ m b. (tells m b).from) rows g super_at) c r base e o
    → o.losses ≡ [] → (b i : ℕ)
    → IsKept (λ m b. (tells m b).from) (λ m b. (tells m b).from) g rows c d r b e i o.tree
