-- Where marks are spans, it doesn't matter where the parent of a node is told to begin: what a
-- mapping makes of an expression is the same.
use Rattle.std.specs.Prelude.{ℕ, List}
use Rattle.jr_text.specs.declared.spans.Span.{Span}
use Rattle.jr_ast.specs.Tree as tree
use Rattle.jr_grammar.specs.Layout.{itself}
use Rattle.jr_table.specs.Rows.{Row}
use Rattle.jr_table.specs.Context.{Context}
use Rattle.jr_table.specs.Binding.{Role}
use Rattle.jr_images.specs.Spelling.{choosing}
use Rattle.jr_rewrite.specs.Rewritten.{Rewritten}
use Rattle.jr_rewrite.specs.Rewrites.{RewritesExp}
use Rattle.jr_bodies.specs.Bodies.{begins}
use Rattle.jr_new_words.specs.Mappings.{Mapping, region_of}

abbrev pub SpansHaveNoBase : Type 0
SpansHaveNoBase = (rows : List Row) (m : Mapping) (super_at : Context → ℕ) (c : Context)
    (r : Role) (base other : ℕ) (e : tree.Exp Span) (o : Rewritten (tree.Exp Span))
    → RewritesExp itself (choosing begins rows (region_of rows m) super_at) c r base e o
    → RewritesExp itself (choosing begins rows (region_of rows m) super_at) c r other e o
