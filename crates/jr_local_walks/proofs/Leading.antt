-- What is rewritten by the walk's mapping is rewritten by a region that agrees with it at each place.
use Rattle.std.proofs.Common.{ℕ, List, Some, None}
use Rattle.jr_text.specs.declared.spans.Span.{Span}
use Rattle.jr_ast.specs.Tree as tree
use Rattle.jr_grammar.specs.Layout.{itself}
use Rattle.jr_table.specs.Rows.{Row}
use Rattle.jr_table.specs.Context.{Context}
use Rattle.jr_table.specs.Binding.{Role}
use Rattle.jr_rewrite.specs.Rewritten.{Rewritten}
use Rattle.jr_rewrite.specs.Spots.{Asks, Spotted, OrPart}
use Rattle.jr_rewrite.specs.Rewrites.{Choosing, RewritesType}
use Rattle.jr_images.specs.Regions.{Region}
use Rattle.jr_images.specs.Spelling.{choosing}
use Rattle.jr_pieces.specs.Standings.{Standing}
use Rattle.jr_local.specs.Bodies.{begins}
use Rattle.jr_local_walks.proofs.Agreeing.{Agree, expression_agrees, creation_agrees, type_agrees, qualifier_agrees}
use Rattle.jr_local_walks.proofs.Instead.{At}

module _ (rows : List Row) (R Q : Region Span) (super_at super_there : Context → ℕ) where
  abbrev pub C : Choosing Span
  C = choosing begins rows R super_at

  abbrev pub D : Choosing Span
  D = choosing begins rows Q super_there

  pub types_lead : (p : Standing) → Agree begins rows R Q p.context → (t : tree.TypeName Span) (o : Rewritten (tree.TypeName Span)) → RewritesType itself C p.context p.base t o → RewritesType itself D p.context p.base t o
  types_lead p a (tree.int m) o x = x
  types_lead p a (tree.boolean m) o x = x
  types_lead p a (tree.named m None w) o (h, chosen, is) = (h, type_agrees begins rows R Q p.context a p.base (tree.named m None w) h chosen, is)
  types_lead p a (tree.named m (Some v) w) o (g, h, front, chosen, is) =
      (g, h, qualifier_agrees begins rows R Q p.context a p.base (tree.named m (Some v) w) g front, type_agrees begins rows R Q p.context a p.base (tree.named m (Some v) w) h chosen, is)

  pub expressions_lead : (S T : Spotted Span) (p : Standing) (f : tree.Exp Span) → Agree begins rows R Q p.context
      → ((k : Asks) (r : Role) (o : Rewritten (tree.Exp Span)) (N M : Type 0) → (N → M) → OrPart S k p.context r p.base f o N → OrPart T k p.context r p.base f o M) → At itself C D S T p f
  expressions_lead S T p f a part = record {
    expression = λ r h x. expression_agrees begins rows R Q p.context a r p.base f h x;
    creation = λ h x. creation_agrees begins rows R Q p.context a p.base f h x;
    part = part;
  }
