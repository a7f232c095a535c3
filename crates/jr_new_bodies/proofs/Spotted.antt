-- What comes of a part of a tree beside spots: node by node where none is, else as the spot has it.
use Rattle.std.proofs.Common.{◌≡◌, ℕ, Some, None, refl, sym, ap, ◌∙◌, inl, inr}
use Rattle.jr_text.specs.declared.spans.Span.{Span}
use Rattle.jr_ast.specs.Tree as tree
use Rattle.jr_ast.specs.StatementTree as statement
use Rattle.jr_ast.specs.Marks.{exp_mark}
use Rattle.jr_table.specs.Binding.{Role}
use Rattle.jr_table.specs.Context.{Context}
use Rattle.jr_rewrite.specs.Rewritten.{Rewritten}
use Rattle.jr_rewrite.specs.Spots.{Asks, level, OrThis, OrPart, OrList}
use Rattle.jr_ast.specs.declared.exprs.Expr.{Expr}
use Rattle.jr_ast.specs.View.{expr_of}
use Rattle.jr_ast.proofs.Rows.{expr_mark_is}
use Rattle.jr_new_bodies.specs.Spotting.{PartSpot, Spotting, no_spots, at_parts, part_at, part_out, Unseen, spots_of, PartStays}

module _ {A : Type 0} (tells : A → ℕ → Span) (u : Unseen A) where
  pub by_node : (z : Spotting) (k : Asks) (c : Context) (r : Role) (base : ℕ) (e : tree.Exp A) (o : Rewritten (tree.Exp A)) (N : Type 0) → PartStays tells z k base e → N → OrPart (spots_of tells u z) k c r base e o N
  by_node no_spots k c r base e o N stays x = x
  by_node (at_parts ps) k c r base e o N stays x = inl (stays, x)

  pub by_spot : (z : Spotting) (least : ℕ) (c : Context) (r : Role) (base : ℕ) (e : tree.Exp A) (p : PartSpot) (N : Type 0) → part_at (tells (exp_mark e) base) z ≡ Some p
      → OrPart (spots_of tells u z) (level least) c r base e (part_out p least (u.part p.at least)) N
  by_spot no_spots least c r base e p N is = absurd cc
  by_spot (at_parts ps) least c r base e p N is = inr (p, is, refl)

  pub this_by_node : (z : Spotting) (N : Type 0) → N → OrThis (spots_of tells u z) N
  this_by_node no_spots N x = x
  this_by_node (at_parts ps) N x = (tt, x)

  pub list_by_node : (z : Spotting) (n : ℕ) (c : Context) (base : ℕ) (xs : statement.Stmts A) (o : Rewritten (statement.Stmts A)) (N : Type 0) → N → OrList (spots_of tells u z) n c base xs o N
  list_by_node no_spots n c base xs o N x = x
  list_by_node (at_parts ps) n c base xs o N x = inl (tt, x)

-- ---- as the code asks for them

-- an expression's bytes
pub span_is : {A : Type 0} (tells : A → ℕ → Span) (e : Expr A) (base : ℕ) (s : Span) → s ≡ tells e.mark base → s ≡ tells (exp_mark (expr_of e)) base
span_is tells e base s is = is ∙ ap (λ m. tells m base) (sym (expr_mark_is e))
