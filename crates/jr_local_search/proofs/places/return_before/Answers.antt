use Rattle.std.proofs.Common.{◌≡◌, ◌∙◌, ℕ, true, false, Option, Some, None, sym}
use Rattle.std.specs.Prelude.{slice_get}
use Rattle.jr_text.specs.declared.spans.Span.{Span}
use Rattle.jr_ast.specs.View.{stmts_of}
use Rattle.jr_grammar.specs.Layout.{itself}
use Rattle.jr_pieces.specs.Returns.{returns_in_list}
use Rattle.jr_local_search.proofs.PlaceCases.{no_return, late_return}
use Rattle.jr_local_search.proofs.places.return_before.Goals as goal

pub returns-in-None : goal.returns-in-None
returns-in-None c = λ base. no_return (slice_get (returns_in_list itself base (stmts_of c.args.list.now)) 0) c.args.at (c.first_return.ensures base ∙ c.in-None.is)

pub returns-then-ends_by : goal.returns-then-ends_by
returns-then-ends_by c = λ base. (c.first_return.ensures base ∙ c.in-Some.is, c.ends_by.ensures.0 c.if-ends_by.true)

pub returns-else-ends_by : goal.returns-else-ends_by
returns-else-ends_by c = λ base.
    late_return (slice_get (returns_in_list itself base (stmts_of c.args.list.now)) 0) c.args.at c.in-Some.span (c.first_return.ensures base ∙ c.in-Some.is) (λ le. apart (sym (c.ends_by.ensures.1 le) ∙ c.if-ends_by.false))
  where
    apart : true ≡ false → ⊥
    apart j = cc
