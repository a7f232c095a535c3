use Rattle.std.proofs.Common.{◌≡◌, ℕ, Option, Some, None, ap, sym, subst, ◌∙◌, refl}
use Rattle.std.specs.Prelude.{option_map, IfOk}
use Rattle.std.proofs.lemmas.Result.{IfOk-weaker}
use Rattle.jr_text.specs.declared.spans.Span.{Span}
use Rattle.jr_ast.specs.Tree as tree
use Rattle.jr_ast.specs.declared.names.Ident.{Ident}
use Rattle.jr_ast.specs.View.{word_of, type_of, type_kind, expr_of, exprs_of}
use Rattle.jr_table.specs.Binding.{value, left}
use Rattle.jr_bind_expr.specs.Fits.{FitsNamed, FitsType}
use Rattle.jr_new_words.specs.ChoiceView.{choice_of}
use Rattle.jr_new_words.specs.Chosen as chosen
use Rattle.jr_new_words.specs.Spelled as spells
use Rattle.jr_new_bodies.specs.Effects.{Effect, both}
use Rattle.jr_new_bodies.specs.OutputView as out
use Rattle.jr_new_bodies.specs.OutputView.{gathered}
use Rattle.jr_new_bodies.specs.Known.{rows_of, mapping_of, context_of, role_of, NamedIsBound, NameSpells, TypeIsBound}
use Rattle.jr_new_bodies.specs.Walks.{NamedGathers, TypeGathers}
use Rattle.jr_new_bodies.proofs.Bound.{named_bound}
use Rattle.jr_new_bodies.proofs.Giving as gives
use Rattle.jr_new_bodies.proofs.Oks.{on_ok}
use Rattle.jr_new_bodies.proofs.node_words.simple.Goals as goal

pub returns : goal.returns
returns g c =
    let T = g.A.Mark.span_from in
    let F = g.A.Mark.fits_at in
    let B = λ (k : g.row.A.Denot) (b : ℕ). (g.A.Mark.span_from k b).from in
    let h = c.args.here.now in
    let rows = rows_of h in
    let n = mapping_of h in
    let x = context_of h in
    let old = gathered c.args.out.now in
    let ch = choice_of c.in_ok-choice.choice in
    let w = word_of c.args.name.now in
    on_ok c.put_alone.result (λ e. (ch, subst (λ (k : ℕ). NameSpells rows n x (role_of c.args.role) k w.text ch) (ap (λ (z : Span). z.from) c.span-word.ensures) c.in_ok-choice.ensures, e ∙ ap (λ (s : Span). both old (out.alone ch s)) c.span-word.ensures)) c.put_alone.ensures
