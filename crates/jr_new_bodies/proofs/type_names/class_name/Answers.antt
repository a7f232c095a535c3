use Rattle.std.proofs.Common.{◌≡◌, ℕ, Option, Some, None, ap, sym, subst, ◌∙◌, refl}
use Rattle.std.specs.Prelude.{option_map, IfOk}
use Rattle.std.proofs.lemmas.Result.{IfOk-weaker}
use Rattle.jr_text.specs.declared.spans.Span.{Span}
use Rattle.jr_ast.specs.Tree as tree
use Rattle.jr_ast.specs.declared.names.Ident.{Ident}
use Rattle.jr_ast.specs.View.{word_of, type_of, type_kind, expr_of, exprs_of}
use Rattle.jr_table.specs.Binding.{value, left}
use Rattle.jr_bind_expr.specs.Fits.{FitsNamed, FitsType}
use Rattle.jr_new_words.specs.ChoiceView.{choice_of}
use Rattle.jr_new_words.specs.Chosen as chosen
use Rattle.jr_new_words.specs.Spelled as spells
use Rattle.jr_new_bodies.specs.Effects.{Effect, both}
use Rattle.jr_new_bodies.specs.OutputView as out
use Rattle.jr_new_bodies.specs.OutputView.{gathered}
use Rattle.jr_new_bodies.specs.Known.{rows_of, mapping_of, context_of, role_of, NamedIsBound, NameSpells, TypeIsBound}
use Rattle.jr_new_bodies.specs.Walks.{NamedGathers, TypeGathers}
use Rattle.jr_new_bodies.proofs.Bound.{named_bound}
use Rattle.jr_new_bodies.proofs.Giving as gives
use Rattle.jr_new_bodies.proofs.Oks.{on_ok}
use Rattle.jr_new_bodies.proofs.type_names.class_name.Goals as goal

pub simple_class-requires-clause-fits : goal.simple_class-requires-clause-fits
simple_class-requires-clause-fits g c =
    let T = g.A.Mark.span_from in
    let F = g.A.Mark.fits_at in
    let B = λ (k : g.row.A.Denot) (b : ℕ). (g.A.Mark.span_from k b).from in
    let h = c.args.here.now in
    let rows = rows_of h in
    let n = mapping_of h in
    let x = context_of h in
    let old = gathered c.args.out.now in
    (subst (λ (o : Option (Ident g.row.A.Denot)). FitsNamed F c.args.at (option_map word_of o) (word_of c.args.name.now)) c.in-None.is c.requires.fits).1

pub simple_class-requires-clause-bound : goal.simple_class-requires-clause-bound
simple_class-requires-clause-bound g c =
    let T = g.A.Mark.span_from in
    let F = g.A.Mark.fits_at in
    let B = λ (k : g.row.A.Denot) (b : ℕ). (g.A.Mark.span_from k b).from in
    let h = c.args.here.now in
    let rows = rows_of h in
    let n = mapping_of h in
    let x = context_of h in
    let old = gathered c.args.out.now in
    subst (λ (o : Option (Ident g.row.A.Denot)). NamedIsBound rows x (option_map word_of o) (word_of c.args.name.now)) c.in-None.is c.requires.bound

pub inner_class-requires-clause-fits_outer : goal.inner_class-requires-clause-fits_outer
inner_class-requires-clause-fits_outer g c =
    let T = g.A.Mark.span_from in
    let F = g.A.Mark.fits_at in
    let B = λ (k : g.row.A.Denot) (b : ℕ). (g.A.Mark.span_from k b).from in
    let h = c.args.here.now in
    let rows = rows_of h in
    let n = mapping_of h in
    let x = context_of h in
    let old = gathered c.args.out.now in
    (subst (λ (o : Option (Ident g.row.A.Denot)). FitsNamed F c.args.at (option_map word_of o) (word_of c.args.name.now)) c.in-Some.is c.requires.fits).0

pub inner_class-requires-clause-fits : goal.inner_class-requires-clause-fits
inner_class-requires-clause-fits g c =
    let T = g.A.Mark.span_from in
    let F = g.A.Mark.fits_at in
    let B = λ (k : g.row.A.Denot) (b : ℕ). (g.A.Mark.span_from k b).from in
    let h = c.args.here.now in
    let rows = rows_of h in
    let n = mapping_of h in
    let x = context_of h in
    let old = gathered c.args.out.now in
    (subst (λ (o : Option (Ident g.row.A.Denot)). FitsNamed F c.args.at (option_map word_of o) (word_of c.args.name.now)) c.in-Some.is c.requires.fits).1

pub inner_class-requires-clause-first : goal.inner_class-requires-clause-first
inner_class-requires-clause-first g c =
    let T = g.A.Mark.span_from in
    let F = g.A.Mark.fits_at in
    let B = λ (k : g.row.A.Denot) (b : ℕ). (g.A.Mark.span_from k b).from in
    let h = c.args.here.now in
    let rows = rows_of h in
    let n = mapping_of h in
    let x = context_of h in
    let old = gathered c.args.out.now in
    (subst (λ (o : Option (Ident g.row.A.Denot)). NamedIsBound rows x (option_map word_of o) (word_of c.args.name.now)) c.in-Some.is c.requires.bound).0

pub inner_class-requires-clause-bound : goal.inner_class-requires-clause-bound
inner_class-requires-clause-bound g c =
    let T = g.A.Mark.span_from in
    let F = g.A.Mark.fits_at in
    let B = λ (k : g.row.A.Denot) (b : ℕ). (g.A.Mark.span_from k b).from in
    let h = c.args.here.now in
    let rows = rows_of h in
    let n = mapping_of h in
    let x = context_of h in
    let old = gathered c.args.out.now in
    (subst (λ (o : Option (Ident g.row.A.Denot)). NamedIsBound rows x (option_map word_of o) (word_of c.args.name.now)) c.in-Some.is c.requires.bound).1

pub returns-in-None : goal.returns-in-None
returns-in-None g c =
    let T = g.A.Mark.span_from in
    let F = g.A.Mark.fits_at in
    let B = λ (k : g.row.A.Denot) (b : ℕ). (g.A.Mark.span_from k b).from in
    let h = c.args.here.now in
    let rows = rows_of h in
    let n = mapping_of h in
    let x = context_of h in
    let old = gathered c.args.out.now in
    subst (λ (o : Option (Ident g.row.A.Denot)). IfOk c.simple_class.result (λ _. NamedGathers T h c.args.at (option_map word_of o) (word_of c.args.name.now) old (gathered c.simple_class.new.out))) (sym c.in-None.is) c.simple_class.ensures

pub returns-in-Some : goal.returns-in-Some
returns-in-Some g c =
    let T = g.A.Mark.span_from in
    let F = g.A.Mark.fits_at in
    let B = λ (k : g.row.A.Denot) (b : ℕ). (g.A.Mark.span_from k b).from in
    let h = c.args.here.now in
    let rows = rows_of h in
    let n = mapping_of h in
    let x = context_of h in
    let old = gathered c.args.out.now in
    subst (λ (o : Option (Ident g.row.A.Denot)). IfOk c.inner_class.result (λ _. NamedGathers T h c.args.at (option_map word_of o) (word_of c.args.name.now) old (gathered c.inner_class.new.out))) (sym c.in-Some.is) c.inner_class.ensures
