use Rattle.std.proofs.Common.{◌≡◌, ℕ, Option, Some, None, ap, sym, subst, ◌∙◌, refl}
use Rattle.std.specs.Prelude.{option_map, IfOk}
use Rattle.std.proofs.lemmas.Result.{IfOk-weaker}
use Rattle.jr_text.specs.declared.spans.Span.{Span}
use Rattle.jr_ast.specs.Tree as tree
use Rattle.jr_ast.specs.declared.names.Ident.{Ident}
use Rattle.jr_ast.specs.View.{word_of, type_of, type_kind, expr_of, exprs_of}
use Rattle.jr_table.specs.Binding.{value, left}
use Rattle.jr_bind_expr.specs.Fits.{FitsNamed, FitsType}
use Rattle.jr_new_words.specs.ChoiceView.{choice_of}
use Rattle.jr_new_words.specs.Chosen as chosen
use Rattle.jr_new_words.specs.Spelled as spells
use Rattle.jr_new_bodies.specs.Effects.{Effect, both}
use Rattle.jr_new_bodies.specs.OutputView as out
use Rattle.jr_new_bodies.specs.OutputView.{gathered}
use Rattle.jr_new_bodies.specs.Known.{rows_of, mapping_of, context_of, role_of, NamedIsBound, NameSpells, TypeIsBound}
use Rattle.jr_new_bodies.specs.Walks.{NamedGathers, TypeGathers}
use Rattle.jr_new_bodies.proofs.Bound.{named_bound}
use Rattle.jr_new_bodies.proofs.Giving as gives
use Rattle.jr_new_bodies.proofs.Oks.{on_ok}
use Rattle.jr_new_bodies.proofs.type_names.written_type.Goals as goal

pub span-at-requires : goal.span-at-requires
span-at-requires g c =
    let T = g.A.Mark.span_from in
    let F = g.A.Mark.fits_at in
    let B = λ (k : g.row.A.Denot) (b : ℕ). (g.A.Mark.span_from k b).from in
    let h = c.args.here.now in
    let rows = rows_of h in
    let n = mapping_of h in
    let x = context_of h in
    let old = gathered c.args.out.now in
    (subst (FitsType B F c.args.base) (ap (type_kind c.args.of.now.mark) c.in-Named.is) c.requires.fits).0

pub class_name-requires-clause-fits : goal.class_name-requires-clause-fits
class_name-requires-clause-fits g c =
    let T = g.A.Mark.span_from in
    let F = g.A.Mark.fits_at in
    let B = λ (k : g.row.A.Denot) (b : ℕ). (g.A.Mark.span_from k b).from in
    let h = c.args.here.now in
    let rows = rows_of h in
    let n = mapping_of h in
    let x = context_of h in
    let old = gathered c.args.out.now in
    subst (λ (k : ℕ). FitsNamed F k (option_map word_of c.in-Named.outer) (word_of c.in-Named.name)) (sym (ap (λ (z : Span). z.from) c.span-at.ensures)) (subst (FitsType B F c.args.base) (ap (type_kind c.args.of.now.mark) c.in-Named.is) c.requires.fits).1

pub class_name-requires-clause-bound : goal.class_name-requires-clause-bound
class_name-requires-clause-bound g c =
    let T = g.A.Mark.span_from in
    let F = g.A.Mark.fits_at in
    let B = λ (k : g.row.A.Denot) (b : ℕ). (g.A.Mark.span_from k b).from in
    let h = c.args.here.now in
    let rows = rows_of h in
    let n = mapping_of h in
    let x = context_of h in
    let old = gathered c.args.out.now in
    named_bound B rows x c.args.base c.args.of.now.mark (option_map word_of c.in-Named.outer) (word_of c.in-Named.name) (subst (TypeIsBound B rows x c.args.base) (ap (type_kind c.args.of.now.mark) c.in-Named.is) c.requires.bound)

pub returns-in-Int : goal.returns-in-Int
returns-in-Int g c =
    let T = g.A.Mark.span_from in
    let F = g.A.Mark.fits_at in
    let B = λ (k : g.row.A.Denot) (b : ℕ). (g.A.Mark.span_from k b).from in
    let h = c.args.here.now in
    let rows = rows_of h in
    let n = mapping_of h in
    let x = context_of h in
    let old = gathered c.args.out.now in
    subst (λ u. TypeGathers T h c.args.base u old old) (sym (ap (type_kind c.args.of.now.mark) c.in-Int.is)) (gives.int_gives T h c.args.base c.args.of.now.mark old)

pub returns-in-Boolean : goal.returns-in-Boolean
returns-in-Boolean g c =
    let T = g.A.Mark.span_from in
    let F = g.A.Mark.fits_at in
    let B = λ (k : g.row.A.Denot) (b : ℕ). (g.A.Mark.span_from k b).from in
    let h = c.args.here.now in
    let rows = rows_of h in
    let n = mapping_of h in
    let x = context_of h in
    let old = gathered c.args.out.now in
    subst (λ u. TypeGathers T h c.args.base u old old) (sym (ap (type_kind c.args.of.now.mark) c.in-Boolean.is)) (gives.boolean_gives T h c.args.base c.args.of.now.mark old)

pub returns-in-Named : goal.returns-in-Named
returns-in-Named g c =
    let T = g.A.Mark.span_from in
    let F = g.A.Mark.fits_at in
    let B = λ (k : g.row.A.Denot) (b : ℕ). (g.A.Mark.span_from k b).from in
    let h = c.args.here.now in
    let rows = rows_of h in
    let n = mapping_of h in
    let x = context_of h in
    let old = gathered c.args.out.now in
    let new = gathered c.class_name.new.out in
    IfOk-weaker c.class_name.result _ _ (λ _ y. subst (λ u. TypeGathers T h c.args.base u old new) (sym (ap (type_kind c.args.of.now.mark) c.in-Named.is))
    (gives.named_gives T h c.args.base c.args.of.now.mark (option_map word_of c.in-Named.outer) (word_of c.in-Named.name) old new (subst (λ (k : ℕ). NamedGathers T h k (option_map word_of c.in-Named.outer) (word_of c.in-Named.name) old new) (ap (λ (z : Span). z.from) c.span-at.ensures) y))) c.class_name.ensures
