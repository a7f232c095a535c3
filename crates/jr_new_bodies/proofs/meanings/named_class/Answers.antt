use Rattle.std.proofs.Common.{◌≡◌, ℕ, ap, sym, subst, ◌∙◌}
use Rattle.std.specs.Prelude.{option_map}
use Rattle.jr_text.specs.declared.spans.Span.{Span}
use Rattle.jr_ast.specs.Marks.{exp_mark}
use Rattle.jr_ast.specs.View.{word_of, expr_of}
use Rattle.jr_ast.proofs.Rows.{expr_mark_is}
use Rattle.jr_table.specs.TypeView.{class_key_of}
use Rattle.jr_bind_expr.proofs.Steps.{own_fits}
use Rattle.jr_new_bodies.specs.Known.{rows_of, context_of}
use Rattle.jr_new_bodies.proofs.Naming.{named_is, unnamed, word_fits}
use Rattle.jr_new_bodies.proofs.meanings.named_class.Goals as goal

pub span-at-requires : goal.span-at-requires
span-at-requires g c = own_fits (λ (k : g.row.A.Denot) (b : ℕ). (g.A.Mark.span_from k b).from) g.A.Mark.fits_at c.args.base c.args.of.now c.requires.fits

pub span-requires : goal.span-requires
span-requires g c =
    let B = λ (k : g.row.A.Denot) (b : ℕ). (g.A.Mark.span_from k b).from in
    let e = expr_of c.args.of.now in
    let at : c.span-at.result.from ≡ B (exp_mark e) c.args.base = ap (λ (z : Span). z.from) c.span-at.ensures ∙ ap (λ m. B m c.args.base) (sym (expr_mark_is c.args.of.now)) in
    subst (λ (n : ℕ). g.A.Mark.fits_at c.in-Some.name.now.mark n) (sym at) (word_fits B g.A.Mark.fits_at c.args.base e (word_of c.in-Some.name.now) (sym c.in-Some.ensures) c.requires.fits)

pub returns-in-None : goal.returns-in-None
returns-in-None g c = unnamed (rows_of c.args.here.now) (context_of c.args.here.now) (expr_of c.args.of.now) (sym c.in-None.ensures)

pub returns-in-Some : goal.returns-in-Some
returns-in-Some g c =
    let B = λ (k : g.row.A.Denot) (b : ℕ). (g.A.Mark.span_from k b).from in
    let h = c.args.here.now in
    let e = expr_of c.args.of.now in
    let m = c.in-Some.name.now.mark in
    let at : c.span-at.result.from ≡ B (exp_mark e) c.args.base = ap (λ (z : Span). z.from) c.span-at.ensures ∙ ap (λ k. B k c.args.base) (sym (expr_mark_is c.args.of.now)) in
    let keys = c.lookups_are_exact.ensures.keys (rows_of h) c.keeps_rows.ensures in
    let exact = c.types_are_exact.ensures.bound (rows_of h) c.keeps_rows.ensures keys (context_of h) in
    named_is B h c.keeps_rows.ensures keys (context_of h) exact c.args.base e (word_of c.in-Some.name.now) c.span.result.from (sym c.in-Some.ensures)
    (ap (λ (z : Span). z.from) c.span.ensures ∙ ap (λ n. B m n) at) c.requires.sound c.requires.refers _ c.class_found.ensures
