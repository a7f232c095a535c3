use Rattle.std.proofs.Common.{◌≡◌, ◌<◌, ℕ, Option, Some, None, ap, sym, subst, ◌∙◌}
use Rattle.std.proofs.lemmas.Result.{IfOk-weaker}
use Rattle.jr_text.specs.declared.spans.Span.{Span}
use Rattle.jr_ast.specs.Tree as tree
use Rattle.jr_ast.specs.Marks.{exp_mark}
use Rattle.jr_ast.specs.View.{expr_of}
use Rattle.jr_ast.proofs.Rows.{expr_mark_is}
use Rattle.jr_ast.proofs.Sizes.{exp_size}
use Rattle.jr_table.specs.TypeView.{class_key_of}
use Rattle.jr_bind_expr.proofs.Steps.{own_fits}
use Rattle.jr_new_words.specs.FrontView.{in_front_of}
use Rattle.jr_new_bodies.specs.Known.{rows_of, mapping_of, context_of}
use Rattle.jr_new_bodies.proofs.Naming.{front_ready, front_smaller, first_stands, next_stands, front_named}
use Rattle.jr_new_bodies.proofs.chosen.+words_stand.Goals as goal

pub span-at-requires : goal.span-at-requires
span-at-requires g t c =
    let B = λ (k : g.row.A.Denot) (b : ℕ). (g.A.Mark.span_from k b).from in
    own_fits B g.A.Mark.fits_at c.args.base c.args.of.now c.requires.fits

pub named_class-requires : goal.named_class-requires
named_class-requires g t c =
    let h = c.args.here.now in
    let x = context_of h in
    let B = λ (k : g.row.A.Denot) (b : ℕ). (g.A.Mark.span_from k b).from in
    let e = expr_of c.args.of.now in
    let start : c.span-at.result.from ≡ B (exp_mark e) c.args.base = ap (λ (z : Span). z.from) c.span-at.ensures ∙ ap (λ m. B m c.args.base) (sym (expr_mark_is c.args.of.now)) in
    let r = front_ready B g.A.Mark.fits_at h x c.args.base e (expr_of c.in-Some.part.now) c.span-at.result.from (sym c.in-Some.ensures) start (c.requires.fits, c.requires.sound, c.requires.refers) in
    record { fits = r.0; sound = r.1; refers = r.2 }

pub words_stand-requires : goal.words_stand-requires
words_stand-requires g t c =
    let h = c.args.here.now in
    let x = context_of h in
    let B = λ (k : g.row.A.Denot) (b : ℕ). (g.A.Mark.span_from k b).from in
    let e = expr_of c.args.of.now in
    let start : c.span-at.result.from ≡ B (exp_mark e) c.args.base = ap (λ (z : Span). z.from) c.span-at.ensures ∙ ap (λ m. B m c.args.base) (sym (expr_mark_is c.args.of.now)) in
    let is = sym c.in-Some.ensures in
    let r = front_ready B g.A.Mark.fits_at h x c.args.base e (expr_of c.in-Some.part.now) c.span-at.result.from is start (c.requires.fits, c.requires.sound, c.requires.refers) in
    λ κs o. (subst (λ n. exp_size (expr_of c.in-Some.part.now) < n) c.decreases (front_smaller e (expr_of c.in-Some.part.now) is), (o, (c.requires.known, (r.0, (r.1, (r.2, c.in-Some-named_class.ensures))))))

pub returns-in-None : goal.returns-in-None
returns-in-None g t c =
    let h = c.args.here.now in
    IfOk-weaker c.first_word.result _ _ (λ w stands. first_stands (rows_of h) (mapping_of h) (context_of h) (class_key_of c.args.class.now) (in_front_of w) (expr_of c.args.of.now) (sym c.in-None.ensures) stands) c.first_word.ensures

pub unreachable-requires : goal.unreachable-requires
unreachable-requires g t c =
    let h = c.args.here.now in
    front_named (rows_of h) (context_of h) (class_key_of c.args.class.now) (expr_of c.args.of.now) (expr_of c.in-Some.part.now) (sym c.in-Some.ensures) c.requires.class c.in-None-named_class.ensures

pub returns-in_ok-words-in-Some-named_class : goal.returns-in_ok-words-in-Some-named_class
returns-in_ok-words-in-Some-named_class g t c =
    let h = c.args.here.now in
    let words = c.in_ok-words-in-Some-named_class in
    IfOk-weaker c.next_word.result _ _ (λ w stands. next_stands (rows_of h) (mapping_of h) (context_of h) (class_key_of c.args.class.now) (in_front_of w) (expr_of c.args.of.now) (expr_of c.in-Some.part.now) (sym c.in-Some.ensures) (class_key_of c.in-Some-named_class.outer.now) c.in-Some-named_class.ensures (in_front_of words.words) words.ensures stands) c.next_word.ensures
