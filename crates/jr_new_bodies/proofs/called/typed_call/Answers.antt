use Rattle.std.proofs.Common.{◌≡◌, ℕ, Option, Some, None, ap, sym, subst, ◌∙◌, inl, inr, refl}
use Rattle.std.specs.Prelude.{option_map}
use Rattle.jr_text.specs.declared.spans.Span.{Span}
use Rattle.jr_ast.specs.Tree as tree
use Rattle.jr_ast.specs.Marks.{exp_mark}
use Rattle.jr_ast.specs.View.{word_of, type_of, expr_of, exprs_of}
use Rattle.jr_ast.proofs.Rows.{expr_mark_is}
use Rattle.jr_table.specs.Keys.{Ty}
use Rattle.jr_table.specs.TypeView.{class_key_of}
use Rattle.jr_table.specs.Binding.{value, left, statement, variable}
use Rattle.jr_bind_expr.proofs.Steps.{own_fits}
use Rattle.jr_new_words.specs.ChoiceView.{choice_of}
use Rattle.jr_new_words.specs.Chosen as chosen
use Rattle.jr_new_bodies.specs.declared.here.Role.{Role}
use Rattle.jr_new_bodies.specs.Known.{rows_of, mapping_of, context_of, role_of, NameIsBound, NameSpells, DottedIsBound, DottedSpells}
use Rattle.jr_new_bodies.specs.MeaningView.{AreTypes}
use Rattle.jr_new_bodies.proofs.Choices as choices
use Rattle.jr_new_bodies.proofs.Choices.{some_where, some_here, of_some}
use Rattle.jr_new_bodies.proofs.Typed.{writes_is, creation_at}
use Rattle.jr_new_bodies.proofs.called.typed_call.Goals as goal

pub class_call-requires : goal.class_call-requires
class_call-requires g c =
    let h = c.args.here.now in
    let rows = rows_of h in
    let n = mapping_of h in
    let x = context_of h in
    let are = c.keeps_rows.ensures in
    let keys = c.lookups_are_exact.ensures.keys rows are in
    let B = λ (k : g.row.A.Denot) (b : ℕ). (g.A.Mark.span_from k b).from in
    record { known = c.requires.known; fits = c.requires.ready.0; sound = c.requires.ready.1; refers = c.requires.ready.2; class = c.in-Class.ensures; types = c.requires.types; bound = c.requires.bound }

pub value_call-requires : goal.value_call-requires
value_call-requires g c =
    let h = c.args.here.now in
    let rows = rows_of h in
    let n = mapping_of h in
    let x = context_of h in
    let are = c.keeps_rows.ensures in
    let keys = c.lookups_are_exact.ensures.keys rows are in
    let B = λ (k : g.row.A.Denot) (b : ℕ). (g.A.Mark.span_from k b).from in
    record { known = c.requires.known; value = c.in-Value.ensures; types = c.requires.types; bound = c.requires.bound }

pub unreachable-requires : goal.unreachable-requires
unreachable-requires g c =
    let h = c.args.here.now in
    let rows = rows_of h in
    let n = mapping_of h in
    let x = context_of h in
    let are = c.keeps_rows.ensures in
    let keys = c.lookups_are_exact.ensures.keys rows are in
    let B = λ (k : g.row.A.Denot) (b : ℕ). (g.A.Mark.span_from k b).from in
    choices.no_call rows are keys n x B c.args.name.now (exprs_of c.args.args.now) (expr_of c.args.part.now) c.requires.bound c.in-Neither.ensures
