use Rattle.std.proofs.Common.{◌≡◌, ℕ, Option, Some, None, ap, sym, subst, ◌∙◌, inl, inr, refl}
use Rattle.std.specs.Prelude.{option_map}
use Rattle.jr_text.specs.declared.spans.Span.{Span}
use Rattle.jr_ast.specs.Tree as tree
use Rattle.jr_ast.specs.Marks.{exp_mark}
use Rattle.jr_ast.specs.View.{word_of, type_of, expr_of, exprs_of}
use Rattle.jr_ast.proofs.Rows.{expr_mark_is}
use Rattle.jr_table.specs.Keys.{Ty}
use Rattle.jr_table.specs.TypeView.{class_key_of}
use Rattle.jr_table.specs.Binding.{value, left, statement, variable}
use Rattle.jr_bind_expr.proofs.Steps.{own_fits}
use Rattle.jr_new_words.specs.ChoiceView.{choice_of}
use Rattle.jr_new_words.specs.FrontView.{in_front_of}
use Rattle.jr_new_words.specs.Chosen as chosen
use Rattle.jr_new_bodies.specs.declared.here.Role.{Role}
use Rattle.jr_new_bodies.specs.Known.{rows_of, mapping_of, context_of, role_of, NameIsBound, NameSpells, DottedIsBound, DottedSpells}
use Rattle.jr_new_bodies.specs.MeaningView.{AreTypes}
use Rattle.jr_new_bodies.proofs.Choices as choices
use Rattle.jr_new_bodies.proofs.Choices.{some_where, some_here, of_some}
use Rattle.jr_new_bodies.proofs.Typed.{writes_is, creation_at}
use Rattle.jr_new_bodies.proofs.chosen.through_class.Goals as goal

pub inner_choice-requires-clause-none : goal.inner_choice-requires-clause-none
inner_choice-requires-clause-none g c =
    let h = c.args.here.now in
    let rows = rows_of h in
    let n = mapping_of h in
    let x = context_of h in
    let are = c.keeps_rows.ensures in
    let keys = c.lookups_are_exact.ensures.keys rows are in
    let B = λ (k : g.row.A.Denot) (b : ℕ). (g.A.Mark.span_from k b).from in
    subst (λ o. chosen.StaticFieldIsChosen rows n x c.args.at (in_front_of c.in_ok-words.words) (class_key_of c.args.class.now) c.args.name.now (option_map choice_of o)) c.in-None.is c.in_ok-found.ensures

pub returns-in-Some : goal.returns-in-Some
returns-in-Some g c =
    let h = c.args.here.now in
    let rows = rows_of h in
    let n = mapping_of h in
    let x = context_of h in
    let are = c.keeps_rows.ensures in
    let keys = c.lookups_are_exact.ensures.keys rows are in
    let B = λ (k : g.row.A.Denot) (b : ℕ). (g.A.Mark.span_from k b).from in
    choices.class_field_chosen rows are keys n x B (expr_of c.args.part.now) c.args.name.now (role_of c.args.role) (class_key_of c.args.class.now) (in_front_of c.in_ok-words.words) c.args.at (choice_of c.in-Some.choice) c.requires.class c.in_ok-words.ensures (subst (λ o. chosen.StaticFieldIsChosen rows n x c.args.at (in_front_of c.in_ok-words.words) (class_key_of c.args.class.now) c.args.name.now (option_map choice_of o)) c.in-Some.is c.in_ok-found.ensures)
