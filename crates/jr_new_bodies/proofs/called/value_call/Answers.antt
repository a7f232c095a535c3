use Rattle.std.proofs.Common.{◌≡◌, ℕ, Option, Some, None, ap, sym, subst, ◌∙◌, inl, inr, refl}
use Rattle.std.specs.Prelude.{option_map}
use Rattle.jr_text.specs.declared.spans.Span.{Span}
use Rattle.jr_ast.specs.Tree as tree
use Rattle.jr_ast.specs.Marks.{exp_mark}
use Rattle.jr_ast.specs.View.{word_of, type_of, expr_of, exprs_of}
use Rattle.jr_ast.proofs.Rows.{expr_mark_is}
use Rattle.jr_table.specs.Keys.{Ty, class}
use Rattle.jr_table.specs.TypeView.{class_key_of, ty_of}
use Rattle.jr_table.specs.Binding.{value, left, statement, variable}
use Rattle.jr_bind_expr.proofs.Steps.{own_fits}
use Rattle.jr_new_words.specs.ChoiceView.{choice_of}
use Rattle.jr_new_words.specs.Chosen as chosen
use Rattle.jr_new_words.specs.Mappings.{type_now}
use Rattle.jr_new_bodies.specs.declared.here.Role.{Role}
use Rattle.jr_new_bodies.specs.Known.{rows_of, mapping_of, context_of, role_of, NameIsBound, NameSpells, DottedIsBound, DottedSpells}
use Rattle.jr_new_bodies.specs.MeaningView.{AreTypes}
use Rattle.jr_new_bodies.proofs.Choices as choices
use Rattle.jr_new_bodies.proofs.Choices.{some_where, some_here, of_some}
use Rattle.jr_new_bodies.proofs.Typed.{writes_is, creation_at}
use Rattle.jr_new_bodies.proofs.called.value_call.Goals as goal

pub unwrap-requires : goal.unwrap-requires
unwrap-requires g c =
    let h = c.args.here.now in
    let rows = rows_of h in
    let n = mapping_of h in
    let x = context_of h in
    let are = c.keeps_rows.ensures in
    let keys = c.lookups_are_exact.ensures.keys rows are in
    let B = λ (k : g.row.A.Denot) (b : ℕ). (g.A.Mark.span_from k b).from in
    let exact = c.types_are_exact.ensures.bound rows are keys x in
    some_where choice_of c.in_ok-choice.choice (λ o. chosen.CallIsChosen rows n x c.args.at (class_key_of c.args.class.now) (ty_of c.in_ok-now.now) c.args.name.now c.args.types.now c.in_ok-images.images o) c.in_ok-choice.ensures (choices.call_there rows are keys n x B c.args.name.now (exprs_of c.args.args.now) (expr_of c.args.part.now) (class_key_of c.args.class.now) (ty_of c.in_ok-now.now) c.args.types.now c.in_ok-images.images c.args.at (inr c.requires.value) c.requires.types c.requires.bound)

pub returns : goal.returns
returns g c =
    let h = c.args.here.now in
    let rows = rows_of h in
    let n = mapping_of h in
    let x = context_of h in
    let are = c.keeps_rows.ensures in
    let keys = c.lookups_are_exact.ensures.keys rows are in
    let B = λ (k : g.row.A.Denot) (b : ℕ). (g.A.Mark.span_from k b).from in
    let exact = c.types_are_exact.ensures.bound rows are keys x in
    let made = of_some choice_of c.in_ok-choice.choice c.unwrap.result (λ o. chosen.CallIsChosen rows n x c.args.at (class_key_of c.args.class.now) (ty_of c.in_ok-now.now) c.args.name.now c.args.types.now c.in_ok-images.images o) c.unwrap.ensures c.in_ok-choice.ensures in
    choices.call_chosen rows are keys n x B c.args.name.now (exprs_of c.args.args.now) (expr_of c.args.part.now) (class_key_of c.args.class.now) c.args.types.now c.args.at (choice_of c.unwrap.result) c.requires.value c.requires.types (subst (λ us. chosen.CallIsChosen rows n x c.args.at (class_key_of c.args.class.now) (type_now n x (expr_of c.args.part.now) (class (class_key_of c.args.class.now))) c.args.name.now c.args.types.now us (Some (choice_of c.unwrap.result))) c.in_ok-images.ensures (subst (λ t. chosen.CallIsChosen rows n x c.args.at (class_key_of c.args.class.now) t c.args.name.now c.args.types.now c.in_ok-images.images (Some (choice_of c.unwrap.result))) c.in_ok-now.ensures made))
