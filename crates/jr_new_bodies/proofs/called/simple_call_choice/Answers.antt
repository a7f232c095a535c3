use Rattle.std.proofs.Common.{◌≡◌, ℕ, Option, Some, None, ap, sym, subst, ◌∙◌, inl, inr, refl}
use Rattle.std.specs.Prelude.{option_map}
use Rattle.jr_text.specs.declared.spans.Span.{Span}
use Rattle.jr_ast.specs.Tree as tree
use Rattle.jr_ast.specs.Marks.{exp_mark}
use Rattle.jr_ast.specs.View.{word_of, type_of, expr_of, exprs_of}
use Rattle.jr_ast.proofs.Rows.{expr_mark_is}
use Rattle.jr_table.specs.Keys.{Ty}
use Rattle.jr_table.specs.TypeView.{class_key_of}
use Rattle.jr_table.specs.Binding.{value, left, statement, variable}
use Rattle.jr_bind_expr.proofs.Steps.{own_fits}
use Rattle.jr_new_words.specs.ChoiceView.{choice_of}
use Rattle.jr_new_words.specs.Chosen as chosen
use Rattle.jr_new_bodies.specs.declared.here.Role.{Role}
use Rattle.jr_new_bodies.specs.Known.{rows_of, mapping_of, context_of, role_of, NameIsBound, NameSpells, DottedIsBound, DottedSpells}
use Rattle.jr_new_bodies.specs.MeaningView.{AreTypes}
use Rattle.jr_new_bodies.proofs.Choices as choices
use Rattle.jr_new_bodies.proofs.Choices.{some_where, some_here, of_some}
use Rattle.jr_new_bodies.proofs.Typed.{writes_is, creation_at}
use Rattle.jr_new_bodies.proofs.called.simple_call_choice.Goals as goal

pub unwrap-types-requires : goal.unwrap-types-requires
unwrap-types-requires g c =
    let h = c.args.here.now in
    let rows = rows_of h in
    let n = mapping_of h in
    let x = context_of h in
    let are = c.keeps_rows.ensures in
    let keys = c.lookups_are_exact.ensures.keys rows are in
    let B = λ (k : g.row.A.Denot) (b : ℕ). (g.A.Mark.span_from k b).from in
    let exact = c.types_are_exact.ensures.bound rows are keys x in
    some_here c.in_ok-types.types (AreTypes rows x (exprs_of c.args.args.now)) c.in_ok-types.ensures (choices.types_there rows are keys n x B c.args.name.now (exprs_of c.args.args.now) c.requires.bound)

pub unwrap-requires : goal.unwrap-requires
unwrap-requires g c =
    let h = c.args.here.now in
    let rows = rows_of h in
    let n = mapping_of h in
    let x = context_of h in
    let are = c.keeps_rows.ensures in
    let keys = c.lookups_are_exact.ensures.keys rows are in
    let B = λ (k : g.row.A.Denot) (b : ℕ). (g.A.Mark.span_from k b).from in
    let exact = c.types_are_exact.ensures.bound rows are keys x in
    let have = subst (AreTypes rows x (exprs_of c.args.args.now)) c.unwrap-types.ensures c.in_ok-types.ensures in
    some_where choice_of c.in_ok-choice.choice (λ o. chosen.SimpleCallIsChosen rows n x c.args.at c.args.name.now c.unwrap-types.result c.in_ok-images.images o) c.in_ok-choice.ensures (choices.simple_there rows are keys n x B c.args.name.now (exprs_of c.args.args.now) c.unwrap-types.result c.in_ok-images.images c.args.at have c.requires.bound)

pub returns : goal.returns
returns g c =
    let h = c.args.here.now in
    let rows = rows_of h in
    let n = mapping_of h in
    let x = context_of h in
    let are = c.keeps_rows.ensures in
    let keys = c.lookups_are_exact.ensures.keys rows are in
    let B = λ (k : g.row.A.Denot) (b : ℕ). (g.A.Mark.span_from k b).from in
    let exact = c.types_are_exact.ensures.bound rows are keys x in
    let have = subst (AreTypes rows x (exprs_of c.args.args.now)) c.unwrap-types.ensures c.in_ok-types.ensures in
    let made = of_some choice_of c.in_ok-choice.choice c.unwrap.result (λ o. chosen.SimpleCallIsChosen rows n x c.args.at c.args.name.now c.unwrap-types.result c.in_ok-images.images o) c.unwrap.ensures c.in_ok-choice.ensures in
    choices.simple_chosen rows are keys n x B c.args.name.now (exprs_of c.args.args.now) c.unwrap-types.result c.args.at (choice_of c.unwrap.result) have (subst (λ us. chosen.SimpleCallIsChosen rows n x c.args.at c.args.name.now c.unwrap-types.result us (Some (choice_of c.unwrap.result))) c.in_ok-images.ensures made)
