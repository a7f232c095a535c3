use Rattle.std.proofs.Common.{◌≡◌, ℕ, Option, Some, None, ap, sym, subst, ◌∙◌, inl, inr, refl}
use Rattle.std.specs.Prelude.{option_map}
use Rattle.jr_text.specs.declared.spans.Span.{Span}
use Rattle.jr_ast.specs.Tree as tree
use Rattle.jr_ast.specs.Marks.{exp_mark}
use Rattle.jr_ast.specs.View.{word_of, type_of, expr_of, exprs_of}
use Rattle.jr_ast.proofs.Rows.{expr_mark_is}
use Rattle.jr_table.specs.Keys.{Ty}
use Rattle.jr_table.specs.TypeView.{class_key_of}
use Rattle.jr_table.specs.Binding.{value, left, statement, variable}
use Rattle.jr_bind_expr.proofs.Steps.{own_fits}
use Rattle.jr_new_words.specs.ChoiceView.{choice_of}
use Rattle.jr_new_words.specs.Chosen as chosen
use Rattle.jr_new_bodies.specs.declared.here.Role.{Role}
use Rattle.jr_new_bodies.specs.Known.{rows_of, mapping_of, context_of, role_of, NameIsBound, NameSpells, DottedIsBound, DottedSpells}
use Rattle.jr_new_bodies.specs.MeaningView.{AreTypes}
use Rattle.jr_new_bodies.proofs.Choices as choices
use Rattle.jr_new_bodies.proofs.Choices.{some_where, some_here, of_some}
use Rattle.jr_new_bodies.proofs.Typed.{writes_is, creation_at}
use Rattle.jr_new_bodies.proofs.called.typed_creation.Goals as goal

pub unwrap-requires : goal.unwrap-requires
unwrap-requires g c =
    let h = c.args.here.now in
    let rows = rows_of h in
    let n = mapping_of h in
    let x = context_of h in
    let are = c.keeps_rows.ensures in
    let keys = c.lookups_are_exact.ensures.keys rows are in
    let B = λ (k : g.row.A.Denot) (b : ℕ). (g.A.Mark.span_from k b).from in
    let exact = c.types_are_exact.ensures.bound rows are keys x in
    let have = c.requires.types in
    let path = c.args.path.now.steps.items in
    let writes = writes_is h x path (type_of c.args.ty.now) (exprs_of c.args.args.now) c.requires.created (class_key_of c.in-Value.class.now) c.in-Value.ensures in
    some_where choice_of c.in_ok-choice-in-Value.choice (λ o. chosen.CreationIsChosen rows n x c.args.at (class_key_of c.in-Value.class.now) c.args.types.now c.in_ok-images-in-Value.images o) c.in_ok-choice-in-Value.ensures (choices.creation_there rows are keys n x B (exprs_of c.args.args.now) (type_of c.args.ty.now) (class_key_of c.in-Value.class.now) c.args.types.now c.in_ok-images-in-Value.images c.args.at writes have c.requires.bound)

pub returns : goal.returns
returns g c =
    let h = c.args.here.now in
    let rows = rows_of h in
    let n = mapping_of h in
    let x = context_of h in
    let are = c.keeps_rows.ensures in
    let keys = c.lookups_are_exact.ensures.keys rows are in
    let B = λ (k : g.row.A.Denot) (b : ℕ). (g.A.Mark.span_from k b).from in
    let exact = c.types_are_exact.ensures.bound rows are keys x in
    let have = c.requires.types in
    let path = c.args.path.now.steps.items in
    let writes = writes_is h x path (type_of c.args.ty.now) (exprs_of c.args.args.now) c.requires.created (class_key_of c.in-Value.class.now) c.in-Value.ensures in
    let made = of_some choice_of c.in_ok-choice-in-Value.choice c.unwrap.result (λ o. chosen.CreationIsChosen rows n x c.args.at (class_key_of c.in-Value.class.now) c.args.types.now c.in_ok-images-in-Value.images o) c.unwrap.ensures c.in_ok-choice-in-Value.ensures in
    choices.creation_chosen rows are keys n x B (exprs_of c.args.args.now) (type_of c.args.ty.now) (class_key_of c.in-Value.class.now) c.args.types.now c.args.at (choice_of c.unwrap.result) writes have (subst (λ us. chosen.CreationIsChosen rows n x c.args.at (class_key_of c.in-Value.class.now) c.args.types.now us (Some (choice_of c.unwrap.result))) c.in_ok-images-in-Value.ensures made)

pub unreachable-requires : goal.unreachable-requires
unreachable-requires g c =
    c.in-Class.ensures

pub unreachable-requires-in-Neither : goal.unreachable-requires-in-Neither
unreachable-requires-in-Neither g c =
    let h = c.args.here.now in
    let rows = rows_of h in
    let n = mapping_of h in
    let x = context_of h in
    let are = c.keeps_rows.ensures in
    let keys = c.lookups_are_exact.ensures.keys rows are in
    let B = λ (k : g.row.A.Denot) (b : ℕ). (g.A.Mark.span_from k b).from in
    let exact = c.types_are_exact.ensures.bound rows are keys x in
    let path = c.args.path.now.steps.items in
    let y = choices.creation_is rows are keys n x B (exprs_of c.args.args.now) (type_of c.args.ty.now) (exact.creations (type_of c.args.ty.now) (exprs_of c.args.args.now)) c.requires.bound in
    c.in-Neither.ensures y.0 (creation_at h x path (type_of c.args.ty.now) (exprs_of c.args.args.now) c.requires.created y.0 y.1 y.2 y.3 y.4 y.5)
