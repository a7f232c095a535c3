use Rattle.std.proofs.Common.{◌≡◌, ℕ, Option, Some, None, ap, sym, subst, ◌∙◌, inl, inr, refl}
use Rattle.std.specs.Prelude.{option_map}
use Rattle.jr_text.specs.declared.spans.Span.{Span}
use Rattle.jr_ast.specs.Tree as tree
use Rattle.jr_ast.specs.Marks.{exp_mark}
use Rattle.jr_ast.specs.View.{word_of, type_of, expr_of, exprs_of}
use Rattle.jr_ast.proofs.Rows.{expr_mark_is}
use Rattle.jr_table.specs.Keys.{Ty}
use Rattle.jr_table.specs.TypeView.{class_key_of}
use Rattle.jr_table.specs.Binding.{value, left, statement, variable}
use Rattle.jr_bind_expr.proofs.Steps.{own_fits}
use Rattle.jr_new_words.specs.ChoiceView.{choice_of}
use Rattle.jr_new_words.specs.FrontView.{in_front_of}
use Rattle.jr_new_words.specs.Chosen as chosen
use Rattle.jr_new_bodies.specs.declared.here.Role.{Role}
use Rattle.jr_new_bodies.specs.Known.{rows_of, mapping_of, context_of, role_of, NameIsBound, NameSpells, DottedIsBound, DottedSpells}
use Rattle.jr_new_bodies.specs.MeaningView.{AreTypes}
use Rattle.jr_new_bodies.proofs.Choices as choices
use Rattle.jr_new_bodies.proofs.Choices.{some_where, some_here, of_some}
use Rattle.jr_new_bodies.proofs.Typed.{writes_is, creation_at}
use Rattle.jr_new_bodies.proofs.chosen.inner_choice.Goals as goal

pub unwrap-requires : goal.unwrap-requires
unwrap-requires g c =
    let h = c.args.here.now in
    let rows = rows_of h in
    let n = mapping_of h in
    let x = context_of h in
    let are = c.keeps_rows.ensures in
    let keys = c.lookups_are_exact.ensures.keys rows are in
    let B = λ (k : g.row.A.Denot) (b : ℕ). (g.A.Mark.span_from k b).from in
    some_where choice_of c.in_ok-choice-in-Left.choice (λ o. chosen.MemberClassIsChosen rows n x c.args.at (in_front_of c.args.words.now) (class_key_of c.args.class.now) c.args.name.now o) c.in_ok-choice-in-Left.ensures (choices.inner_there rows are keys n x B (expr_of c.args.part.now) c.args.name.now (class_key_of c.args.class.now) (in_front_of c.args.words.now) c.args.at c.requires.class c.requires.none (subst (λ r. DottedIsBound B rows x (role_of r) (expr_of c.args.part.now) c.args.name.now) c.in-Left.is c.requires.bound))

pub returns : goal.returns
returns g c =
    let h = c.args.here.now in
    let rows = rows_of h in
    let n = mapping_of h in
    let x = context_of h in
    let are = c.keeps_rows.ensures in
    let keys = c.lookups_are_exact.ensures.keys rows are in
    let B = λ (k : g.row.A.Denot) (b : ℕ). (g.A.Mark.span_from k b).from in
    let made = of_some choice_of c.in_ok-choice-in-Left.choice c.unwrap.result (λ o. chosen.MemberClassIsChosen rows n x c.args.at (in_front_of c.args.words.now) (class_key_of c.args.class.now) c.args.name.now o) c.unwrap.ensures c.in_ok-choice-in-Left.ensures in
    subst (λ r. DottedSpells B rows n x (role_of r) c.args.at (expr_of c.args.part.now) c.args.name.now (choice_of c.unwrap.result)) (sym c.in-Left.is) (choices.inner_chosen rows are keys n x B (expr_of c.args.part.now) c.args.name.now (class_key_of c.args.class.now) (in_front_of c.args.words.now) c.args.at (choice_of c.unwrap.result) c.requires.class c.requires.words made)

pub unreachable-requires : goal.unreachable-requires
unreachable-requires g c =
    let h = c.args.here.now in
    let rows = rows_of h in
    let n = mapping_of h in
    let x = context_of h in
    let are = c.keeps_rows.ensures in
    let keys = c.lookups_are_exact.ensures.keys rows are in
    let B = λ (k : g.row.A.Denot) (b : ℕ). (g.A.Mark.span_from k b).from in
    choices.never_field rows are keys n x B (expr_of c.args.part.now) c.args.name.now (class_key_of c.args.class.now) c.requires.class c.requires.none (λ f y. (subst (λ r. DottedIsBound B rows x (role_of r) (expr_of c.args.part.now) c.args.name.now) c.in-Value.is c.requires.bound) variable f (refl, y))

pub unreachable-requires-in-Statement : goal.unreachable-requires-in-Statement
unreachable-requires-in-Statement g c =
    let h = c.args.here.now in
    let rows = rows_of h in
    let n = mapping_of h in
    let x = context_of h in
    let are = c.keeps_rows.ensures in
    let keys = c.lookups_are_exact.ensures.keys rows are in
    let B = λ (k : g.row.A.Denot) (b : ℕ). (g.A.Mark.span_from k b).from in
    choices.never_field rows are keys n x B (expr_of c.args.part.now) c.args.name.now (class_key_of c.args.class.now) c.requires.class c.requires.none (λ f y. (subst (λ r. DottedIsBound B rows x (role_of r) (expr_of c.args.part.now) c.args.name.now) c.in-Statement.is c.requires.bound) variable f (refl, y))
