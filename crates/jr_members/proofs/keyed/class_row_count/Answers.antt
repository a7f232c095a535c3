use Rattle.std.proofs.Common.{◌≡◌, Bool, true, false, sym, ap, ◌∙◌}
use Rattle.std.specs.Prelude.{if◌then◌else◌}
use Rattle.jr_ast.specs.View.{members_of}
use Rattle.jr_ast.proofs.Rows.{class_of-out}
use Rattle.jr_table.specs.DeclaredItems.{writes_ctor}
use Rattle.jr_table.specs.Errors.{class_part}
use Rattle.jr_members.specs.Fitting.{begins_by}
use Rattle.jr_members.specs.WrittenMembers as members
use Rattle.jr_members.proofs.keyed.class_row_count.Goals as goal

pub returns-then-writes_ctor : goal.returns-then-writes_ctor
returns-then-writes_ctor g c =
    let B = begins_by g.A.Mark.span_from in
    let writes : true ≡ writes_ctor B (members_of _) = sym c.if-writes_ctor.true ∙ c.writes_ctor.ensures ∙ ap (λ ms. writes_ctor B (members_of ms)) c.deref.ensures.value in
    ap (λ (b : Bool). if b then 1 else 2) writes ∙ sym (ap (λ d. members.row_count B (class_part d)) (class_of-out _ c.args.class.now))

pub returns-else-writes_ctor : goal.returns-else-writes_ctor
returns-else-writes_ctor g c =
    let B = begins_by g.A.Mark.span_from in
    let writes : false ≡ writes_ctor B (members_of _) = sym c.if-writes_ctor.false ∙ c.writes_ctor.ensures ∙ ap (λ ms. writes_ctor B (members_of ms)) c.deref.ensures.value in
    ap (λ (b : Bool). if b then 1 else 2) writes ∙ sym (ap (λ d. members.row_count B (class_part d)) (class_of-out _ c.args.class.now))
