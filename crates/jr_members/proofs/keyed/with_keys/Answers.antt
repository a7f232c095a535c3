use Rattle.std.proofs.Common.{◌+◌, map, sym, ap, ◌∙◌}
use Rattle.std.specs.Prelude.{option_map}
use Rattle.jr_table.specs.RowView.{row_of}
use Rattle.jr_members.specs.Fitting.{begins_by}
use Rattle.jr_members.specs.PartView.{placed_of, written_of}
use Rattle.jr_members.proofs.KeyedSteps.{no_items, stops, goes_on, ends}
use Rattle.jr_members.proofs.keyed.with_keys.Goals as goal

pub returns-in_default : goal.returns-in_default
returns-in_default g c =
    let now = map written_of c.loop-placed.members.items in
    stops (begins_by g.A.Mark.span_from) c.args.table.now _ now c.loop-placed.row (placed_of c.in-Some.placed) _ (map placed_of c.next.new.self.rest.items) (ap (map placed_of) c.in-Some.ensures.steps.0)
    (sym c.row_at.ensures ∙ ap (option_map (λ r. row_of r.now)) c.in_default.is) c.loop-placed.invariant

pub loop-placed-preserved : goal.loop-placed-preserved
loop-placed-preserved g c =
    let now = map written_of c.loop-placed.members.items in
    let p = c.in-Some.placed in
    let made = c.in_ok-push_keyed.ensures in
    goes_on (begins_by g.A.Mark.span_from) c.args.table.now _ now c.loop-placed.row (placed_of p) _ (map placed_of c.next.new.self.rest.items) (row_of c.in-Some-row_at.declared.now) _ _ (ap (map placed_of) c.in-Some.ensures.steps.0)
    (sym c.row_at.ensures ∙ ap (option_map (λ r. row_of r.now)) c.in-Some-row_at.is) (ap (λ n. c.loop-placed.row + n) c.row_count-row.ensures) made c.loop-placed.invariant

pub returns : goal.returns
returns g c =
    let rest = c.loop-placed.placed-iterator.rest in
    let none = no_items rest.items (sym rest.ok.0 ∙ c.in-None.ensures.steps.0) in
    ends (begins_by g.A.Mark.span_from) c.args.table.now _ (map written_of c.loop-placed.members.items) c.loop-placed.row (map placed_of rest.items) (ap (map placed_of) none) c.loop-placed.invariant
