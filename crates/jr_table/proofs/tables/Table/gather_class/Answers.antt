use Rattle.std.proofs.Common.{◌≡◌, ◌<◌, sym, subst}
use Rattle.jr_index.specs.Linked.{IsFirstFrom}
use Rattle.jr_table.specs.Entries.{entries_of}
use Rattle.jr_table.specs.MemberIndex.{member_place}
use Rattle.jr_table.specs.Gathering.{is_met, entry_named}
use Rattle.jr_table.proofs.MemberWalk.{left, fewer_left, first_named, next_named}
use Rattle.jr_table.proofs.GatherWalk.{Met, met_starts, met_goes_on, met_all}
use Rattle.jr_table.proofs.tables.Table.gather_class.Goals as goal

pub loop-next-init : goal.loop-next-init
loop-next-init c =
    let es = entries_of c.args.self.now in
    let name = c.args.name.now in
    let first = first_named member_place es _ _ c.members.ensures c.args.at name in
    (met_starts es c.args.at name (is_met c.args.gathering.now.met) _ (subst (IsFirstFrom (entry_named c.args.at name) es 0) (sym c.first-next.ensures) first), λ g. g)

pub returns-in_default : goal.returns-in_default
returns-in_default c =
    let es = entries_of c.args.self.now in
    let met = is_met c.loop-next.gathering.met in
    record { gathers = c.loop-next.invariant.1; done = met_all es c.args.at c.args.name.now met (subst (Met es c.args.at c.args.name.now met) c.in_default.is c.loop-next.invariant.0) }

pub loop-next-smaller : goal.loop-next-smaller
loop-next-smaller c =
    let es = entries_of c.args.self.now in
    let name = c.args.name.now in
    let here = subst (Met es c.args.at name (is_met c.loop-next.gathering.met)) c.in-Some.is c.loop-next.invariant.0 in
    let next = next_named member_place es _ _ c.members-in-loop-next.ensures c.args.at name c.in-Some.number here.next.1 in
    let follows = subst (IsFirstFrom (entry_named c.args.at name) es _) (sym c.next-next.ensures) next in
    subst (λ o. left es c.next-next.result < left es o) (sym c.in-Some.is) (fewer_left (entry_named c.args.at name) (entry_named c.args.at name) es here.from c.in-Some.number c.next-next.result here.next follows)

pub loop-next-preserved : goal.loop-next-preserved
loop-next-preserved c =
    let es = entries_of c.args.self.now in
    let name = c.args.name.now in
    let met = is_met c.loop-next.gathering.met in
    let here = subst (Met es c.args.at name met) c.in-Some.is c.loop-next.invariant.0 in
    let next = next_named member_place es _ _ c.members-in-loop-next.ensures c.args.at name c.in-Some.number here.next.1 in
    let follows = subst (IsFirstFrom (entry_named c.args.at name) es _) (sym c.next-next.ensures) next in
    let takes = c.in_ok-gather_row.ensures name in (
      met_goes_on es c.args.at name met (is_met c.gather_row.new.gathering.met) c.in-Some.number c.next-next.result takes.kept takes.here here follows,
      λ g. takes.gathers here.next.1 (c.loop-next.invariant.1 g),
    )
