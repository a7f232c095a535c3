use Rattle.std.proofs.Common.{◌≡◌, ◌<◌, [], ◌∷◌, ◌++◌, cond, sym, ap, subst, ◌∙◌}
use Rattle.jr_index.specs.Linked.{IsFirstFrom}
use Rattle.jr_table.specs.Entries.{entries_of}
use Rattle.jr_table.specs.Calls.{ctors_in, is_ctor}
use Rattle.jr_table.specs.MemberIndex.{member_place}
use Rattle.jr_table.specs.Gathering.{entry_named}
use Rattle.jr_table.proofs.MemberWalk.{left, fewer_left, first_named, next_named}
use Rattle.jr_table.proofs.CollectWalk.{Collected, collect_starts, collect_goes_on, collect_ends}
use Rattle.jr_table.proofs.CtorPlaces.{ctor_placed}
use Rattle.jr_table.proofs.tables.Table.ctors_in.Goals as goal

pub loop-next-init : goal.loop-next-init
loop-next-init c =
    let es = entries_of c.args.self.now in
    let first = first_named member_place es _ _ c.members.ensures c.args.class [] in
    collect_starts (entry_named c.args.class []) (is_ctor es c.args.class) es _ _ c.new-numbers.ensures.items (subst (IsFirstFrom (entry_named c.args.class []) es 0) (sym c.first-next.ensures) first)

pub returns-in_default : goal.returns-in_default
unfolding ctors_in
returns-in_default c =
    let es = entries_of c.args.self.now in
    collect_ends (entry_named c.args.class []) (is_ctor es c.args.class) es (ctor_placed c.args.self.now c.args.class) _
    (subst (Collected (entry_named c.args.class []) (is_ctor es c.args.class) es _) c.in_default.is c.loop-next.invariant)

pub loop-next-smaller : goal.loop-next-smaller
loop-next-smaller c =
    let es = entries_of c.args.self.now in
    let here = subst (Collected (entry_named c.args.class []) (is_ctor es c.args.class) es _) c.in-Some.is c.loop-next.invariant in
    let next = next_named member_place es _ _ c.members-in-loop-next.ensures c.args.class [] c.in-Some.number here.next.1 in
    let follows = subst (IsFirstFrom (entry_named c.args.class []) es _) (sym c.next-next.ensures) next in
    subst (λ o. left es c.next-next.result < left es o) (sym c.in-Some.is) (fewer_left (entry_named c.args.class []) (entry_named c.args.class []) es here.from c.in-Some.number c.next-next.result here.next follows)

pub loop-next-preserved : goal.loop-next-preserved
loop-next-preserved c =
    let es = entries_of c.args.self.now in
    let here = subst (Collected (entry_named c.args.class []) (is_ctor es c.args.class) es _) c.in-Some.is c.loop-next.invariant in
    let next = next_named member_place es _ _ c.members-in-loop-next.ensures c.args.class [] c.in-Some.number here.next.1 in
    let follows = subst (IsFirstFrom (entry_named c.args.class []) es _) (sym c.next-next.ensures) next in
    collect_goes_on (entry_named c.args.class []) (is_ctor es c.args.class) es (ctor_placed c.args.self.now c.args.class) c.in-Some.number c.next-next.result _ _ here
    (c.in_ok-push_if.ensures ∙ ap (λ b. c.loop-next.numbers.items ++ cond b (c.in-Some.number ∷ []) []) c.is_ctor.ensures) follows
