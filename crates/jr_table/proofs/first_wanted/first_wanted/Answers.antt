use Rattle.std.proofs.Common.{◌≡◌, ◌<◌, ℕ, Bool, Some, None, sym, ap, subst, ◌∙◌, length, refl}
use Rattle.std.proofs.lemmas.Option.{slice_get_read}
use Rattle.jr_index.specs.Linked.{is_at, IsFirstFrom, first_of}
use Rattle.jr_table.specs.declared.entries.Entry.{Entry}
use Rattle.jr_table.specs.declared.wanted.Wanted as raw
use Rattle.jr_table.specs.MemberIndex.{member_place}
use Rattle.jr_table.specs.Wanted.{passes, wanted_name}
use Rattle.jr_table.proofs.MemberWalk.{Walked, left, walk_starts, walk_finds, walk_ends, walk_goes_on, next_within, fewer_left, first_named, next_named}
use Rattle.jr_table.proofs.WantedPlaces.{wanted_placed}
use Rattle.jr_table.proofs.first_wanted.first_wanted.Goals as goal

abbrev named : raw.Wanted → ℕ → Entry → Bool
named w class e = is_at class (wanted_name w) (member_place e)

pub loop-at-init : goal.loop-at-init
loop-at-init c =
    let w = c.args.wanted.now in
    let entries = c.args.entries.now in
    let first = first_named member_place entries _ c.args.members.now c.requires.linked c.args.class (wanted_name w) in
    let same = c.first-at.ensures ∙ ap (first_of c.args.members.now c.args.class) c.name_of.ensures in
    walk_starts (named w c.args.class) (passes w c.args.class) entries c.first-at.result (subst (IsFirstFrom (named w c.args.class) entries 0) (sym same) first)

pub bounds-entries-number : goal.bounds-entries-number
bounds-entries-number c =
    let w = c.args.wanted.now in
    let entries = c.args.entries.now in
    let here = subst (Walked (named w c.args.class) (passes w c.args.class) entries) c.in-Some.is c.loop-at.invariant in
    next_within (named w c.args.class) (passes w c.args.class) entries here.from c.in-Some.number here.next

pub returns-in_default : goal.returns-in_default
returns-in_default c =
    let w = c.args.wanted.now in
    let entries = c.args.entries.now in
    sym (walk_ends (named w c.args.class) (passes w c.args.class) entries (wanted_placed w c.args.class) (subst (Walked (named w c.args.class) (passes w c.args.class) entries) c.in_default.is c.loop-at.invariant))

pub returns-then-is_wanted : goal.returns-then-is_wanted
returns-then-is_wanted c =
    let w = c.args.wanted.now in
    let entries = c.args.entries.now in
    let here = subst (Walked (named w c.args.class) (passes w c.args.class) entries) c.in-Some.is c.loop-at.invariant in
    let lt = next_within (named w c.args.class) (passes w c.args.class) entries here.from c.in-Some.number here.next in
    let at = slice_get_read entries (length entries) c.in-Some.number c.index-entries-number.result refl lt c.index-entries-number.is in
    sym (walk_finds (named w c.args.class) (passes w c.args.class) entries (wanted_placed w c.args.class) c.in-Some.number c.index-entries-number.result here at (sym c.is_wanted.ensures ∙ c.if-is_wanted.true))

pub loop-at-smaller : goal.loop-at-smaller
loop-at-smaller c =
    let w = c.args.wanted.now in
    let entries = c.args.entries.now in
    let here = subst (Walked (named w c.args.class) (passes w c.args.class) entries) c.in-Some.is c.loop-at.invariant in
    let next = next_named member_place entries _ c.args.members.now c.requires.linked c.args.class (wanted_name w) c.in-Some.number here.next.1 in
    let follows = subst (IsFirstFrom (named w c.args.class) entries _) (sym c.next-at.ensures) next in
    subst (λ o. left entries c.next-at.result < left entries o) (sym c.in-Some.is) (fewer_left (named w c.args.class) (passes w c.args.class) entries here.from c.in-Some.number c.next-at.result here.next follows)

pub loop-at-preserved : goal.loop-at-preserved
loop-at-preserved c =
    let w = c.args.wanted.now in
    let entries = c.args.entries.now in
    let here = subst (Walked (named w c.args.class) (passes w c.args.class) entries) c.in-Some.is c.loop-at.invariant in
    let lt = next_within (named w c.args.class) (passes w c.args.class) entries here.from c.in-Some.number here.next in
    let at = slice_get_read entries (length entries) c.in-Some.number c.index-entries-number.result refl lt c.index-entries-number.is in
    let next = next_named member_place entries _ c.args.members.now c.requires.linked c.args.class (wanted_name w) c.in-Some.number here.next.1 in
    walk_goes_on (named w c.args.class) (passes w c.args.class) entries (wanted_placed w c.args.class) c.in-Some.number c.index-entries-number.result c.next-at.result here at (sym c.is_wanted.ensures ∙ c.if-is_wanted.false)
    (subst (IsFirstFrom (named w c.args.class) entries _) (sym c.next-at.ensures) next)
