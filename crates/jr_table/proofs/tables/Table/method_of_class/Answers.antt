use Rattle.std.proofs.Common.{◌≡◌, ◌<◌, ℕ, List, Bool, Some, None, sym, ap, subst, ◌∙◌}
use Rattle.jr_index.specs.Linked.{IsFirstFrom, first_of}
use Rattle.jr_table.specs.Decls.{method_decl}
use Rattle.jr_table.specs.Rows.{Row}
use Rattle.jr_table.specs.Keys.{MethodKey}
use Rattle.jr_table.specs.SameDecls.{same_decl}
use Rattle.jr_table.specs.KeyView.{method_key_of}
use Rattle.jr_table.specs.Entries.{number_of}
use Rattle.jr_table.proofs.MemberWalk.{Walked, left, walk_starts, walk_finds, walk_ends, walk_goes_on, fewer_left, first_named, next_named}
use Rattle.jr_table.proofs.MethodPlaces.{row_place, row_named, links_rows, method_placed, declares_true, declares_false}
use Rattle.jr_table.proofs.tables.Table.method_of_class.Goals as goal

abbrev test : MethodKey → Row → Bool
test k r = same_decl r.decl (method_decl k)

pub loop-at-init : goal.loop-at-init
loop-at-init c =
    let rows = c.args.self.now in
    let k = method_key_of c.args.key.now in
    let first = first_named (row_place rows) rows _ _ (links_rows rows _ c.members.ensures) c.args.class k.name in
    walk_starts (row_named rows c.args.class k.name) (test k) rows _ (subst (IsFirstFrom (row_named rows c.args.class k.name) rows 0) (sym (c.first-at.ensures ∙ ap (first_of c.members.result.now c.args.class) c.as_str.ensures)) first)

pub returns-in_default : goal.returns-in_default
unfolding number_of
returns-in_default c =
    let rows = c.args.self.now in
    let k = method_key_of c.args.key.now in
    sym (walk_ends (row_named rows c.args.class k.name) (test k) rows (method_placed rows k c.args.class c.requires) (subst (Walked (row_named rows c.args.class k.name) (test k) rows) c.in_default.is c.loop-at.invariant))

pub returns-then-declares : goal.returns-then-declares
unfolding number_of
returns-then-declares c =
    let rows = c.args.self.now in
    let k = method_key_of c.args.key.now in
    let here = subst (Walked (row_named rows c.args.class k.name) (test k) rows) c.in-Some.is c.loop-at.invariant in
    sym (walk_finds (row_named rows c.args.class k.name) (test k) rows (method_placed rows k c.args.class c.requires) c.in-Some.number here.next.1.element here here.next.1.stands (declares_true rows k c.in-Some.number here.next.1.element here.next.1.stands (c.declares.ensures.0 c.if-declares.true)))

pub loop-at-smaller : goal.loop-at-smaller
loop-at-smaller c =
    let rows = c.args.self.now in
    let k = method_key_of c.args.key.now in
    let here = subst (Walked (row_named rows c.args.class k.name) (test k) rows) c.in-Some.is c.loop-at.invariant in
    let next = next_named (row_place rows) rows _ _ (links_rows rows _ c.members-in-loop-at.ensures) c.args.class k.name c.in-Some.number here.next.1 in
    let follows = subst (IsFirstFrom (row_named rows c.args.class k.name) rows _) (sym c.next-at.ensures) next in
    subst (λ o. left rows c.next-at.result < left rows o) (sym c.in-Some.is) (fewer_left (row_named rows c.args.class k.name) (test k) rows here.from c.in-Some.number c.next-at.result here.next follows)

pub loop-at-preserved : goal.loop-at-preserved
loop-at-preserved c =
    let rows = c.args.self.now in
    let k = method_key_of c.args.key.now in
    let here = subst (Walked (row_named rows c.args.class k.name) (test k) rows) c.in-Some.is c.loop-at.invariant in
    let next = next_named (row_place rows) rows _ _ (links_rows rows _ c.members-in-loop-at.ensures) c.args.class k.name c.in-Some.number here.next.1 in
    let not_here = declares_false rows k c.in-Some.number here.next.1.element here.next.1.stands (λ h. let t = c.declares.ensures.1 h in let f = c.if-declares.false in absurd cc) in
    walk_goes_on (row_named rows c.args.class k.name) (test k) rows (method_placed rows k c.args.class c.requires) c.in-Some.number here.next.1.element c.next-at.result here here.next.1.stands not_here
    (subst (IsFirstFrom (row_named rows c.args.class k.name) rows _) (sym c.next-at.ensures) next)
