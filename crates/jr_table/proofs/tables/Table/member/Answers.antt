use Rattle.std.proofs.Common.{sym, refl, ap, ◌∙◌}
use Rattle.jr_table.specs.Entries.{entries_of}
use Rattle.jr_table.specs.Wanted.{passes}
use Rattle.jr_table.specs.Looking.{inherited}
use Rattle.jr_table.proofs.RowLaws.{acyclic_rows}
use Rattle.jr_table.proofs.StepsUp.{own_member, next_member, no_member}
use Rattle.jr_table.proofs.tables.Table.member.Goals as goal

pub returns-in-Some : goal.returns-in-Some
returns-in-Some c =
    let acyclic = acyclic_rows c.args.self.now c.keeps_rows.ensures in
    sym (own_member (entries_of c.args.self.now) acyclic (passes c.args.wanted.now) c.args.class c.in-Some.number (sym c.in-Some.ensures))

pub returns-in-None : goal.returns-in-None
returns-in-None c =
    let acyclic = acyclic_rows c.args.self.now c.keeps_rows.ensures in
    sym (no_member (entries_of c.args.self.now) acyclic (passes c.args.wanted.now) c.args.class (sym c.in_default.ensures) (sym c.in-None.ensures))

pub returns-in-Some-parent_of : goal.returns-in-Some-parent_of
returns-in-Some-parent_of c =
    let acyclic = acyclic_rows c.args.self.now c.keeps_rows.ensures in
    c.without_private.ensures ∙ ap (inherited (entries_of c.args.self.now)) c.nearest.ensures
    ∙ sym (next_member (entries_of c.args.self.now) acyclic (passes c.args.wanted.now) c.args.class c.in-Some-parent_of.parent (sym c.in_default.ensures) (sym c.in-Some-parent_of.ensures))
