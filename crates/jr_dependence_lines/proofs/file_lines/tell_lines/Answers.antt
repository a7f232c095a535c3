use Rattle.std.proofs.Common.{[], map, subst, ◌∙◌}
use Rattle.jr_members.specs.PartView.{written_of}
use Rattle.jr_dependence_lines.specs.MemberLines.{in_file}
use Rattle.jr_dependence_lines.specs.Tallies.{PutsMembers}
use Rattle.jr_dependence_lines.proofs.file_lines.tell_lines.Goals as goal

pub returns-in-Ok-None : goal.returns-in-Ok-None
returns-in-Ok-None c files items each there =
    let h = subst (λ o. PutsMembers c.args.table.now items (in_file c.args.file (map written_of c.args.written.now)) c.begin-tally.result c.put_members.new.tally o) c.in-Ok-None.field-0-is (c.in-Ok-None.ensures files items each there) in
    let t = h.2 c.args.before c.args.keeps [] c.begin-tally.ensures in
    (h.0, h.1, t.counted, λ on. t.kept (t.keeps_is ∙ on))
