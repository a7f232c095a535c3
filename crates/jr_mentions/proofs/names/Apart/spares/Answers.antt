use Rattle.std.proofs.Common.{sym, ap, ◌∙◌}
use Rattle.jr_ast.specs.View.{member_of}
use Rattle.jr_table.proofs.SameArms.{told}
use Rattle.jr_mentions.specs.ApartView.{names_in}
use Rattle.jr_mentions.specs.AvoidTests.{avoids_member}
use Rattle.jr_mentions.proofs.NoNames.{no_member}
use Rattle.jr_mentions.proofs.AvoidLaws.{member_decides}
use Rattle.jr_mentions.proofs.names.Apart.spares.Goals as goal

pub returns-then-is_none : goal.returns-then-is_none
returns-then-is_none g c =
    let names = names_in c.args.self.now in
    let x = member_of c.args.of.now in
    let none = c.is_none.ensures.0 c.if-is_none.true in
    told c.is_no_class.result (avoids_member names x) (c.is_no_class.ensures ∙ sym (no_member x) ∙ sym (ap (λ ns. avoids_member ns x) none)) (member_decides names x)

pub returns-else-is_none : goal.returns-else-is_none
returns-else-is_none g c =
    let names = names_in c.args.self.now in
    let x = member_of c.args.of.now in
    told c.spares_member.result (avoids_member names x) c.spares_member.ensures (member_decides names x)
