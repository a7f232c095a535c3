use Rattle.std.proofs.Common.{ℕ, ◌<◌, ◌^◌, length, sym, ap, subst, ◌∙◌}
use Rattle.jr_table.specs.MemberIndex.{LinksMembers}
use Rattle.jr_table.proofs.RowLaws.{as_many}
use Rattle.jr_table.proofs.tables.Table.own.Goals as goal

pub first_wanted-requires-clause-few : goal.first_wanted-requires-clause-few
first_wanted-requires-clause-few c = subst (λ (n : ℕ). n < 2 ^ 32) (sym (ap length c.entries.ensures ∙ as_many c.args.self.now)) c.keeps_rows.ensures.few

pub first_wanted-requires-clause-linked : goal.first_wanted-requires-clause-linked
first_wanted-requires-clause-linked c = subst (λ es. LinksMembers es c.members.result.now) (sym c.entries.ensures) c.members.ensures
