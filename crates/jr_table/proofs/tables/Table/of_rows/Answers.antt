use Rattle.std.proofs.Common.{◌≡◌, ◌<◌, ◌^◌, ◌+◌, ℕ, map, length, sym, ap, subst, ◌∙◌}
use Rattle.jr_index.specs.Linked.{AreOwned}
use Rattle.jr_table.specs.RowView.{row_of}
use Rattle.jr_table.specs.Entries.{entries_of}
use Rattle.jr_table.specs.Chains.{IsAcyclic}
use Rattle.jr_table.specs.Spans.{ParentsStand}
use Rattle.jr_table.specs.MemberIndex.{member_place}
use Rattle.jr_table.proofs.RowLaws.{as_many, parents_stand, acyclic_rows}
use Rattle.jr_table.proofs.MethodPlaces.{members_owned}
use Rattle.jr_table.proofs.tables.Table.of_rows.Goals as goal

pub members-requires-clause-few : goal.members-requires-clause-few
members-requires-clause-few c =
    let rows = map row_of c.args.rows.items in
    let same = c.deref-3.ensures.value ∙ c.in_ok-entries.ensures ∙ ap (λ rs. entries_of (map row_of rs)) c.deref-2.ensures.value in
    subst (λ (n : ℕ). n < 2 ^ 32) (sym (ap length same ∙ as_many rows)) c.requires.few

pub members-requires-clause-owned : goal.members-requires-clause-owned
members-requires-clause-owned c =
    let rows = map row_of c.args.rows.items in
    let same = c.deref-3.ensures.value ∙ c.in_ok-entries.ensures ∙ ap (λ rs. entries_of (map row_of rs)) c.deref-2.ensures.value in
    subst (λ es. AreOwned (map member_place es) (length es + 1)) (sym same) (members_owned rows)

pub of_rows-requires-2-clause-few : goal.of_rows-requires-2-clause-few
of_rows-requires-2-clause-few c =
    let rows = map row_of c.args.rows.items in
    let same = c.deref-4.ensures.value ∙ c.in_ok-entries.ensures ∙ ap (λ rs. entries_of (map row_of rs)) c.deref-2.ensures.value in
    subst (λ (n : ℕ). n < 2 ^ 32) (sym (ap length same ∙ as_many rows)) c.requires.few

pub of_rows-requires-2-clause-stand : goal.of_rows-requires-2-clause-stand
of_rows-requires-2-clause-stand c =
    let rows = map row_of c.args.rows.items in
    let same = c.deref-4.ensures.value ∙ c.in_ok-entries.ensures ∙ ap (λ rs. entries_of (map row_of rs)) c.deref-2.ensures.value in
    subst ParentsStand (sym same) (parents_stand rows)

pub of_rows-requires-2-clause-acyclic : goal.of_rows-requires-2-clause-acyclic
of_rows-requires-2-clause-acyclic c =
    let rows = map row_of c.args.rows.items in
    let same = c.deref-4.ensures.value ∙ c.in_ok-entries.ensures ∙ ap (λ rs. entries_of (map row_of rs)) c.deref-2.ensures.value in
    subst IsAcyclic (sym same) (acyclic_rows rows c.requires)
