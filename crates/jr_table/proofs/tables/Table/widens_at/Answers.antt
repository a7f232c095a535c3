use Rattle.std.proofs.Common.{◌≡◌, sym, ◌∙◌}
use Rattle.jr_table.specs.Entries.{entries_of}
use Rattle.jr_table.specs.Calls.{widens}
use Rattle.jr_table.proofs.RowLaws.{acyclic_rows}
use Rattle.jr_table.proofs.Assigning.{widens_by}
use Rattle.jr_table.proofs.tables.Table.widens_at.Goals as goal

pub returns-in-Class-Class : goal.returns-in-Class-Class
returns-in-Class-Class c =
    let rows = c.args.self.now in
    widens_by (entries_of rows) (acyclic_rows rows c.keeps_rows.ensures) c.in-Class-Class.sub c.in-Class-Class.sup c.is_subclass_at.result c.is_subclass_at.ensures
    ∙ (λ i. widens (entries_of rows) (sym c.in-Class-Class.is-0 i) (sym c.in-Class-Class.is-1 i))
