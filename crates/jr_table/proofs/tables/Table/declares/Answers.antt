use Rattle.std.proofs.Common.{◌≡◌, Some, sym, ap, ◌∙◌}
use Rattle.std.specs.Prelude.{option_map}
use Rattle.jr_table.specs.KeyView.{method_key_of}
use Rattle.jr_table.specs.Entries.{method_at}
use Rattle.jr_table.proofs.RowLaws.{some_inside}
use Rattle.jr_table.proofs.Gathered.{method_row, row_method}
use Rattle.jr_table.proofs.tables.Table.declares.Goals as goal

pub returns-in-Some : goal.returns-in-Some
returns-in-Some c =
    let rows = c.args.self.now in
    let key = method_key_of c.args.key.now in
    let own = method_key_of c.in-Some.own.now in
    let at : method_at rows c.args.number ≡ Some own = sym c.method_at.ensures ∙ ap (option_map (λ k. method_key_of k.now)) c.in-Some.is in (
      λ t. method_row rows c.args.number key (at ∙ ap Some (c.eq.ensures.0 t)),
      λ r. c.eq.ensures.1 (some_inside (method_at rows c.args.number) own key at (row_method rows c.args.number key r)),
    )
