use Rattle.std.specs.Prelude.{option_map}
use Rattle.jr_table.specs.FoundView.{found_of}
use Rattle.jr_new_words.specs.FrontView.{in_front_of}
use Rattle.jr_new_words.specs.Scopes.{rows_of, mapping_of, context_of}
use Rattle.jr_new_words.proofs.ValuesInFront as values
use Rattle.jr_new_words.proofs.values.named_value.Goals as goal

pub returns : goal.returns
returns c =
    let s = c.args.scopes.now in
    let rows = rows_of s in
    let are = c.keeps_rows.ensures in
    values.written_value rows (mapping_of s) are (c.lookups_are_exact.ensures.one rows are) (context_of s) (option_map (λ n. n.now) c.args.outer) c.args.name.now (found_of c.in_ok-found.found) (in_front_of c.found_value-value.result)
    c.in_ok-found.ensures c.found_value-value.ensures
