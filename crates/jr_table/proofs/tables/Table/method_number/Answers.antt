use Rattle.std.proofs.Common.{sym}
use Rattle.jr_table.specs.KeyView.{method_key_of}
use Rattle.jr_table.proofs.MethodPlaces.{no_class}
use Rattle.jr_table.proofs.tables.Table.method_number.Goals as goal

pub returns-in-None : goal.returns-in-None
returns-in-None c = sym (no_class c.args.self.now (method_key_of c.args.key.now) c.keeps_rows.ensures (sym c.in-None.ensures))
