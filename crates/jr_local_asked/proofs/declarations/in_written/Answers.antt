use Rattle.jr_table.specs.KeyView.{local_key_of}
use Rattle.jr_members.specs.PartView.{written_of}
use Rattle.jr_local_asked.proofs.Declares.{of_other_file}
use Rattle.jr_local_asked.proofs.declarations.in_written.Goals as goal

pub in_file-requires : goal.in_file-requires
in_file-requires c = c.if-written-file.true

pub returns-else-written-file : goal.returns-else-written-file
returns-else-written-file c = of_other_file c.args.file c.args.number (local_key_of c.args.key.now) (written_of c.args.written.now) c.if-written-file.false
