use Rattle.std.proofs.Common.{ap}
use Rattle.jr_table.specs.KeyView.{decl_of, local_key_of}
use Rattle.jr_rename.proofs.answers.is_local.Goals as goal

pub returns-in-Local : goal.returns-in-Local
returns-in-Local c = λ t. (local_key_of c.in-Local.field-0, ap decl_of c.in-Local.is)
