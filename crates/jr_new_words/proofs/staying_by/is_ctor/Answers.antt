use Rattle.std.proofs.Common.{ap}
use Rattle.jr_table.specs.KeyView.{decl_of, ctor_key_of}
use Rattle.jr_new_words.proofs.staying_by.is_ctor.Goals as goal

pub returns-in-Ctor : goal.returns-in-Ctor
returns-in-Ctor c = λ t. (ctor_key_of c.in-Ctor.field-0, ap decl_of c.in-Ctor.is, c.is_nameless.ensures t)
