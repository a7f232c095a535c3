use Rattle.std.proofs.Common.{ap}
use Rattle.jr_table.specs.KeyView.{decl_of, field_key_of}
use Rattle.jr_new_words.proofs.staying_by.is_field.Goals as goal

pub returns-in-Field : goal.returns-in-Field
returns-in-Field c = λ t. (field_key_of c.in-Field.key, ap decl_of c.in-Field.is, c.eq.ensures.0 t)
