use Rattle.std.proofs.Common.{ap}
use Rattle.jr_table.specs.KeyView.{decl_of, method_key_of}
use Rattle.jr_new_words.proofs.staying_by.is_method.Goals as goal

pub returns-in-Method : goal.returns-in-Method
returns-in-Method c = λ t. (method_key_of c.in-Method.key, ap decl_of c.in-Method.is, c.eq.ensures.0 t)
