use Rattle.std.proofs.Common.{ap}
use Rattle.jr_table.specs.TypeView.{class_key_of}
use Rattle.jr_table.specs.KeyView.{decl_of}
use Rattle.jr_new_words.proofs.staying_by.is_class.Goals as goal

pub returns-in-Class : goal.returns-in-Class
returns-in-Class c = λ t.
    let h = c.is_class_of.ensures t in
    (class_key_of c.in-Class.key, ap decl_of c.in-Class.is, h.0, h.1)
