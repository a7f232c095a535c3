use Rattle.std.proofs.Common.{sym}
use Rattle.jr_table.specs.KeyView.{decl_of}
use Rattle.jr_new_words.proofs.staying_by.serves_at.Goals as goal

pub returns-in-Some : goal.returns-in-Some
returns-in-Some c = λ t. (decl_of c.in-Some.decl.now, sym c.in-Some.ensures, c.serves.ensures t)
