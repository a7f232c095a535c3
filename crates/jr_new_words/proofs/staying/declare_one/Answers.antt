use Rattle.std.proofs.Common.{sym}
use Rattle.jr_table.specs.KeyView.{decl_of}
use Rattle.jr_new_words.proofs.staying.declare_one.Goals as goal

pub returns-in-Some : goal.returns-in-Some
returns-in-Some c = λ t. (decl_of c.in-Some.decl.now, sym c.in-Some.ensures, c.declares.ensures t)
