use Rattle.jr_table.specs.KeyView.{decl_of}
use Rattle.jr_mentions.specs.ApartView.{names_in}
use Rattle.jr_new_files.proofs.Among.{AllByLeft}
use Rattle.jr_new_files.proofs.unaffected.are_among.Given as goal

abbrev pub invariant-loop-decl : goal.invariant-loop-decl
invariant-loop-decl l = AllByLeft decl_of (names_in l.names) l.decls l.decl-index
