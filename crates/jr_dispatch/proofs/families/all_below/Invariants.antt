use Rattle.std.specs.Prelude.{map, ◌↔◌}
use Rattle.jr_table.specs.Decls.{Decl}
use Rattle.jr_table.specs.KeyView.{decl_of}
use Rattle.jr_images.specs.Families.{Among}
use Rattle.jr_dispatch.specs.Highest.{HasBelow}
use Rattle.jr_dispatch.proofs.families.all_below.Given as goal

-- those of the rows so far
abbrev pub invariant-loop-number : goal.invariant-loop-number
invariant-loop-number l = (e : Decl) → Among (map decl_of l.decls.items) e ↔ HasBelow l.table l.over.name l.over.params l.top l.number e
