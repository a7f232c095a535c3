use Rattle.std.proofs.Common.{◌≡◌, map, take}
use Rattle.jr_index.specs.Linked.{place_of, first_of}
use Rattle.jr_table.specs.declared.rows.Row.{Row}
use Rattle.jr_table.specs.KeyView.{decl_of}
use Rattle.jr_table.specs.ClassIndex.{class_place}
use Rattle.jr_table.proofs.class_index.class_places.Given as goal

abbrev pub invariant-loop-row : goal.invariant-loop-row
invariant-loop-row l = map place_of l.places.items ≡ map (λ (r : Row). class_place (first_of l.tops 0) l.top (decl_of r.decl)) (take l.row-index l.rows)
