use Rattle.std.proofs.Common.{◌≡◌, map, take}
use Rattle.jr_index.specs.Linked.{place_of, first_of}
use Rattle.jr_table.specs.declared.decls.Decl.{Decl}
use Rattle.jr_table.specs.KeyView.{decl_of}
use Rattle.jr_images.specs.MethodIndex.{method_place}
use Rattle.jr_images.proofs.method_index.method_places.Given as goal

abbrev pub invariant-loop-decl : goal.invariant-loop-decl
invariant-loop-decl l = map place_of l.places.items ≡ map (λ (d : Decl). method_place (first_of l.outers 0) l.top (decl_of d)) (take l.decl-index l.decls)
