use Rattle.std.specs.Prelude.{Bool}
use Rattle.jr_table.specs.Rows.{Row}
use Rattle.jr_table.specs.Decls.{method_decl}
use Rattle.jr_table.specs.SameDecls.{same_decl}
use Rattle.jr_table.specs.KeyView.{method_key_of}
use Rattle.jr_table.proofs.MemberWalk.{Walked, left}
use Rattle.jr_table.proofs.MethodPlaces.{row_named}
use Rattle.jr_table.proofs.tables.Table.method_of_class.Given as goal

abbrev pub invariant-loop-at : goal.invariant-loop-at
invariant-loop-at l = Walked (row_named l.self l.class l.key.name) (λ (r : Row). same_decl r.decl (method_decl (method_key_of l.key))) l.self l.at

abbrev pub decreases-loop-at : goal.decreases-loop-at
decreases-loop-at l = left l.self l.at
