use Rattle.std.proofs.Common.{subst, sym}
use Rattle.jr_table.specs.Faults.{InitIsBad}
use Rattle.jr_build_declared.specs.DeclarationFaults.{IsLeastAt}
use Rattle.jr_build_declared.specs.DeclaredView.{item_of}
use Rattle.jr_build_declared.proofs.declaration_faults.bad_init_at.Goals as goal

pub returns-in-Field : goal.returns-in-Field
returns-in-Field c = subst (λ x. IsLeastAt (InitIsBad (item_of x)) c.field_init_at.result) (sym c.in-Field.is) c.field_init_at.ensures
