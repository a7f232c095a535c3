use Rattle.std.specs.Prelude.{List}
use Rattle.std.proofs.Common.{sym, subst}
use Rattle.jr_table.specs.Decls.{Decl}
use Rattle.jr_reference_changes.specs.Family.{RenamesFamily}
use Rattle.jr_reference_changes.proofs.Families.{family_whole}
use Rattle.jr_reference_changes.proofs.laws.families_are_whole.Goals as goal

pub returns : goal.returns
returns c p text file at new edits renaming respelled is =
    subst (λ (pairs : List (Decl × Decl)). RenamesFamily p.rows is.planned.found.g is.planned.found.target new pairs) (sym is.planned.renaming_is)
    (family_whole p is.planned.found.g is.planned.found.target new is.planned.found.renames.renamed is.planned.found.renames.name)
