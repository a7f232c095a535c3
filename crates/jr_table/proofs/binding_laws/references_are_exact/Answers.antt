use Rattle.jr_table.specs.BindingLaws.{AreReferred}
use Rattle.jr_table.proofs.Referring.{references_iff}
use Rattle.jr_table.proofs.binding_laws.references_are_exact.Goals as goal

referred : (A : Type 0) → AreReferred A
referred A begins rows fit found c role base e at q f = references_iff rows fit found c begins role base e at q f

pub returns : goal.returns
returns g c = record { referred = referred _ }
