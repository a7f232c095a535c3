use Rattle.jr_table.specs.BindingLaws.{IsNoted, AreNoted}
use Rattle.jr_table.proofs.Noting.{noted, noted_body}
use Rattle.jr_table.proofs.binding_laws.walks_are_exact.Goals as goal

all_noted : (A : Type 0) → AreNoted A
all_noted A begins rows n = record {
  expressions = λ c role base e. noted begins rows n c role base e;
  bodies = λ number c base xs. noted_body begins rows n number c base xs;
}

pub returns : goal.returns
returns g c = record { noted = all_noted _ }
