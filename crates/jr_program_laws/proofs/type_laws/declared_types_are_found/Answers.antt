use Rattle.jr_program_laws.proofs.DeclaredFound.{declared_found}
use Rattle.jr_program_laws.proofs.type_laws.declared_types_are_found.Goals as goal

pub returns : goal.returns
returns A c = declared_found
