use Rattle.jr_rename_laws.proofs.Alike.{renamed_alike, become_same}
use Rattle.jr_rename_laws.proofs.one_plan_laws.renamed_is_one.Goals as goal

pub returns-clause-alike : goal.returns-clause-alike
returns-clause-alike c = renamed_alike

pub returns-clause-same : goal.returns-clause-same
returns-clause-same c = λ rows g h alike. become_same g h alike rows
