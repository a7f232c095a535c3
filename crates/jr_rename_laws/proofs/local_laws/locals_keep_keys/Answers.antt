use Rattle.jr_rename_laws.proofs.OneLocal.{decl_same, rows_same, fair}
use Rattle.jr_rename_laws.proofs.local_laws.locals_keep_keys.Goals as goal

pub returns-clause-decls : goal.returns-clause-decls
returns-clause-decls c = decl_same

pub returns-clause-rows : goal.returns-clause-rows
returns-clause-rows c = rows_same

pub returns-clause-fair : goal.returns-clause-fair
returns-clause-fair c = fair
