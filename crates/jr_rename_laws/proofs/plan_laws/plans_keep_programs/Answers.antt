use Rattle.std.specs.Prelude.{[]}
use Rattle.jr_table.specs.Context.{Context}
use Rattle.jr_bind.specs.Programs.{units_of}
use Rattle.jr_grammar.specs.Layout.{itself}
use Rattle.jr_plan.proofs.Rename.{rewrite_back, none_loses}
use Rattle.jr_rename_laws.proofs.Planning.{new_text, is_fair, are_images}
use Rattle.jr_rename_laws.proofs.plan_laws.plans_keep_programs.Goals as goal

pub returns-clause-texts : goal.returns-clause-texts
returns-clause-texts c = λ p text file at new edits renaming respelled is. new_text p text file at new edits renaming respelled is c.rows_are_named.ensures.rows c.renamed_texts_read.ensures

pub returns-clause-references : goal.returns-clause-references
returns-clause-references c = λ p text file at new edits renaming respelled is.
    c.references_are_kept.ensures itself p.rows is.planned.found.g (λ (k : Context). p.super_at k.member) (units_of p) is.planned.becomes.files is.program.are_rows
    (is_fair p text file at new edits renaming respelled is c.rows_are_named.ensures.rows c.renamings_stay_fair.ensures c.rows_are_named.ensures.names) (rewrite_back p is.planned.found.g is.planned.becomes) (none_loses p is.planned.found.g is.planned.becomes is.planned.kept_all)

pub returns-clause-clean : goal.returns-clause-clean
returns-clause-clean c = λ p text file at new edits renaming respelled is kind packages clean.
    are_images p text file at new edits renaming respelled is c.rows_are_named.ensures.rows c.plans_become.ensures c.locals_give_images.ensures c.fields_give_images.ensures c.methods_give_images.ensures kind packages clean

pub returns-clause-programs : goal.returns-clause-programs
returns-clause-programs c = λ p text file at new edits renaming respelled is kind. returns-clause-clean c p text file at new edits renaming respelled is kind [] is.program.clean
