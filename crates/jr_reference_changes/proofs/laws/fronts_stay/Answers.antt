use Rattle.jr_table.specs.Context.{Context}
use Rattle.jr_table.specs.DeclaredItems.{declarations_of}
use Rattle.jr_grammar.specs.Layout.{itself}
use Rattle.jr_bind.specs.Programs.{units_of}
use Rattle.jr_program_laws.specs.FileParts.{begins}
use Rattle.jr_images.specs.Images.{member_to}
use Rattle.jr_images.specs.Regions.{region_of}
use Rattle.jr_plan.proofs.Rename.{rewrite_back, none_loses}
use Rattle.jr_reference_changes.proofs.FrontsOfFiles.{units_along}
use Rattle.jr_reference_changes.proofs.laws.fronts_stay.Goals as goal

pub returns : goal.returns
returns c p text file at new edits renaming respelled is =
    let g = is.planned.found.g in
    units_along itself p.rows (region_of p.rows g) (λ (k : Context). p.super_at k.member) (member_to g) (declarations_of begins (units_of p)) (units_of p) is.planned.becomes.files
    (rewrite_back p g is.planned.becomes) (none_loses p g is.planned.becomes is.planned.kept_all)
