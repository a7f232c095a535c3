use Rattle.std.proofs.Common.{◌∙◌}
use Rattle.std.specs.Prelude.{option_map}
use Rattle.std.specs.Option.{option_eq}
use Rattle.jr_table.specs.TypeView.{ty_of}
use Rattle.jr_table.specs.SameKeys.{same_ty, ty_decides}
use Rattle.jr_table.specs.SameRows.{maybe_decides}
use Rattle.jr_table.proofs.SameArms.{told}
use Rattle.jr_mentions.proofs.RowTests.{option_on}
use Rattle.jr_mentions.proofs.rows.same_type.Goals as goal

pub returns : goal.returns
returns c =
    let x = option_map ty_of c.args.ty.now in
    let y = option_map ty_of c.args.other.now in
    told c.eq.result (option_eq same_ty x y) (c.eq.ensures ∙ option_on ty_of same_ty c.args.ty.now c.args.other.now) (maybe_decides same_ty ty_decides x y)
