use Rattle.std.proofs.Common.{◌∙◌}
use Rattle.std.specs.Prelude.{option_map}
use Rattle.std.specs.Option.{option_eq}
use Rattle.jr_table.specs.TypeView.{class_key_of}
use Rattle.jr_table.specs.SameKeys.{same_class, class_decides}
use Rattle.jr_table.specs.SameRows.{maybe_decides}
use Rattle.jr_table.proofs.SameArms.{told}
use Rattle.jr_mentions.proofs.RowTests.{option_on}
use Rattle.jr_mentions.proofs.rows.same_parent.Goals as goal

pub returns : goal.returns
returns c =
    let x = option_map class_key_of c.args.parent.now in
    let y = option_map class_key_of c.args.other.now in
    told c.eq.result (option_eq same_class x y) (c.eq.ensures ∙ option_on class_key_of same_class c.args.parent.now c.args.other.now) (maybe_decides same_class class_decides x y)
