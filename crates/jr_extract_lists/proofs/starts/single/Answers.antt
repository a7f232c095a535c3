use Rattle.std.proofs.Common.{ap, ◌∙◌}
use Rattle.std.specs.Prelude.{option_to_list}
use Rattle.jr_extract_lists.proofs.Single.{one_of}
use Rattle.jr_extract_lists.proofs.starts.single.Goals as goal

pub returns : goal.returns
returns g c =
    let left = c.pop-last.new.self in
    ap option_to_list c.kept.ensures
    ∙ one_of c.args.items.items left.items c.pop-last.result _ _ c.requires c.pop-last.ensures.items c.args.items.ok.0 c.pop-last.ensures.cases left.ok.0
