use Rattle.std.proofs.Common.{◌++◌, Bool, false, ap, ◌∙◌}
use Rattle.std.proofs.lemmas.Result.{IfOk-weaker}
use Rattle.jr_table.specs.HeadRules.{plain}
use Rattle.jr_table.specs.Notes.{when, breaks}
use Rattle.jr_table.specs.declared.rules.Rule.TheVariants as rule
use Rattle.jr_bind_expr.specs.Places.{member_of}
use Rattle.jr_bind_expr.specs.Logs.{notes_of}
use Rattle.jr_bind_parts.proofs.supers.put_implicit.Goals as goal

pub returns : goal.returns
returns c =
    let k = member_of c.args.place.now in
    let old = notes_of c.args.table.now k c.args.log.now.items in
    IfOk-weaker c.put_when.result _ _ (λ u h. h ∙ ap (λ (b : Bool). old ++ when b (breaks c.args.at rule.SuperCtor)) (c.in_ok-is_broken.ensures (plain k false) c.requires.class)) c.put_when.ensures
