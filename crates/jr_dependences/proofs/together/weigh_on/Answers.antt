use Rattle.std.proofs.Common.{Some, get_or, sym, ap, subst, ◌∙◌}
use Rattle.std.proofs.lemmas.Option.{slice_get-get_or}
use Rattle.jr_dependences.specs.Known.{is_local}
use Rattle.jr_dependences.proofs.Leading.{same_item}
use Rattle.jr_dependences.proofs.together.weigh_on.Goals as goal

pub weigh_other-requires-clause-other : goal.weigh_other-requires-clause-other
weigh_other-requires-clause-other c a at =
    ap is_local (same_item a _ (sym at ∙ slice_get-get_or c.args.of.now.sites.now c.args.first _ c.requires.first)) ∙ sym c.is_local.ensures ∙ c.if-is_local.false
