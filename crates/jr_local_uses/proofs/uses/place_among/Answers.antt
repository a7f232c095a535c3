use Rattle.std.proofs.Common.{Option, map, option_map, sym, ap, subst, ◌∙◌}
use Rattle.jr_local_search.specs.NamingView.{naming_of}
use Rattle.jr_local_search.specs.PlaceView.{inline_of}
use Rattle.jr_local_search.specs.Places.{let_go}
use Rattle.jr_local_uses.specs.Heads.{Head}
use Rattle.jr_local_uses.specs.HeadView.{head_of}
use Rattle.jr_local_uses.specs.Inlines.{IsPlacedAt}
use Rattle.jr_local_uses.proofs.uses.place_among.Goals as goal

pub returns-in-None : goal.returns-in-None
returns-in-None c =
    let e = sym (ap (option_map head_of) c.in-None.is) ∙ c.declaration_head.ensures in
    subst (λ (o : Option Head). IsPlacedAt c.args.is_plain (map naming_of c.args.namings.now) let_go o) e tt

pub returns-in-Some : goal.returns-in-Some
returns-in-Some c =
    let e = sym (ap (option_map head_of) c.in-Some.is) ∙ c.declaration_head.ensures in
    subst (λ (o : Option Head). IsPlacedAt c.args.is_plain (map naming_of c.args.namings.now) (inline_of c.inline_place.result) o) e c.inline_place.ensures
