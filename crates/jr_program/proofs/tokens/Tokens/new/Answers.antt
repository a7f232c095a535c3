use Rattle.std.proofs.Common.{◌≡◌, ap, ◌∙◌}
use Rattle.jr_program.specs.Tokens.{super_places}
use Rattle.jr_program.proofs.TokenPlaces.{ascending}
use Rattle.jr_program.proofs.tokens.Tokens.new.Goals as goal

pub invariant_of-result : goal.invariant_of-result
invariant_of-result c = record {
  places = c.in_ok-supers.ensures ∙ ap super_places c.as_slice.ensures.value;
  rising = ascending c.requires.0 c.args.items.items c.items_are_placed.ensures.items c.requires.1;
}
