use Rattle.jr_program.proofs.TokenPlaces.{ascending}
use Rattle.jr_program.proofs.tokens.first_super.Goals as goal

pub super_from-requires : goal.super_from-requires
super_from-requires c = ascending c.requires.0 c.args.items.now c.items_are_placed.ensures.items c.requires.1
