use Rattle.jr_new_words.specs.Ways.{way_of}
use Rattle.jr_new_words.proofs.UnchangedBy.{chosen_by}
use Rattle.jr_new_words.proofs.taking.chosen.Goals as goal

pub returns-then-stays : goal.returns-then-stays
returns-then-stays c =
    chosen_by c.args.scopes.now c.requires (way_of c.args.from.now) (way_of c.args.to.now) c.args.name.now c.args.types.now c.args.images.now c.args.at (c.in_ok-stays.ensures c.if-stays.true)
