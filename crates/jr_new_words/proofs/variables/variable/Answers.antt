use Rattle.jr_new_words.proofs.variables.variable.Goals as goal

pub returns-then-stays : goal.returns-then-stays
returns-then-stays c = c.stays.ensures c.if-stays.true c.args.at
