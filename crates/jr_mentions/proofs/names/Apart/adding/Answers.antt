use Rattle.jr_mentions.specs.ApartView.{names_in}
use Rattle.jr_mentions.proofs.NamePairs.{first_two, known_two}
use Rattle.jr_mentions.proofs.Settling.{first_settles, others_ruled_out}
use Rattle.std.proofs.lemmas.Bool.Decides.{not_from_Decides}
use Rattle.jr_mentions.proofs.names.Apart.adding.Goals as goal

pub returns-then-is_none-clause-some : goal.returns-then-is_none-clause-some
returns-then-is_none-clause-some c = first_two (names_in c.args.self.now) (names_in c.of.result) c.args.old.now c.args.new.now (c.is_none.ensures.0 c.if-is_none.true) c.of.ensures

pub returns-then-is_none-clause-settles : goal.returns-then-is_none-clause-settles
returns-then-is_none-clause-settles c = first_settles (names_in c.args.self.now) (names_in c.of.result) c.args.old.now c.args.new.now c.of.ensures

pub returns-then-both-clause-some : goal.returns-then-both-clause-some
returns-then-both-clause-some c = known_two (names_in c.args.self.now) c.args.old.now c.args.new.now c.has.result c.has-2.result c.has.ensures c.has-2.ensures c.if-both.true

pub returns-then-both-clause-settles : goal.returns-then-both-clause-settles
returns-then-both-clause-settles c = λ differ x y h p. h

pub returns-else-both-clause-none : goal.returns-else-both-clause-none
returns-else-both-clause-none c =
    others_ruled_out (names_in c.args.self.now) c.args.old.now c.args.new.now c.has.result c.has-2.result (not_from_Decides c.is_none.result c.is_none.ensures c.if-is_none.false) c.has.ensures c.has-2.ensures c.if-both.false
