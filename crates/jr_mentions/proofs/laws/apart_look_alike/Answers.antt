use Rattle.jr_mentions.proofs.LooksAlike.{look_alike}
use Rattle.jr_mentions.proofs.laws.apart_look_alike.Goals as goal

pub returns : goal.returns
returns c = record {
  alike = λ names rows after are_rows are_after apart.
      look_alike names rows after apart (c.lookups_are_exact.ensures.numbers rows are_rows);
}
