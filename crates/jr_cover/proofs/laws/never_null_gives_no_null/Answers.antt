use Rattle.jr_cover.proofs.NeverNullMembers as laws
use Rattle.jr_cover.proofs.laws.never_null_gives_no_null.Goals as goal

pub returns : goal.returns
returns g c = record {
  members = laws.never_null_gives_no_null;
  initializers = laws.initializers_give_no_null;
}
