use Rattle.std.proofs.lemmas.Result.{on_ok_weaker}
use Rattle.jr_rename.proofs.Changing.{both}
use Rattle.jr_rename.proofs.pairs.push_both.Goals as goal

pub returns-in-Ok : goal.returns-in-Ok
returns-in-Ok c = on_ok_weaker c.push_pair.result (λ e. both _ _ _ _ _ _ e c.in_ok-first.ensures c.in-Ok.ensures) c.push_pair.ensures
