use Rattle.jr_histories.proofs.BothWays as ways
use Rattle.jr_histories.proofs.Histories as histories
use Rattle.jr_histories.proofs.laws.histories_are_old.Goals as goal

pub returns : goal.returns
returns g c = record { old = histories.histories_are_old; exact = histories.exact_runs_are_reordered; both = ways.exact_histories_agree }
