use Rattle.jr_runs.proofs.OldKeys as keys
use Rattle.jr_runs.proofs.laws.maps_of_old_keys_extend.Goals as goal

pub returns : goal.returns
returns g c = record {
  maps = keys.maps_extend;
  kinds = λ told xs f e old new d kept none further. keys.kinds_extend told xs f e old new d kept none further;
}
