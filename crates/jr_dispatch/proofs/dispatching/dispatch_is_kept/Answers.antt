use Rattle.jr_dispatch.proofs.KeptDispatch.{kept}
use Rattle.jr_dispatch.proofs.dispatching.dispatch_is_kept.Goals as goal

pub returns : goal.returns
returns c = kept
