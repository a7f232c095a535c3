use Rattle.std.proofs.Common.{refl}
use Rattle.std.proofs.lemmas.Result.{on_ok_weaker}
use Rattle.jr_print.proofs.Puts.{put_two}
use Rattle.jr_print.proofs.members.body.Goals as goal

pub returns : goal.returns
returns g c = on_ok_weaker c.put.result (λ e. put_two _ _ _ _ _ _ c.in_ok-stmts.ensures e refl) c.put.ensures
