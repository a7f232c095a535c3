use Rattle.std.proofs.lemmas.Result.{IfOk-weaker}
use Rattle.jr_new_bodies.specs.OutputView.{gathered}
use Rattle.jr_new_bodies.proofs.locals.local_head.Goals as goal

pub returns : goal.returns
returns g c = IfOk-weaker c.local_word.result _ _ (λ _ y. (gathered c.written_type.new.out, c.in_ok-written_type.ensures, y)) c.local_word.ensures
