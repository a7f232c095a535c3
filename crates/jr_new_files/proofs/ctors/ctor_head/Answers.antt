use Rattle.std.proofs.lemmas.Result.{IfOk-weaker}
use Rattle.jr_new_bodies.specs.OutputView.{gathered}
use Rattle.jr_new_files.proofs.ctors.ctor_head.Goals as goal

pub parameters-requires : goal.parameters-requires
parameters-requires c = record { walked = c.requires.walked; ready = c.requires.ready }

pub returns : goal.returns
returns c = IfOk-weaker c.parameters.result _ _ (λ _ x. λ at. (gathered c.member_word.new.out, c.in_ok-member_word.ensures, x at)) c.parameters.ensures
