use Rattle.std.proofs.lemmas.Result.{IfOk-weaker}
use Rattle.jr_new_bodies.specs.OutputView.{gathered}
use Rattle.jr_new_files.proofs.methods.method_head.Goals as goal

pub result_type-requires : goal.result_type-requires
result_type-requires c = record { walked = c.requires.walked; ready = c.requires.result }

pub parameters-requires : goal.parameters-requires
parameters-requires c = record { walked = c.requires.walked; ready = c.requires.params }

pub returns : goal.returns
returns c =
    IfOk-weaker c.parameters.result _ _ (λ _ x. (gathered c.result_type.new.out, gathered c.member_word.new.out, c.in_ok-result_type.ensures, c.in_ok-member_word.ensures, x c.args.at)) c.parameters.ensures
