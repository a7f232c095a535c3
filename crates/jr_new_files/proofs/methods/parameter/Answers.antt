use Rattle.std.proofs.lemmas.Result.{IfOk-weaker}
use Rattle.jr_new_bodies.specs.OutputView.{gathered}
use Rattle.jr_new_files.proofs.methods.parameter.Goals as goal

pub declared_type-requires : goal.declared_type-requires
declared_type-requires c = record { walked = c.requires.walked; ready = c.requires.ready }

pub returns : goal.returns
returns c = IfOk-weaker c.param_word.result _ _ (λ _ x. (gathered c.declared_type.new.out, c.in_ok-declared_type.ensures, x)) c.param_word.ensures
