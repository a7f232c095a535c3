use Rattle.std.proofs.Common.{◌≡◌, ◌∙◌, ap, subst}
use Rattle.std.specs.Prelude.{IfOk}
use Rattle.std.proofs.lemmas.Result.{IfOk-weaker}
use Rattle.jr_sources.specs.SourceView.{sources_of}
use Rattle.jr_session.specs.States.{begun}
use Rattle.jr_top.proofs.answers.begin_with.Goals as goal

pub returns : goal.returns
returns c = IfOk-weaker c.or_memory.result _ _ (λ session is. subst (λ r. IfOk r (λ s. s ≡ begun (sources_of c.in_ok-files.files.items))) is c.begin.ensures.ok ∙ ap begun c.in_ok-files.ensures) c.or_memory.ensures
