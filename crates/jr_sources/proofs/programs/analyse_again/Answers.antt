use Rattle.std.proofs.Common.{refl, sym, ◌∙◌}
use Rattle.std.proofs.lemmas.Result.{IfOk-weaker}
use Rattle.jr_sources.proofs.HadBack.{as_given}
use Rattle.jr_sources.proofs.programs.analyse_again.Goals as goal

pub bind_same-requires-clause-table : goal.bind_same-requires-clause-table
bind_same-requires-clause-table g c = c.requires.table c.in-Some.earlier (sym c.take.ensures.value ∙ c.in-Some.is)

pub bind_same-requires-clause-earlier : goal.bind_same-requires-clause-earlier
bind_same-requires-clause-earlier g c = c.requires.earlier c.in-Some.earlier (sym c.take.ensures.value ∙ c.in-Some.is)

pub returns-in-Some-clause-left : goal.returns-in-Some-clause-left
returns-in-Some-clause-left g c =
    IfOk-weaker c.bind_same.result _ _ (λ a h. as_given _ _ _ _ (sym c.in-Some.is ∙ c.take.ensures.value) (sym c.take.ensures.after) a h) c.bind_same.ensures.left

pub returns-in-None-clause-left : goal.returns-in-None-clause-left
returns-in-None-clause-left g c =
    IfOk-weaker c.analyse_units-analysed.result _ _ (λ a h. as_given _ _ _ _ (c.take.ensures.after ∙ sym c.in-None.is ∙ c.take.ensures.value) refl a h) c.analyse_units-analysed.ensures.left
