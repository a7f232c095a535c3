use Rattle.std.proofs.Common.{sym, ◌∙◌}
use Rattle.std.proofs.lemmas.Result.{IfOk-weaker}
use Rattle.jr_sources.proofs.HadBack.{of_given, of_none}
use Rattle.jr_sources.proofs.binds.bind_written.Goals as goal

pub returns-in-None-clause-back : goal.returns-in-None-clause-back
returns-in-None-clause-back g c = IfOk-weaker c.bind_alone.result _ _ (λ made h. of_none c.args.table.now made.0.items made.1 c.args.earlier.now (sym c.take.ensures.value ∙ c.in-None.is) h) c.bind_alone.ensures.nothing

pub returns-in-Some-clause-back : goal.returns-in-Some-clause-back
returns-in-Some-clause-back g c = IfOk-weaker c.bind_by.result _ _ (λ made h. of_given c.args.table.now made.0.items made.1 c.args.earlier.now c.in-Some.earlier (sym c.take.ensures.value ∙ c.in-Some.is) h) c.bind_by.ensures.back
