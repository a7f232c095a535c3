use Rattle.std.proofs.Common.{refl, sym, subst}
use Rattle.std.specs.Prelude.{Option, Some}
use Rattle.jr_sources.specs.declared.analyses.FormerAnalysis.{FormerAnalysis}
use Rattle.jr_session.specs.HadBack.{IsHadBack}
use Rattle.jr_session.proofs.tries.had_back.Goals as goal

pub returns-in-Some : goal.returns-in-Some
returns-in-Some c = subst (λ (o : Option FormerAnalysis). IsHadBack o c.args.later (Some c.restore.result)) (sym c.in-Some.is) (c.restore.result, refl, c.restore.ensures)
