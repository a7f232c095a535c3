use Rattle.std.proofs.Common.{sym, subst}
use Rattle.std.specs.Prelude.{IfOk}
use Rattle.jr_sources.specs.Analysed.{IsAnalysed}
use Rattle.jr_sources.specs.HadBack.{IsNotLost}
use Rattle.jr_session.proofs.tries.analyse_known.Goals as goal

pub returns-clause-analysed : goal.returns-clause-analysed
returns-clause-analysed g c = subst (λ r. IfOk r (IsAnalysed c.args.sources.now)) (sym c.kept.ensures) c.analyse-analysed.ensures.analysed

pub returns-clause-left : goal.returns-clause-left
returns-clause-left g c = subst (λ r. IfOk r (IsNotLost c.args.earlier.now c.analyse-analysed.new.earlier)) (sym c.kept.ensures) c.analyse-analysed.ensures.left
