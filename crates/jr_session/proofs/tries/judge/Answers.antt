use Rattle.std.proofs.Common.{subst}
use Rattle.jr_sources.specs.HadBack.{IsNotLost}
use Rattle.jr_session.proofs.HadBack.{left_by, still_there}
use Rattle.jr_session.proofs.tries.judge.Goals as goal

pub returns-in-Program-clause-left : goal.returns-in-Program-clause-left
returns-in-Program-clause-left g c =
    left_by c.in-Program.analysis c.args.earlier.now c.in-Program.former (subst (IsNotLost c.args.earlier.now c.analyse_told.new.earlier) c.in-Program.is c.in_ok-analysis.ensures.left)
    c.judge_analysed.new.earlier c.judge_analysed.result c.judge_analysed.ensures.left

pub returns-in-Fault-clause-left : goal.returns-in-Fault-clause-left
returns-in-Fault-clause-left g c =
    still_there c.args.earlier.now c.analyse_told.new.earlier (subst (IsNotLost c.args.earlier.now c.analyse_told.new.earlier) c.in-Fault.is c.in_ok-analysis.ensures.left)
