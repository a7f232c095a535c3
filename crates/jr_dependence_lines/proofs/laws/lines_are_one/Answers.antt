use Rattle.jr_dependence_lines.proofs.OneLines.{lines_law, large_law, both_law}
use Rattle.jr_dependence_lines.proofs.laws.lines_are_one.Goals as goal

pub returns-clause-lines : goal.returns-clause-lines
returns-clause-lines c = lines_law

pub returns-clause-large : goal.returns-clause-large
returns-clause-large c = large_law

pub returns-clause-never_both : goal.returns-clause-never_both
returns-clause-never_both c = both_law
