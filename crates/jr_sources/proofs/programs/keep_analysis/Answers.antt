use Rattle.std.proofs.Common.{◌≡◌, refl, sym, ◌∙◌}
use Rattle.std.proofs.lemmas.Option.{none-some}
use Rattle.jr_sources.proofs.Filled.{filled}
use Rattle.jr_sources.proofs.HadBack.{is_none}
use Rattle.jr_sources.proofs.programs.keep_analysis.Goals as goal

pub returns-then-is_some-clause-found : goal.returns-then-is_some-clause-found
returns-then-is_some-clause-found g c = filled c.args.kept.now (sym c.is_some.ensures ∙ c.if-is_some.true)

pub returns-in-Program-clause-found : goal.returns-in-Program-clause-found
returns-in-Program-clause-found g c = (c.in-Program.analysis, refl)

pub returns-in_err-fault-clause-again : goal.returns-in_err-fault-clause-again
returns-in_err-fault-clause-again g c = λ f. absurd (none-some f.0 (sym (is_none c.args.kept.now (sym c.is_some.ensures ∙ c.if-is_some.false)) ∙ f.1))

pub returns-in-Fault-clause-again : goal.returns-in-Fault-clause-again
returns-in-Fault-clause-again g c = λ f. absurd (none-some f.0 (sym (is_none c.args.kept.now (sym c.is_some.ensures ∙ c.if-is_some.false)) ∙ f.1))

pub returns-in-Program-clause-again : goal.returns-in-Program-clause-again
returns-in-Program-clause-again g c = λ f. absurd (none-some f.0 (sym (is_none c.args.kept.now (sym c.is_some.ensures ∙ c.if-is_some.false)) ∙ f.1))
