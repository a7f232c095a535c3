use Rattle.std.proofs.Common.{◌∙◌, sym}
use Rattle.jr_pexpr.specs.ExpView.{exp_in}
use Rattle.jr_pexpr.specs.StackView.{stack}
use Rattle.jr_pexpr.proofs.StartReads.{read_alone, not_read}
use Rattle.jr_pexpr.proofs.starts.lone_type.Goals as goal

pub returns-then-not-is_empty : goal.returns-then-not-is_empty
returns-then-not-is_empty c = not_read (stack c.args.on) (exp_in c.args.e) (sym c.is_empty.ensures ∙ c.if-not-is_empty.true)

pub returns : goal.returns
returns c = c.name_type.ensures ∙ read_alone (stack c.args.on) (exp_in c.args.e) (sym c.is_empty.ensures ∙ c.if-not-is_empty.false)
