use Rattle.std.proofs.Common.{sym, ◌∙◌}
use Rattle.std.proofs.lemmas.Bool.{eqb-true}
use Rattle.jr_dependences.proofs.SumLaws.{kind_of_number}
use Rattle.jr_dependences.proofs.sameness.is_same_kind.Goals as goal

pub returns : goal.returns
returns c = λ e. kind_of_number c.args.kind c.args.other (sym c.kind_number.ensures ∙ eqb-true _ _ e ∙ c.kind_number-2.ensures)
