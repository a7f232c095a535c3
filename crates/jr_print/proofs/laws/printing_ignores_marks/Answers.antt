use Rattle.jr_print.proofs.Remarked.{printed-map, printed_stmt-map, printed_member-map}
use Rattle.jr_print.proofs.laws.printing_ignores_marks.Goals as goal

pub returns : goal.returns
returns g c = record { expression = printed-map; statement = printed_stmt-map; member = printed_member-map }
