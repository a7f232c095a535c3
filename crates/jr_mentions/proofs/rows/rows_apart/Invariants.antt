use Rattle.jr_table.specs.RowView.{row_of}
use Rattle.jr_mentions.specs.ApartView.{names_of}
use Rattle.jr_mentions.proofs.Stepping.{FirstApart}
use Rattle.jr_mentions.proofs.Settling.{AllowsAll}
use Rattle.jr_mentions.proofs.rows.rows_apart.Given as goal

abbrev pub invariant-loop-number : goal.invariant-loop-number
invariant-loop-number l = FirstApart row_of (names_of l.apart.0) l.before l.after l.number × AllowsAll row_of (names_of l.apart.0) l.before l.after
