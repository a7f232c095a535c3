-- Where a refactoring leaves keys and rows, what places without locals see, and all but lists of
-- statements, the program that is read as its trees has the same rows and the same first values.
use Rattle.jr_text.specs.declared.spans.Span.{Span}
use Rattle.jr_first_values.specs.Laws.{FirstValuesAreOne}
use Rattle.jr_bind.specs.Programs.{Program}
use Rattle.jr_plan.specs.Transforms.{Transform, Transformed}
use Rattle.jr_one_plans.proofs.DoAlike.{MakeAlike}
use Rattle.jr_kept_rows.specs.Staying.{IsReadAs, IsKept}
use Rattle.jr_kept_rows.proofs.Heads.{Laws, LeavesHeads}
use Rattle.jr_kept_rows.proofs.SameRows.{beside, rows_kept}
use Rattle.jr_kept_rows.proofs.SameFirsts.{firsts_kept}

pub programs_stay : Laws → FirstValuesAreOne Span → (p q : Program Span) (t : Transform) → LeavesHeads p t → MakeAlike t t → (becomes : Transformed p t) → IsReadAs p q becomes.files → IsKept p q
programs_stay laws one p q t leaves alike becomes read =
    let rows = rows_kept laws p read.before t leaves alike q read.behind becomes read.trees in
    record {
      rows = rows;
      first_values = firsts_kept one p q read.before (beside laws p read.before t leaves alike q read.behind becomes read.trees) rows;
    }
