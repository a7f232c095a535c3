use Rattle.std.proofs.Common.{◌+◌}
use Rattle.jr_table.specs.Errors.{part_mark}
use Rattle.jr_table.specs.NotingLaws.{PartsHaveErrors}
use Rattle.jr_table.specs.Walks.{part_notes}
use Rattle.jr_table.proofs.RowTypes.{chain}
use Rattle.jr_table.proofs.MemberNotes.{part_breaks}
use Rattle.jr_table.proofs.ErrorLaws.{log_errors}
use Rattle.jr_table.proofs.noting_laws.parts_have_errors.Goals as goal

-- a log's errors are the rules that are broken
have : (A : Type 0) → PartsHaveErrors A
have A begins rows fit found super_at k base part =
    let own = log_errors (begins (part_mark part) base) (part_notes begins rows super_at k base part) in
    record {
      in_order = own.in_order;
      exact = λ e. chain (own.exact e) (part_breaks begins rows fit found super_at k base part (begins (part_mark part) base + e.at) e.rule);
    }

pub returns : goal.returns
returns g c = record { errors = have _ }
