use Rattle.jr_table.specs.NotingLaws.{AreErrorsOfLogs}
use Rattle.jr_table.proofs.ErrorLaws.{log_errors, computed_errors, only_list}
use Rattle.jr_table.proofs.noting_laws.errors_are_told.Goals as goal

laws : AreErrorsOfLogs
laws = record {
  told = log_errors;
  computed = computed_errors;
  only = only_list;
}

pub returns : goal.returns
returns c = record { errors = laws }
