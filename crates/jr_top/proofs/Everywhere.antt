-- What is so however a run ends.
use Rattle.jr_top.specs.declared.statuses.Status.{Status}
use Rattle.jr_top.specs.declared.statuses.Status.TheVariants.{Done, Refused, Usage, ReadFault, WriteFault, BadScript, BadSource, NoMemory}
use Rattle.jr_top.specs.Statuses.{OnAnswer, OnNoFileFault, OnNoReadFault, OnNothingWritten}

pub at_answer : (end : Status) (P : Type 0) → P → OnAnswer end P
at_answer Done P p = p
at_answer Refused P p = p
at_answer Usage P p = tt
at_answer (ReadFault word) P p = tt
at_answer (WriteFault stored) P p = tt
at_answer (BadScript fault) P p = tt
at_answer (BadSource word fault) P p = tt
at_answer NoMemory P p = tt

pub at_nothing_written : (end : Status) (P : Type 0) → P → OnNothingWritten end P
at_nothing_written Done P p = tt
at_nothing_written Refused P p = tt
at_nothing_written Usage P p = p
at_nothing_written (ReadFault word) P p = p
at_nothing_written (WriteFault stored) P p = tt
at_nothing_written (BadScript fault) P p = p
at_nothing_written (BadSource word fault) P p = p
at_nothing_written NoMemory P p = p

pub at_no_read_fault : (end : Status) (P : Type 0) → P → OnNoReadFault end P
at_no_read_fault Done P p = p
at_no_read_fault Refused P p = p
at_no_read_fault Usage P p = p
at_no_read_fault (ReadFault word) P p = tt
at_no_read_fault (WriteFault stored) P p = p
at_no_read_fault (BadScript fault) P p = p
at_no_read_fault (BadSource word fault) P p = p
at_no_read_fault NoMemory P p = p

pub at_no_file_fault : (end : Status) (P : Type 0) → P → OnNoFileFault end P
at_no_file_fault Done P p = p
at_no_file_fault Refused P p = p
at_no_file_fault Usage P p = p
at_no_file_fault (ReadFault word) P p = tt
at_no_file_fault (WriteFault stored) P p = tt
at_no_file_fault (BadScript fault) P p = p
at_no_file_fault (BadSource word fault) P p = p
at_no_file_fault NoMemory P p = p
