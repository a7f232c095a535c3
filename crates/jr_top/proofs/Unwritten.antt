-- Ends before anything was written.
use Rattle.std.proofs.Common.{ℕ}
use Rattle.jr_top.specs.declared.statuses.Status.{Status}
use Rattle.jr_top.specs.declared.statuses.Status.TheVariants.{Done, Refused, Usage, ReadFault, WriteFault, BadScript, BadSource, NoMemory}
use Rattle.jr_top.specs.Statuses.{IsOfRun, IsUnwritten, OnDone, OnNoFileFault, OnNoReadFault, OnRefused, OnWriteFault}

pub run_ends : (end : Status) → IsUnwritten end → IsOfRun end
run_ends Done u = absurd u
run_ends Refused u = absurd u
run_ends Usage u = absurd u
run_ends (ReadFault word) u = tt
run_ends (WriteFault stored) u = absurd u
run_ends (BadScript fault) u = tt
run_ends (BadSource word fault) u = tt
run_ends NoMemory u = tt

pub none_done : (end : Status) (P : Type 0) → IsUnwritten end → OnDone end P
none_done Done P u = absurd u
none_done Refused P u = absurd u
none_done Usage P u = absurd u
none_done (ReadFault word) P u = tt
none_done (WriteFault stored) P u = absurd u
none_done (BadScript fault) P u = tt
none_done (BadSource word fault) P u = tt
none_done NoMemory P u = tt

pub none_refused : (end : Status) (P : Type 0) → IsUnwritten end → OnRefused end P
none_refused Done P u = absurd u
none_refused Refused P u = absurd u
none_refused Usage P u = absurd u
none_refused (ReadFault word) P u = tt
none_refused (WriteFault stored) P u = absurd u
none_refused (BadScript fault) P u = tt
none_refused (BadSource word fault) P u = tt
none_refused NoMemory P u = tt

pub none_write_fault : (end : Status) (P : ℕ → Type 0) → IsUnwritten end → OnWriteFault end P
none_write_fault Done P u = absurd u
none_write_fault Refused P u = absurd u
none_write_fault Usage P u = absurd u
none_write_fault (ReadFault word) P u = tt
none_write_fault (WriteFault stored) P u = absurd u
none_write_fault (BadScript fault) P u = tt
none_write_fault (BadSource word fault) P u = tt
none_write_fault NoMemory P u = tt

pub stays : (end : Status) (P : Type 0) → IsUnwritten end → OnNoReadFault end P → OnNoFileFault end P
stays Done P u p = absurd u
stays Refused P u p = absurd u
stays Usage P u p = absurd u
stays (ReadFault word) P u p = tt
stays (WriteFault stored) P u p = absurd u
stays (BadScript fault) P u p = p
stays (BadSource word fault) P u p = p
stays NoMemory P u p = p
