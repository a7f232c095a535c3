use Rattle.std.proofs.Common.{◌≡◌, ℕ, List, subst}
use Rattle.std.specs.Prelude.{Option}
use Rattle.jr_sources.specs.declared.faults.ReadingFault.{ReadingFault}
use Rattle.jr_sources.specs.FirstOf.{HaveNone, IsFirstOf}
use Rattle.jr_sources.proofs.AllRead.{read_units, lexed_tokens, fault_at}
use Rattle.jr_sources.proofs.SourceFaults.{file_fault_told}
use Rattle.jr_sources.proofs.programs.file_fault.Goals as goal

pub returns-in-None-clause-found : goal.returns-in-None-clause-found
returns-in-None-clause-found c = read_units c.args.sources.now c.args.readings.now c.requires.readings (subst HaveNone c.as_slice.ensures.value c.in-None.ensures)

pub returns-in-None-clause-lexed : goal.returns-in-None-clause-lexed
returns-in-None-clause-lexed c = lexed_tokens c.args.sources.now c.args.readings.now c.requires.readings (subst HaveNone c.as_slice.ensures.value c.in-None.ensures)

pub returns-in-Some-clause-found : goal.returns-in-Some-clause-found
returns-in-Some-clause-found c =
    let first = subst (λ (fs : List (Option ReadingFault)). IsFirstOf fs c.in-Some.number c.in-Some.fault) c.as_slice.ensures.value c.in-Some.ensures in
    let told = file_fault_told c.args.sources.now c.in-Some.number c.in-Some.fault (fault_at c.args.sources.now c.args.readings.now c.requires.readings c.text_has_one_reading.ensures c.in-Some.number c.in-Some.fault first) in
    record { name = told.0; named = told.1; first = told.2 c.name.result.now c.name.ensures }
