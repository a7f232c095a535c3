-- The status of `serve` is that of `run`: each clause of `run` is one here.
use Rattle.jr_top.proofs.endings.serve.Goals as goal

pub returns-clause-number : goal.returns-clause-number
returns-clause-number g c = c.end-code.ensures.number

pub returns-clause-reported : goal.returns-clause-reported
returns-clause-reported g c = c.end-code.ensures.reported

pub returns-clause-usage : goal.returns-clause-usage
returns-clause-usage g c = c.run-status.ensures.usage

pub returns-clause-misuse : goal.returns-clause-misuse
returns-clause-misuse g c = c.run-status.ensures.misuse

pub returns-clause-unread : goal.returns-clause-unread
returns-clause-unread g c = c.run-status.ensures.unread

pub returns-clause-done : goal.returns-clause-done
returns-clause-done g c = c.run-status.ensures.done

pub returns-clause-refused : goal.returns-clause-refused
returns-clause-refused g c = c.run-status.ensures.refused

pub returns-clause-read_fault : goal.returns-clause-read_fault
returns-clause-read_fault g c = c.run-status.ensures.read_fault

pub returns-clause-read_fault_missed : goal.returns-clause-read_fault_missed
returns-clause-read_fault_missed g c = c.run-status.ensures.read_fault_missed

pub returns-clause-read_fault_served : goal.returns-clause-read_fault_served
returns-clause-read_fault_served g c = c.run-status.ensures.read_fault_served

pub returns-clause-read_fault_in_order : goal.returns-clause-read_fault_in_order
returns-clause-read_fault_in_order g c = c.run-status.ensures.read_fault_in_order

pub returns-clause-write_fault : goal.returns-clause-write_fault
returns-clause-write_fault g c = c.run-status.ensures.write_fault

pub returns-clause-bad_script : goal.returns-clause-bad_script
returns-clause-bad_script g c = c.run-status.ensures.bad_script

pub returns-clause-no_script : goal.returns-clause-no_script
returns-clause-no_script g c = c.run-status.ensures.no_script

pub returns-clause-bad_source : goal.returns-clause-bad_source
returns-clause-bad_source g c = c.run-status.ensures.bad_source

pub returns-clause-no_source : goal.returns-clause-no_source
returns-clause-no_source g c = c.run-status.ensures.no_source

pub returns-clause-complete : goal.returns-clause-complete
returns-clause-complete g c = c.run-status.ensures.complete

pub returns-clause-nothing_stored : goal.returns-clause-nothing_stored
returns-clause-nothing_stored g c = c.run-status.ensures.nothing_stored

pub returns-clause-nothing_put : goal.returns-clause-nothing_put
returns-clause-nothing_put g c = c.run-status.ensures.nothing_put

pub returns-clause-missed : goal.returns-clause-missed
returns-clause-missed g c = c.run-status.ensures.missed

pub returns-clause-shelf_faults : goal.returns-clause-shelf_faults
returns-clause-shelf_faults g c = c.run-status.ensures.shelf_faults

pub returns-clause-shelf_faults_stay : goal.returns-clause-shelf_faults_stay
returns-clause-shelf_faults_stay g c = c.run-status.ensures.shelf_faults_stay

pub returns-clause-sink_faults : goal.returns-clause-sink_faults
returns-clause-sink_faults g c = c.run-status.ensures.sink_faults

pub returns-clause-sink_faults_stay : goal.returns-clause-sink_faults_stay
returns-clause-sink_faults_stay g c = c.run-status.ensures.sink_faults_stay
