use Rattle.jr_words.specs.Words.{texts_of}
use Rattle.jr_top.proofs.RanClauses.{ran_bad_script, ran_bad_source, ran_complete, ran_done, ran_faults, ran_faults_stay, ran_missed, ran_misuse, ran_no_script, ran_no_source, ran_nothing_stored, ran_put_faults, ran_put_stay, ran_read_fault, ran_read_in_order, ran_read_missed, ran_read_served, ran_refused, ran_usage, ran_write_fault}
use Rattle.jr_top.proofs.runs.run.Goals as goal

pub returns-clause-usage : goal.returns-clause-usage
returns-clause-usage g c = ran_usage (texts_of c.args.words.now) c.run_words.result c.run_words.ensures.ran

pub returns-clause-misuse : goal.returns-clause-misuse
returns-clause-misuse g c = ran_misuse (texts_of c.args.words.now) c.run_words.result c.run_words.ensures.ran

pub returns-clause-unread : goal.returns-clause-unread
returns-clause-unread g c = c.run_words.ensures.unread

pub returns-clause-done : goal.returns-clause-done
returns-clause-done g c = ran_done (texts_of c.args.words.now) c.run_words.result c.run_words.ensures.ran

pub returns-clause-refused : goal.returns-clause-refused
returns-clause-refused g c = ran_refused (texts_of c.args.words.now) c.run_words.result c.run_words.ensures.ran

pub returns-clause-read_fault : goal.returns-clause-read_fault
returns-clause-read_fault g c = ran_read_fault (texts_of c.args.words.now) c.run_words.result c.run_words.ensures.ran

pub returns-clause-read_fault_missed : goal.returns-clause-read_fault_missed
returns-clause-read_fault_missed g c = ran_read_missed (texts_of c.args.words.now) c.run_words.result c.run_words.ensures.ran

pub returns-clause-read_fault_served : goal.returns-clause-read_fault_served
returns-clause-read_fault_served g c = ran_read_served (texts_of c.args.words.now) c.run_words.result c.run_words.ensures.ran

pub returns-clause-read_fault_in_order : goal.returns-clause-read_fault_in_order
returns-clause-read_fault_in_order g c = ran_read_in_order (texts_of c.args.words.now) c.run_words.result c.run_words.ensures.ran

pub returns-clause-write_fault : goal.returns-clause-write_fault
returns-clause-write_fault g c = ran_write_fault (texts_of c.args.words.now) c.run_words.result c.run_words.ensures.ran

pub returns-clause-bad_script : goal.returns-clause-bad_script
returns-clause-bad_script g c = ran_bad_script (texts_of c.args.words.now) c.run_words.result c.run_words.ensures.ran

pub returns-clause-no_script : goal.returns-clause-no_script
returns-clause-no_script g c = ran_no_script (texts_of c.args.words.now) c.run_words.result c.run_words.ensures.ran c.words_mean_one_command.ensures

pub returns-clause-bad_source : goal.returns-clause-bad_source
returns-clause-bad_source g c = ran_bad_source (texts_of c.args.words.now) c.run_words.result c.run_words.ensures.ran

pub returns-clause-no_source : goal.returns-clause-no_source
returns-clause-no_source g c = ran_no_source (texts_of c.args.words.now) c.run_words.result c.run_words.ensures.ran c.words_mean_one_command.ensures

pub returns-clause-complete : goal.returns-clause-complete
returns-clause-complete g c = ran_complete (texts_of c.args.words.now) c.run_words.result c.run_words.ensures.ran c.words_mean_one_command.ensures

pub returns-clause-nothing_stored : goal.returns-clause-nothing_stored
returns-clause-nothing_stored g c = ran_nothing_stored (texts_of c.args.words.now) c.run_words.result c.run_words.ensures.ran

pub returns-clause-nothing_put : goal.returns-clause-nothing_put
returns-clause-nothing_put g c = c.run_words.ensures.nothing_put

pub returns-clause-missed : goal.returns-clause-missed
returns-clause-missed g c = ran_missed (texts_of c.args.words.now) c.run_words.result c.run_words.ensures.ran

pub returns-clause-shelf_faults : goal.returns-clause-shelf_faults
returns-clause-shelf_faults g c = ran_faults (texts_of c.args.words.now) c.run_words.result c.run_words.ensures.ran

pub returns-clause-shelf_faults_stay : goal.returns-clause-shelf_faults_stay
returns-clause-shelf_faults_stay g c = ran_faults_stay (texts_of c.args.words.now) c.run_words.result c.run_words.ensures.ran

pub returns-clause-sink_faults : goal.returns-clause-sink_faults
returns-clause-sink_faults g c = ran_put_faults (texts_of c.args.words.now) c.run_words.result c.run_words.ensures.ran

pub returns-clause-sink_faults_stay : goal.returns-clause-sink_faults_stay
returns-clause-sink_faults_stay g c = ran_put_stay (texts_of c.args.words.now) c.run_words.result c.run_words.ensures.ran
