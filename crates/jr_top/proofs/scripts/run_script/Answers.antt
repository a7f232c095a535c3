use Rattle.jr_top.proofs.RunEnds.{bad_script_ends, bad_source_ends, good_input_ends}
use Rattle.jr_top.proofs.scripts.run_script.Goals as goal

pub returns-clause-comes : goal.returns-clause-comes
returns-clause-comes g c = record {
  of_run = c.do_script.ensures.ends;
  unwritten = c.do_script.ensures.unwritten;
  done = c.do_script.ensures.done;
  refused = c.do_script.ensures.refused;
  write_fault = c.do_script.ensures.write_fault;
  no_script = λ fault known bad no_fault. bad_script_ends c.script_has_one_answer.ensures.no_fault _ known c.do_script.result (record {
    of_run = c.do_script.ensures.ends;
    unwritten = c.do_script.ensures.unwritten;
    done = c.do_script.ensures.done;
    refused = c.do_script.ensures.refused;
    write_fault = c.do_script.ensures.write_fault;
    no_fault = no_fault;
  }) fault bad;
  no_source = λ word fault known bad no_fault. bad_source_ends c.script_has_one_answer.ensures.no_fault _ known c.do_script.result (record {
    of_run = c.do_script.ensures.ends;
    unwritten = c.do_script.ensures.unwritten;
    done = c.do_script.ensures.done;
    refused = c.do_script.ensures.refused;
    write_fault = c.do_script.ensures.write_fault;
    no_fault = no_fault;
  }) word fault bad;
  complete = λ known good no_fault. good_input_ends c.script_has_one_answer.ensures.no_fault _ known c.do_script.result (record {
    of_run = c.do_script.ensures.ends;
    unwritten = c.do_script.ensures.unwritten;
    done = c.do_script.ensures.done;
    refused = c.do_script.ensures.refused;
    write_fault = c.do_script.ensures.write_fault;
    no_fault = no_fault;
  }) good;
  missed_stays = c.do_script.ensures.missed;
  faults_grow = c.do_script.ensures.shelf_faults;
  faults_stay = c.do_script.ensures.shelf_faults_stay;
  put_grow = c.do_script.ensures.sink_faults;
  put_stay = c.do_script.ensures.sink_faults_stay;
}
