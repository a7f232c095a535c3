use Rattle.jr_script.proofs.OneScript.{means_one_list, script_has_no_fault, has_one_fault}
use Rattle.jr_script.proofs.laws.script_has_one_answer.Goals as goal

pub returns-clause-one_list : goal.returns-clause-one_list
returns-clause-one_list c = means_one_list

pub returns-clause-no_fault : goal.returns-clause-no_fault
returns-clause-no_fault c = script_has_no_fault

pub returns-clause-one_fault : goal.returns-clause-one_fault
returns-clause-one_fault c = has_one_fault
