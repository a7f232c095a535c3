use Rattle.jr_punit_laws.proofs.UnitAnswers.{Laws, read_answer, reads_answer, unit_answer, fault_answer, only_read_answer, only_fault_answer}
use Rattle.jr_punit.proofs.parsing.parse_unit.Goals as goal

pub returns : goal.returns
returns c =
    let bytes = c.args.text.now in
    let items = c.args.items.now in
    let laws : Laws =
    record {
      is_read = c.unit_is_read.ensures;
      stop = c.unit_stop_is_exact.ensures;
      places = c.stops_have_places.ensures.place;
      alike = c.marked_reads_alike.ensures;
      marked = c.marks_are_spans.ensures;
    } in
    record {
      read = read_answer laws bytes items c.read_unit.result c.read_unit.ensures.read;
      reads = reads_answer laws bytes items c.read_unit.result c.requires.lexed c.read_unit.ensures.read;
      unit = unit_answer laws bytes items c.read_unit.result c.read_unit.ensures.read;
      fault = fault_answer laws bytes items c.read_unit.result c.read_unit.ensures.fault;
      only_read = only_read_answer laws bytes items c.read_unit.result c.read_unit.ensures.fault;
      only_fault = only_fault_answer laws bytes items c.read_unit.result c.read_unit.ensures.read;
    }
