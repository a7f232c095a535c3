-- What callers see of a `MemorySink`.
use Rattle.jr_shelf.specs.declared.memory_sink.MemorySink.{MemorySink}
use Rattle.jr_shelf.specs.SinkState.{SinkState}

abbrev pub sink_state_of : MemorySink → SinkState
sink_state_of sink = record {
  taken = sink.taken_bytes.items;
  faults = sink.fault_count;
  number = sink.last_number;
  failing = sink.failing_numbers.items;
  room = sink.room_left;
}
