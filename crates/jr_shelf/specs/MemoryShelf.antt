-- What callers see of a `MemoryShelf`.
use Rattle.std.specs.Prelude.{◌++◌, length, string_bytes}
use Rattle.std.specs.Option.{option_map}
use Rattle.std.specs.FinMap.{from_entries}
use Rattle.jr_shelf.specs.declared.memory_shelf.MemoryShelf.{MemoryShelf}
use Rattle.jr_shelf.specs.Files.{entries_of}
use Rattle.jr_shelf.specs.MemoryState.{MemoryState}

abbrev pub state_of : MemoryShelf → MemoryState
state_of shelf = record {
  held = from_entries (shelf.log.entries ++ entries_of shelf.files.items);
  missed = option_map string_bytes shelf.missed_name;
  faults = shelf.fault_count;
  served = shelf.served_count;
  number = shelf.last_number;
  failing = shelf.failing_numbers.items;
  room = shelf.log.room;
  stores = length shelf.log.entries;
}
