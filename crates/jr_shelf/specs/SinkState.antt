-- A sink in memory, as its callers see it: which of its puts fail, and what each put leaves.
use Rattle.std.specs.Prelude.{ℕ, ◌-◌, ◌||◌, ◌++◌, Bool, List, [], length, nat_lt, Result, Ok, Err}
use Rattle.jr_shelf.specs.Counts.{one_more, next_number, fails_next}

pub record SinkState : Type 0 where
  -- what it took, in order
  pub taken : List ℕ
  -- how many puts failed, up to the greatest u64
  pub faults : ℕ
  -- the number of the last put, 0 before the first
  pub number : ℕ
  -- the numbers of the puts that fail
  pub failing : List ℕ
  -- the bytes that later puts may take
  pub room : ℕ

-- a sink that was made with these failing puts and room
abbrev pub new_sink : List ℕ → ℕ → SinkState
new_sink failing room =
    record { taken = []; faults = 0; number = 0; failing = failing; room = room }

-- whether a put of these bytes fails: its number is among the failing ones, or there is no room for
-- them
abbrev pub put_fails : SinkState → List ℕ → Bool
put_fails state bytes = fails_next state.failing state.number || nat_lt state.room (length bytes)

-- what a put leaves, by its answer
abbrev pub after_put : {T E : Type 0} → SinkState → List ℕ → Result T E → SinkState
after_put state bytes (Ok done) =
    record state {
      taken = state.taken ++ bytes;
      number = next_number state.number;
      room = state.room - length bytes;
    }
after_put state bytes (Err fault) =
    record state { number = next_number state.number; faults = one_more state.faults }
