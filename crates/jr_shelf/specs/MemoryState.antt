-- A shelf in memory, as its callers see it: which of its calls fail, and what each call leaves.
use Rattle.std.specs.Prelude.{◌≡◌, ℕ, ◌+◌, ◌-◌, ◌<◌, ◌||◌, Bool, true, false, List, length, nat_lt}
use Rattle.std.specs.Prelude.{nat_le, is_none, Option, Some, None, Result, Ok, Err, IsSomeAnd}
use Rattle.std.specs.FinMap as map
use Rattle.jr_shelf.specs.declared.faults.FetchFault.{FetchFault}
use Rattle.jr_shelf.specs.declared.faults.FetchFault.TheVariants.{Failed, TooLong, Memory}
use Rattle.jr_shelf.specs.Limits.{file_limit, store_limit}
use Rattle.jr_shelf.specs.Counts.{one_more, next_number, fails_next}
use Rattle.jr_shelf.specs.Shelf.{Files}

pub record MemoryState : Type 0 where
  -- what it holds
  pub held : Files
  -- the name of the last fetch that answered `Failed`
  pub missed : Option (List ℕ)
  -- how many calls failed, and how many answered Ok, each up to the greatest u64
  pub faults : ℕ
  pub served : ℕ
  -- the number of the last call, 0 before the first
  pub number : ℕ
  -- the numbers of the calls that fail
  pub failing : List ℕ
  -- the bytes that later stores may take, names among them
  pub room : ℕ
  -- how many stores answered Ok
  pub stores : ℕ

-- a shelf that was made with these files, failing calls and room
abbrev pub new_state : Files → List ℕ → ℕ → MemoryState
new_state held failing room = record {
  held = held;
  missed = None;
  faults = 0;
  served = 0;
  number = 0;
  failing = failing;
  room = room;
  stores = 0;
}

-- whether a fetch of this name fails: its number is among the failing ones, or the name isn't there
abbrev pub fetch_fails : MemoryState → List ℕ → Bool
fetch_fails state name = fails_next state.failing state.number || is_none (map.get state.held name)

-- a fetch of this name may give this answer. Want of memory is free
abbrev pub FetchMayGive : {T : Type 0} → MemoryState → List ℕ → Result T FetchFault → Type 0
FetchMayGive state name (Ok bytes) = fetch_fails state name ≡ false
FetchMayGive state name (Err Failed) = fetch_fails state name ≡ true
FetchMayGive state name (Err TooLong) =
    (fetch_fails state name ≡ false)
    × IsSomeAnd (map.get state.held name) (λ bytes. file_limit < length bytes)
FetchMayGive state name (Err Memory) = Unit {0}

-- what a fetch of this name leaves, by its answer
abbrev pub after_fetch : {T : Type 0} → MemoryState → List ℕ → Result T FetchFault → MemoryState
after_fetch state name (Ok bytes) =
    record state { number = next_number state.number; served = one_more state.served }
after_fetch state name (Err Failed) =
    record state {
      number = next_number state.number;
      faults = one_more state.faults;
      missed = Some name;
    }
after_fetch state name (Err TooLong) = record state { number = next_number state.number }
after_fetch state name (Err Memory) = state

-- whether a store of these bytes under this name fails: its number is among the failing ones, there
-- is no room for both, or enough stores answered Ok
abbrev pub store_fails : MemoryState → List ℕ → List ℕ → Bool
store_fails state name bytes =
    fails_next state.failing state.number || nat_lt state.room (length name + length bytes)
    || nat_le store_limit state.stores

-- what a store leaves, by its answer
abbrev pub after_store : {T E : Type 0} → MemoryState → List ℕ → List ℕ → Result T E → MemoryState
after_store state name bytes (Ok done) = record state {
  held = map.insert state.held name bytes;
  served = one_more state.served;
  number = next_number state.number;
  room = state.room - (length name + length bytes);
  stores = state.stores + 1;
}
after_store state name bytes (Err fault) =
    record state { number = next_number state.number; faults = one_more state.faults }
