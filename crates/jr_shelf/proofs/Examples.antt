-- The definitions at worked examples.
use Rattle.std.proofs.Common.{◌≡◌, true, false, [], ◌∷◌, refl, inr, arith}
use Rattle.std.specs.FinMap.{empty}
use Rattle.jr_shelf.specs.Counts.{Rose, one_more, next_number, fails_next, greatest_count}
use Rattle.jr_shelf.specs.Files.{names_differ}
use Rattle.jr_shelf.specs.MemoryState.{new_state, store_fails}
use Rattle.jr_shelf.specs.SinkState.{new_sink, put_fails}

-- a count that stays where it was did not rise, but where it stands at the greatest u64
stays : Rose 3 3 → ⊥
stays rose = omega arith

stays_at_greatest : Rose greatest_count greatest_count
stays_at_greatest = inr refl

raised_once : one_more 3 ≡ 4
raised_once = refl

raised_at_greatest : one_more greatest_count ≡ greatest_count
raised_at_greatest = refl

-- calls are numbered from 1, and the number stays at the greatest u32
first_number : next_number 0 ≡ 1
first_number = refl

last_number : next_number 4294967295 ≡ 4294967295
last_number = refl

-- of the calls, the second is among the failing ones
first_goes : fails_next (2 ∷ []) 0 ≡ false
first_goes = refl

second_fails : fails_next (2 ∷ []) 1 ≡ true
second_fails = refl

-- A and B differ, and A and A don't
apart : names_differ ((65 ∷ [], []) ∷ (66 ∷ [], []) ∷ []) ≡ true
apart = refl

alike : names_differ ((65 ∷ [], 1 ∷ []) ∷ (66 ∷ [], []) ∷ (65 ∷ [], []) ∷ []) ≡ false
alike = refl

-- a name of one byte and three bytes, where there is room for four and for three
room_for_both : store_fails (new_state empty [] 4) (65 ∷ []) (1 ∷ 2 ∷ 3 ∷ []) ≡ false
room_for_both = refl

room_for_bytes_alone : store_fails (new_state empty [] 3) (65 ∷ []) (1 ∷ 2 ∷ 3 ∷ []) ≡ true
room_for_bytes_alone = refl

-- the store after 1,023 that answered Ok, and the one after 1,024
last_store : store_fails (record (new_state empty [] 4) { stores = 1023 }) [] [] ≡ false
last_store = refl

one_store_more : store_fails (record (new_state empty [] 4) { stores = 1024 }) [] [] ≡ true
one_store_more = refl

-- three bytes, where there is room for three and for two
room_for_put : put_fails (new_sink [] 3) (1 ∷ 2 ∷ 3 ∷ []) ≡ false
room_for_put = refl

no_room_for_put : put_fails (new_sink [] 2) (1 ∷ 2 ∷ 3 ∷ []) ≡ true
no_room_for_put = refl
