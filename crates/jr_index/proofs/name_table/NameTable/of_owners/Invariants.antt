use Rattle.std.specs.Prelude.{◌≡◌, ℕ, List, None, length, option_and_then}
use Rattle.std.specs.List.{slice_get}
use Rattle.std.specs.HashMap.{get_by_text}
use Rattle.jr_index.proofs.name_table.NameTable.of_owners.Given as goal

abbrev pub invariant-loop : goal.invariant-loop
invariant-loop l =
    (length l.by_owner.items ≡ l.counter)
    × ((c : ℕ) (q : List ℕ) → option_and_then (λ m. get_by_text m q) (slice_get l.by_owner.items c) ≡ None)
