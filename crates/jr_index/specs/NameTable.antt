-- Numbers by owner and name, with names of its own.
use Rattle.std.specs.Prelude.{ℕ, List, Option, length, option_and_then}
use Rattle.std.specs.List.{slice_get}
use Rattle.std.specs.HashMap.{get_by_text}
use Rattle.jr_index.specs.declared.name_table.NameTable.{NameTable}

abbrev pub owners : NameTable → ℕ
owners t = length t.by_owner.items

-- the number under the owner and the name, if there is one
abbrev pub number_at : NameTable → ℕ → List ℕ → Option ℕ
number_at t c q = option_and_then (λ m. get_by_text m q) (slice_get t.by_owner.items c)
