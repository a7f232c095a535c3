-- Numbers by owner and name.
use Rattle.std.specs.Prelude.{ℕ, List, Option, length, option_and_then}
use Rattle.std.specs.List.{slice_get}
use Rattle.std.specs.Str.{bytes_eq}
use Rattle.std.specs.HashMap.{get_by}
use Rattle.jr_index.specs.declared.index.Index.{Index}

abbrev pub owners : Index → ℕ
owners x = length x.by_owner.items

-- the number under the owner and the name, if there is one
abbrev pub found : Index → ℕ → List ℕ → Option ℕ
found x c q = option_and_then (λ m. get_by (λ k. bytes_eq q k.now) m) (slice_get x.by_owner.items c)
