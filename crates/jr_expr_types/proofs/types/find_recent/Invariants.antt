use Rattle.std.proofs.Common.{◌≡◌, ◌≤◌, ◌<◌, ℕ, Some}
use Rattle.std.specs.Prelude.{option_map, slice_get}
use Rattle.jr_table.specs.TypeView.{ty_of}
use Rattle.jr_expr_types.proofs.types.find_recent.Given as goal

-- it isn't one of those that were looked at
abbrev pub invariant-loop-number : goal.invariant-loop-number
invariant-loop-number l = (n : ℕ) → l.first ≤ n → n < l.number → option_map ty_of (slice_get l.types n) ≡ Some (ty_of l.ty) → ⊥
