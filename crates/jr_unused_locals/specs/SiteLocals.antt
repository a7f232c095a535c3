-- Which sites of a piece read and write a local, by their numbers.
use Rattle.std.specs.Prelude.{ℕ, zero, suc, Bool, false, List, [], ◌∷◌, nat_eq}
use Rattle.jr_runs.specs.Keys.{Keys}
use Rattle.jr_cover.specs.Sites.{
  What,
  reads,
  writes,
  loads,
  stores,
  enters,
  exits,
  creates,
  checks,
  calls,
  loops,
  Site,
}

-- x: the local
abbrev pub is_read : {K : Keys} → (x : ℕ) → What K → Bool
is_read x (reads n) = nat_eq n x
is_read x (writes n) = false
is_read x (loads f) = false
is_read x (stores f) = false
is_read x enters = false
is_read x exits = false
is_read x creates = false
is_read x checks = false
is_read x calls = false
is_read x loops = false

abbrev pub is_write : {K : Keys} → (x : ℕ) → What K → Bool
is_write x (reads n) = false
is_write x (writes n) = nat_eq n x
is_write x (loads f) = false
is_write x (stores f) = false
is_write x enters = false
is_write x exits = false
is_write x creates = false
is_write x checks = false
is_write x calls = false
is_write x loops = false

-- the same of the site that has a number
abbrev pub reads_at : {K : Keys} → List (Site K) → (x i : ℕ) → Bool
reads_at [] x i = false
reads_at (s ∷ all) x zero = is_read x s.what
reads_at (s ∷ all) x (suc i) = reads_at all x i

abbrev pub writes_at : {K : Keys} → List (Site K) → (x i : ℕ) → Bool
writes_at [] x i = false
writes_at (s ∷ all) x zero = is_write x s.what
writes_at (s ∷ all) x (suc i) = writes_at all x i
