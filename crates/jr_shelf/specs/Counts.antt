-- Counts that stay at the greatest u64, and the numbers of calls.
use Rattle.std.specs.Prelude.{◌≡◌, ℕ, ◌+◌, ◌<◌, ◌==◌, ◌⊎◌, Bool, List, min, Result, Ok, Err}
use Rattle.std.specs.List.{list_any}

-- the greatest u64, at which a count stays
abbrev pub greatest_count : ℕ
greatest_count = 18446744073709551615

-- the count rose: it is greater after than before, or stands at the greatest u64
abbrev pub Rose : ℕ → ℕ → Type 0
Rose before after = (before < after) ⊎ (after ≡ greatest_count)

-- the count rose by n: it is greater by n, or stands at the greatest u64
abbrev pub RoseBy : ℕ → ℕ → ℕ → Type 0
RoseBy n before after = (after ≡ before + n) ⊎ (after ≡ greatest_count)

-- a count that is raised by one, up to the greatest u64
abbrev pub one_more : ℕ → ℕ
one_more count = min (count + 1) greatest_count

-- how many faults a place of real files counts, once a store or a put gave this answer: one more
-- exactly after a failure
abbrev pub faults_after_write : {T E : Type 0} → Result T E → ℕ → ℕ
faults_after_write (Ok done) before = before
faults_after_write (Err fault) before = one_more before

-- how many calls were served, once a call gave this answer: one more exactly after Ok
abbrev pub served_after : {T E : Type 0} → Result T E → ℕ → ℕ
served_after (Ok done) before = one_more before
served_after (Err fault) before = before

-- the number of the call after the one of this number. The first has the number 1, as if after 0,
-- and the number stays at the greatest u32
abbrev pub next_number : ℕ → ℕ
next_number number = min (number + 1) 4294967295

-- whether the call after the one of this number is among those that fail
abbrev pub fails_next : List ℕ → ℕ → Bool
fails_next failing number = list_any (λ n. n == next_number number) failing
