-- The answers of a fetch.
use Rattle.std.specs.Prelude.{ℕ, Option, Some, Result, Ok, Err, List}
use Rattle.jr_shelf.specs.declared.faults.FetchFault.{FetchFault}
use Rattle.jr_shelf.specs.declared.faults.FetchFault.TheVariants.{Failed, TooLong, Memory}
use Rattle.jr_shelf.specs.Counts.{one_more}

-- a fact where the fetch answered `Failed`
abbrev pub OnFailed : {T : Type 0} → Result T FetchFault → Type 0 → Type 0
OnFailed (Ok bytes) P = Unit {0}
OnFailed (Err Failed) P = P
OnFailed (Err TooLong) P = Unit {0}
OnFailed (Err Memory) P = Unit {0}

-- a fact where the fetch answered `TooLong`
abbrev pub OnTooLong : {T : Type 0} → Result T FetchFault → Type 0 → Type 0
OnTooLong (Ok bytes) P = Unit {0}
OnTooLong (Err Failed) P = Unit {0}
OnTooLong (Err TooLong) P = P
OnTooLong (Err Memory) P = Unit {0}

-- a fact where the fetch found no memory
abbrev pub OnMemory : {T : Type 0} → Result T FetchFault → Type 0 → Type 0
OnMemory (Ok bytes) P = Unit {0}
OnMemory (Err Failed) P = Unit {0}
OnMemory (Err TooLong) P = Unit {0}
OnMemory (Err Memory) P = P

-- a fact where the fetch didn't answer `Failed`
abbrev pub UnlessFailed : {T : Type 0} → Result T FetchFault → Type 0 → Type 0
UnlessFailed (Ok bytes) P = P
UnlessFailed (Err Failed) P = Unit {0}
UnlessFailed (Err TooLong) P = P
UnlessFailed (Err Memory) P = P

-- the fetch answered `Failed`, or found no memory
abbrev pub IsFailedOrMemory : {T : Type 0} → Result T FetchFault → Type 0
IsFailedOrMemory (Ok bytes) = ⊥
IsFailedOrMemory (Err Failed) = Unit {0}
IsFailedOrMemory (Err TooLong) = ⊥
IsFailedOrMemory (Err Memory) = Unit {0}

-- the name of the last fetch that answered `Failed`, once a fetch of this name gave this answer
abbrev pub missed_after : {T : Type 0} → Result T FetchFault → List ℕ → Option (List ℕ)
    → Option (List ℕ)
missed_after (Ok bytes) name before = before
missed_after (Err Failed) name before = Some name
missed_after (Err TooLong) name before = before
missed_after (Err Memory) name before = before

-- how many faults a shelf of real files counts, once a fetch gave this answer: one more exactly
-- after `Failed`
abbrev pub faults_after : {T : Type 0} → Result T FetchFault → ℕ → ℕ
faults_after (Ok bytes) before = before
faults_after (Err Failed) before = one_more before
faults_after (Err TooLong) before = before
faults_after (Err Memory) before = before
