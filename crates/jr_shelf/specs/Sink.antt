-- What a sink took.
use Rattle.std.specs.Prelude.{◌≡◌, ℕ, Option, None, Some, List, ◌++◌, take, Result, Ok, Err}
use Rattle.jr_shelf.specs.Counts.{Rose}

-- what was taken, where it is known, once these bytes came after it
abbrev pub with_bytes : Option (List ℕ) → List ℕ → Option (List ℕ)
with_bytes None bytes = None
with_bytes (Some taken) bytes = Some (taken ++ bytes)

-- what a put that failed may leave: a prefix of the bytes, maybe none or all of them, was appended
abbrev pub AppendedInPart : Option (List ℕ) → Option (List ℕ) → List ℕ → Type 0
AppendedInPart before after bytes = (n : ℕ) × (after ≡ with_bytes before (take n bytes))

-- the bytes were appended, and no fault was counted
pub record PutAll (before after : Option (List ℕ)) (faults_before faults_after : ℕ)
    (bytes : List ℕ) : Type 0 where
  pub took : after ≡ with_bytes before bytes
  pub unfailed : faults_after ≡ faults_before

-- a prefix of the bytes was appended, and a fault was counted
pub record PutInPart (before after : Option (List ℕ)) (faults_before faults_after : ℕ)
    (bytes : List ℕ) : Type 0 where
  pub took : AppendedInPart before after bytes
  pub failed : Rose faults_before faults_after

-- what puts that give these bytes together did, by their answer: the first that fails is the last
abbrev pub Puts : {T E : Type 0} → Result T E → Option (List ℕ) → Option (List ℕ) → ℕ → ℕ
    → List ℕ → Type 0
Puts (Ok done) before after faults_before faults_after bytes =
    PutAll before after faults_before faults_after bytes
Puts (Err fault) before after faults_before faults_after bytes =
    PutInPart before after faults_before faults_after bytes

-- what was put, and then these bytes where it was all put
abbrev pub PutsBehind : {T E : Type 0} → Result T E → Result T E → Option (List ℕ) → Option (List ℕ)
    → ℕ → ℕ → List ℕ → Type 0
PutsBehind first result between after faults_between faults_after more =
    (before : Option (List ℕ)) (faults_before : ℕ) (bytes : List ℕ)
    → Puts first before between faults_before faults_between bytes
    → Puts result before after faults_before faults_after (bytes ++ more)
