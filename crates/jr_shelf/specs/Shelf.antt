-- What a shelf holds, and what a fetch and a store make of it.
use Rattle.std.specs.Prelude.{◌≡◌, ℕ, ◌<◌, ◌⊎◌, Option, None, Some, List, length, take, IfSome}
use Rattle.std.specs.Prelude.{IsSomeAnd}
use Rattle.jr_shelf.specs.Limits.{file_limit}
use Rattle.std.specs.Ordering.{nat_cmp}
use Rattle.std.specs.Cmp.Lexicographic.{slice_cmp}
use Rattle.std.specs.FinMap as map

-- files: from each name that is there to the bytes that it holds. A name is seen as its bytes
abbrev pub Files : Type 0
Files = map.FinMap (slice_cmp nat_cmp) (List ℕ)

-- where it is known what is held, the name holds exactly these bytes
abbrev pub Holds : Option Files → List ℕ → List ℕ → Type 0
Holds files name bytes = IfSome files (λ held. map.get held name ≡ Some bytes)

-- it is known what is held, and the name holds more bytes than a file may have
abbrev pub HoldsTooMuch : Option Files → List ℕ → Type 0
HoldsTooMuch files name =
    IsSomeAnd files (λ held. IsSomeAnd (map.get held name) (λ bytes. file_limit < length bytes))

-- it is known what is held, and the name isn't there
abbrev pub LacksName : Option Files → List ℕ → Type 0
LacksName files name = IsSomeAnd files (λ held. map.get held name ≡ None)

-- what is held, where it is known, once the name holds these bytes and each other name what it held
-- before
abbrev pub with_file : Option Files → List ℕ → List ℕ → Option Files
with_file None name bytes = None
with_file (Some files) name bytes = Some (map.insert files name bytes)

-- what a store that failed may leave: all is as it was, or the name holds a prefix of the bytes and
-- each other name what it held before
abbrev pub StoredInPart : Option Files → Option Files → List ℕ → List ℕ → Type 0
StoredInPart before after name bytes =
    (after ≡ before) ⊎ ((n : ℕ) × (after ≡ with_file before name (take n bytes)))
