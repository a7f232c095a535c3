-- How the walk maps the locals of a member where one comes or goes, as data.
use Rattle.std.specs.Prelude.{ℕ, zero, suc, List, [], ◌∷◌, ◌++◌, Option, Some, None}
use Rattle.jr_table.specs.Keys.{Ty}
use Rattle.jr_table.specs.Rows.{Row}
use Rattle.jr_new_words.specs.Mappings.{
  same_keys,
  MadeLocal,
  Renumbering,
  renumbered,
  Mapping,
}

-- so many numbers from one on
abbrev pub numbers_from : (i count : ℕ) → List (Option ℕ)
numbers_from i zero = []
numbers_from i (suc n) = Some i ∷ numbers_from (suc i) n

-- locals get new numbers, and nothing else changes
abbrev pub moved : List Row → Renumbering → Mapping
moved rows r = record { keys = same_keys; locals = renumbered r; new = rows }

-- ---- extract local, where the new local has the number n, the name and the type

module _ (n : ℕ) (name : List ℕ) (type : Ty) where
  abbrev pub made : MadeLocal
  made = record { name = name; number = n; type = type }

  -- outside of its list
  abbrev pub around : Renumbering
  around = record { firsts = numbers_from 0 n; next = suc n; made = []; depth = 0; gone = None }

  -- in its list from its declaration on, in front of which so many locals are in scope
  abbrev pub behind : (depth : ℕ) → Renumbering
  behind depth = record {
    firsts = numbers_from 0 n;
    next = suc n;
    made = made ∷ [];
    depth = depth;
    gone = None;
  }

  -- in its initializer: a local that the statement declares isn't in scope there
  abbrev pub initializing : (depth : ℕ) → Renumbering
  initializing depth = record {
    firsts = numbers_from 0 n ++ None ∷ [];
    next = suc n;
    made = made ∷ [];
    depth = depth;
    gone = None;
  }

-- ---- inline local, of the local of the number n, whose initializer has the type

abbrev pub without : (n : ℕ) → Ty → Renumbering
without n type = record {
  firsts = numbers_from 0 n ++ None ∷ [];
  next = n;
  made = [];
  depth = 0;
  gone = Some (record { number = n; type = type });
}
