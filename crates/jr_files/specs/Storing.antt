-- Files that are stored one after another.
use Rattle.std.specs.Prelude.{◌≡◌, ℕ, List, [], ◌∷◌, ◌++◌, length, Option}
use Rattle.jr_shelf.specs.Shelf.{Files, StoredInPart, with_file}

-- a name, and the text that is to be stored there
pub record Store : Type 0 where
  pub name : List ℕ
  pub text : List ℕ

-- what is held, where it is known, once all of them are stored in order
abbrev pub with_stores : Option Files → List Store → Option Files
with_stores files [] = files
with_stores files (s ∷ ss) = with_stores (with_file files s.name s.text) ss

-- the first `stored` of them are stored, of the next one at most a part, and no other
pub record StoredUpTo (files files' : Option Files) (stores : List Store)
    (stored : ℕ) : Type 0 where
  pub front : List Store
  pub next : Store
  pub back : List Store
  pub split : stores ≡ front ++ next ∷ back
  pub count : stored ≡ length front
  pub in_part : StoredInPart (with_stores files front) files' next.name next.text
