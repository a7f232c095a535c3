-- Numbers by keys of classes, or of members by their name.
use Rattle.std.specs.Prelude.{◌≡◌, ◌<◌, ℕ, List, Option, Some, None, if◌then◌else◌}
use Rattle.std.specs.Option.{MatchOption}
use Rattle.std.specs.HashMap.{get_by}
use Rattle.jr_table.specs.Keys.{ClassKey}
use Rattle.jr_table.specs.SameKeys.{same_class}
use Rattle.jr_table.specs.DeclaredItems.{Item, class_item, field_item, method_item, DeclaredItem}
use Rattle.jr_table.specs.Faults.{At}
use Rattle.jr_build_declared.specs.DeclaredView.{declaration_key_of}
use Rattle.jr_build_declared.specs.declared.key_index.KeyIndex.{KeyIndex}

-- the number under the key, if there is one
abbrev pub number_at : KeyIndex → ClassKey → Option ℕ
number_at t k = get_by (λ x. same_class k (declaration_key_of x)) t.numbers

-- new has this number under the key, and the others as they were
abbrev pub PutsKey : KeyIndex → ClassKey → ℕ → KeyIndex → Type 0
PutsKey old key number new = (k : ClassKey) →
    number_at new k ≡ (if same_class key k then Some number else number_at old k)

abbrev pub PutsMaybe : KeyIndex → Option ClassKey → ℕ → KeyIndex → Type 0
PutsMaybe old None number new = (k : ClassKey) → number_at new k ≡ number_at old k
PutsMaybe old (Some key) number new = PutsKey old key number new

-- the class that an item declares
abbrev pub class_key_at : Item → Option ClassKey
class_key_at (class_item c) = Some c.key
class_key_at _ = None

-- the key that a member class of a field's or method's name would have, where a top-level class
-- declares it
abbrev pub key_in : Option (List ℕ) → List ℕ → List ℕ → Option ClassKey
key_in None of name = Some (record { outer = Some of; name = name })
key_in (Some outer) of name = None

abbrev pub name_key_at : Item → Option ClassKey
name_key_at (field_item f) = key_in f.of.outer f.of.name f.name
name_key_at (method_item m) = key_in m.of.outer m.of.name m.name
name_key_at _ = None

module _ (key_of : Item → Option ClassKey) (declarations : List DeclaredItem) where
  -- declaration i, among the first n, has the key
  abbrev pub HasKey : ℕ → ClassKey → ℕ → Type 0
  HasKey n k i = (file : ℕ) × (item : Item) × (i < n) × At declarations i file item
      × (key_of item ≡ Some k)

  -- the index has, of each key, a declaration among the first n that has it, if one has
  abbrev pub IsIndexOf : ℕ → KeyIndex → Type 0
  IsIndexOf n t = (k : ClassKey) →
      MatchOption (number_at t k) ((i : ℕ) → HasKey n k i → ⊥) (HasKey n k)
