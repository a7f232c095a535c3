-- The faults that a declaration has by itself, each at its place.
use Rattle.std.specs.Prelude.{
  ◌≡◌,
  ◌≢◌,
  ◌<◌,
  ◌≤◌,
  ℕ,
  List,
  Option,
  Some,
  None,
  slice_get,
  ◌⊎◌,
  nat_eq,
  if◌then◌else◌,
  option_map,
}
use Rattle.std.specs.Cmp.Lexicographic.{pointwise}
use Rattle.std.specs.Option.{option_eq}
use Rattle.jr_ast.specs.declared.operators.ModWord.{ModWord}
use Rattle.jr_table.specs.Faults.{Place}
use Rattle.jr_table.specs.Resolving.{HasWord}
use Rattle.jr_table.specs.Keys.{ClassKey}
use Rattle.jr_table.specs.DeclaredItems.{Item, class_item, DeclaredClass, DeclaredItem}
use Rattle.jr_build_declared.specs.KeyIndex.{number_at}
use Rattle.jr_build_declared.specs.declared.key_index.KeyIndex.{KeyIndex}
use Rattle.jr_table.specs.Faults.{
  IsReserved,
  WordsBad,
  InitIsBad,
  name_at,
  TopWord,
  InnerWord,
  FieldWord,
  MethodWord,
  IsAccess,
  IsTwice,
  IsNamedAsOuter,
  HasItsName,
  At,
}
use Rattle.jr_build_declared.specs.declared.member_words.Allowed.{Allowed}
use Rattle.jr_build_declared.specs.declared.member_words.Allowed.TheVariants as allowed

-- the words that may stand there
abbrev pub May : Allowed → ModWord → Type 0
May allowed.Top w = TopWord w
May allowed.Inner w = InnerWord w
May allowed.Field w = FieldWord w
May allowed.Method w = MethodWord w
May allowed.Ctor w = IsAccess w

abbrev pub HasTwice : List ModWord → Type 0
HasTwice ws = (w : ModWord) × IsTwice ws w

abbrev pub HasTwoAccesses : List ModWord → Type 0
HasTwoAccesses ws = (v : ModWord) × (w : ModWord) × (v ≢ w) × IsAccess v × IsAccess w × HasWord ws v
    × HasWord ws w

abbrev pub HasOther : (ModWord → Type 0) → List ModWord → Type 0
HasOther May ws = (w : ModWord) × HasWord ws w × (May w → ⊥)

-- an item has the fault at this byte

abbrev pub ReservedAt : Item → ℕ → Type 0
ReservedAt (class_item c) at = IsReserved c.key.name × (at ≡ c.at)
ReservedAt _ at = ⊥

abbrev pub BadWordsAt : Item → ℕ → Type 0
BadWordsAt item at = WordsBad item × (at ≡ name_at item)

-- the least number that has the property, or none has it
abbrev pub IsLeastAt : (ℕ → Type 0) → Option ℕ → Type 0
IsLeastAt P None = (at : ℕ) → P at → ⊥
IsLeastAt P (Some a) = P a × ((b : ℕ) → P b → a ≤ b)

-- an earlier declaration declares a class of this key
abbrev pub HasEarlier : List DeclaredItem → ℕ → ClassKey → Type 0
HasEarlier declarations n k = (i : ℕ) × (file : ℕ) × (d : DeclaredClass) × (i < n)
    × At declarations i file (class_item d) × (d.key ≡ k)

abbrev pub TwiceClassAt : List DeclaredItem → ℕ → Item → ℕ → Type 0
TwiceClassAt declarations j (class_item c) at = (at ≡ c.at)
    × (HasEarlier declarations j c.key ⊎ IsNamedAsOuter c.key)
TwiceClassAt declarations j _ at = ⊥

abbrev pub MemberNamedAt : List DeclaredItem → Item → ℕ → Type 0
MemberNamedAt declarations (class_item c) at = (at ≡ c.at)
    × ((j : ℕ) × (file : ℕ) × (m : Item) × At declarations j file m × HasItsName c.key m)
MemberNamedAt declarations _ at = ⊥

-- one of the first n declarations, `number`, has the fault there
pub record Among (declarations : List DeclaredItem) (Fault : ℕ → Item → ℕ →
    Type 0) (n : ℕ) (p : Place) : Type 0 where
  pub number : ℕ
  pub below : number < n
  pub item : Item
  pub stands : At declarations number p.file item
  pub has : Fault number item p.at

-- exact

-- where a class is at fault of which another was under its key before, or wasn't
abbrev pub named_twice : ClassKey → ℕ → Option ℕ → Option ℕ
named_twice k at (Some i) = Some at
named_twice k at None = if option_eq (pointwise nat_eq) k.outer (Some k.name) then Some at else None

abbrev pub twice_of : Item → Option ℕ → Option ℕ
twice_of (class_item c) before = named_twice c.key c.at before
twice_of _ before = None

abbrev pub member_named : KeyIndex → Item → Option ℕ
member_named t (class_item c) = option_map (λ j. c.at) (number_at t c.key)
member_named t _ = None
