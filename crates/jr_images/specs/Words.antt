-- What the words in front of a dot find in the new program, each with its new name: looked up as
-- they are, a class, a value of a class, or neither (JLS 6.4.2, 6.5.2). What each of them meant
-- before doesn't come into it.
use Rattle.std.specs.Prelude.{◌≡◌, ◌≢◌, ℕ, List, Option, Some, None}
use Rattle.jr_ast.specs.Tree as tree
use Rattle.jr_table.specs.Keys.{ClassKey, class}
use Rattle.jr_table.specs.Decls.{LocalKey, class_decl, field_decl, local_decl}
use Rattle.jr_table.specs.Rows.{Row}
use Rattle.jr_table.specs.Entries.{IsRowOf}
use Rattle.jr_table.specs.Found.{Found, one, nothing}
use Rattle.jr_table.specs.Lookup.{FindsFieldIn, FindsLeft, FindsLeftOf}
use Rattle.jr_table.specs.Context.{Context, Local}
use Rattle.jr_table.specs.Binding.{IsClassName}
use Rattle.jr_images.specs.Images.{Renaming}
use Rattle.jr_images.specs.Regions.{Seen, IsLastImage, seen_of}

-- what stands in front of a dot: the name of a class, a value of a class, or neither
pub data InFront : Type 0 where
  class_name : ClassKey → InFront
  value_of : ClassKey → InFront
  neither : InFront

-- the class whose name it is
abbrev pub named_class : InFront → Option ClassKey
named_class (class_name k) = Some k
named_class (value_of k) = None
named_class neither = None

-- what is found in the class of it; nothing where it has none
abbrev pub FindsBehind : InFront → (Finds : ClassKey → Found → Type 0) → Found → Type 0
FindsBehind (class_name k) Finds f = Finds k f
FindsBehind (value_of k) Finds f = Finds k f
FindsBehind neither Finds f = f ≡ nothing

module _ (V : Seen) (c : Context) where
  -- a variable is found, whose type is the class
  abbrev pub IsOfClass : Found → ClassKey → Type 0
  IsOfClass (one (local_decl k)) b = V.HasClass c k b
  IsOfClass (one (field_decl q)) b =
      (j : ℕ) × (i : IsRowOf V.images.rows (field_decl q) j) × (i.row.type ≡ Some (class b))
  IsOfClass _ b = ⊥

  -- what is found stands so in front of a dot
  abbrev pub Stands : Found → InFront → Type 0
  Stands f (class_name b) = f ≡ one (class_decl b)
  Stands f (value_of b) = IsOfClass f b
  Stands f neither =
      ((b : ClassKey) → f ≢ one (class_decl b)) × ((b : ClassKey) → IsOfClass f b → ⊥)

  -- a name behind the dot and in front of a further one: behind a class a field or a member class
  -- of it, behind a value a field of its class
  abbrev pub FindsBetween : InFront → (name : List ℕ) → Found → Type 0
  FindsBetween (class_name k) name f = FindsLeftOf V.images.rows (V.scope c) k name f
  FindsBetween (value_of k) name f = FindsFieldIn V.images.rows (V.scope c) k name f
  FindsBetween neither name f = f ≡ nothing

  -- the new name of class k as the first word, and behind words that stand so
  abbrev pub FirstWord : ClassKey → InFront → Type 0
  FirstWord k w = (f : Found)
      × FindsLeft V.images.rows (V.scope c) (V.images.class_to k).name f × Stands f w

  abbrev pub NextWord : (front : InFront) → ClassKey → InFront → Type 0
  NextWord v k w = (f : Found) × FindsBetween v (V.images.class_to k).name f × Stands f w

-- the words of class k, in the order in which they stand
abbrev pub AreWords : {A : Type 0} → List Row → Seen → Context → tree.Exp A → ClassKey → InFront
    → Type 0
AreWords rows V c (tree.field m e x) k w = (o : ClassKey) × IsClassName rows c e o
    × (v : InFront) × AreWords rows V c e o v × NextWord V c v k w
AreWords rows V c _ k w = FirstWord V c k w

-- ---- of a rename

module _ (rows : List Row) (g : Renaming) (c : Context) where
  abbrev pub HasImage : LocalKey → Local → Type 0
  HasImage = IsLastImage g c

  abbrev pub IsValueOf : Found → ClassKey → Type 0
  IsValueOf = IsOfClass (seen_of rows g) c

  abbrev pub StandsSo : Found → InFront → Type 0
  StandsSo = Stands (seen_of rows g) c

  abbrev pub FindsNext : InFront → (name : List ℕ) → Found → Type 0
  FindsNext = FindsBetween (seen_of rows g) c

  abbrev pub FirstStands : ClassKey → InFront → Type 0
  FirstStands = FirstWord (seen_of rows g) c

  abbrev pub NextStands : (front : InFront) → ClassKey → InFront → Type 0
  NextStands = NextWord (seen_of rows g) c

module _ {A : Type 0} (rows : List Row) (g : Renaming) (c : Context) where
  abbrev pub WordsStand : tree.Exp A → ClassKey → InFront → Type 0
  WordsStand = AreWords rows (seen_of rows g) c
