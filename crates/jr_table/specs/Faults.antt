-- The faults of a program's declarations, ten kinds, each with its place; and the first fault.
use Rattle.std.specs.Prelude.{
  ◌≡◌,
  ◌≢◌,
  ℕ,
  zero,
  suc,
  ◌<◌,
  ◌≤◌,
  List,
  [],
  ◌∷◌,
  Option,
  Some,
  None,
  Bool,
  true,
  false,
  codes,
  slice_get,
  map,
  ◌⊎◌,
  option_map,
}
use Rattle.jr_ast.specs.declared.operators.ModWord.{ModWord}
use Rattle.jr_ast.specs.declared.operators.ModWord.TheVariants as word
use Rattle.jr_table.specs.declared.kinds.DeclKind.{DeclKind}
use Rattle.jr_table.specs.declared.kinds.DeclKind.TheVariants as kind
use Rattle.jr_table.specs.Keys.{ClassKey, Ty}
use Rattle.jr_table.specs.DeclaredItems.{
  Written,
  int,
  boolean,
  named,
  DeclaredParam,
  DeclaredInit,
  DeclaredClass,
  DeclaredField,
  DeclaredMethod,
  DeclaredCtor,
  Item,
  class_item,
  field_item,
  method_item,
  ctor_item,
  DeclaredItem,
}
use Rattle.jr_table.specs.Resolving.{HasWord, IsPreludeClass, IsParent, Climbs, Means}

-- a place in the files of a program
pub record Place : Type 0 where
  pub file : ℕ
  pub at : ℕ

-- one place comes before another, or is it
abbrev pub IsUpTo : Place → Place → Type 0
IsUpTo p q = (p.file < q.file) ⊎ ((p.file ≡ q.file) × (p.at ≤ q.at))

-- the package line of a file: the place of its word `package`, and its names
pub record PackageLine : Type 0 where
  pub at : ℕ
  pub names : List (List ℕ)

abbrev pub names_of : Option PackageLine → List (List ℕ)
names_of None = []
names_of (Some l) = l.names

abbrev pub line_at : Option PackageLine → ℕ
line_at None = 0
line_at (Some l) = l.at

-- declaration i of a file
pub record At (declarations : List DeclaredItem) (i file : ℕ) (item : Item) : Type 0 where
  pub stands : slice_get declarations i ≡ Some (record { file = file; item = item })

abbrev pub IsReserved : List ℕ → Type 0
IsReserved name = IsPreludeClass name ⊎ (name ≡ codes "Runnable")

-- a class of the name that its own class around has
abbrev pub IsNamedAsOuter : ClassKey → Type 0
IsNamedAsOuter k = k.outer ≡ Some k.name

-- modifiers

-- the word stands at two places
abbrev pub IsTwice : List ModWord → ModWord → Type 0
IsTwice ws w = (i : ℕ) × (j : ℕ) × (i < j) × (slice_get ws i ≡ Some w) × (slice_get ws j ≡ Some w)

abbrev pub IsAccess : ModWord → Type 0
IsAccess word.Public = Unit {0}
IsAccess word.Protected = Unit {0}
IsAccess word.Private = Unit {0}
IsAccess _ = ⊥

-- the words that a top-level class, a member class, a field, a method and a constructor may have
-- (JLS 8.1.1, 8.3.1, 8.4.3, 8.8.3)
abbrev pub TopWord : ModWord → Type 0
TopWord word.Public = Unit {0}
TopWord word.Final = Unit {0}
TopWord _ = ⊥

abbrev pub InnerWord : ModWord → Type 0
InnerWord word.Static = Unit {0}
InnerWord word.Final = Unit {0}
InnerWord w = IsAccess w

abbrev pub FieldWord : ModWord → Type 0
FieldWord word.Static = Unit {0}
FieldWord word.Final = Unit {0}
FieldWord word.Volatile = Unit {0}
FieldWord w = IsAccess w

abbrev pub MethodWord : ModWord → Type 0
MethodWord word.Static = Unit {0}
MethodWord word.Final = Unit {0}
MethodWord word.Synchronized = Unit {0}
MethodWord w = IsAccess w

-- a word twice, two access words, a word not among these, `final` with `volatile`
abbrev pub AreBad : (ModWord → Type 0) → List ModWord → Type 0
AreBad May ws = ((w : ModWord) × IsTwice ws w)
    ⊎ (((v : ModWord) × (w : ModWord) × (v ≢ w) × IsAccess v × IsAccess w × HasWord ws v
    × HasWord ws w)
    ⊎ (((w : ModWord) × HasWord ws w × (May w → ⊥))
    ⊎ (HasWord ws word.Final × HasWord ws word.Volatile)))

-- a member class is declared `static` too
abbrev pub ClassWordsBad : DeclaredClass → Option (List ℕ) → Type 0
ClassWordsBad c None = AreBad TopWord c.modifiers
ClassWordsBad c (Some outer) = AreBad InnerWord c.modifiers ⊎ (HasWord c.modifiers word.Static → ⊥)

abbrev pub WordsBad : Item → Type 0
WordsBad (class_item c) = ClassWordsBad c c.key.outer
WordsBad (field_item f) = AreBad FieldWord f.modifiers
WordsBad (method_item m) = AreBad MethodWord m.modifiers
WordsBad (ctor_item c) = AreBad IsAccess c.modifiers

-- where the declared name stands
abbrev pub name_at : Item → ℕ
name_at (class_item c) = c.at
name_at (field_item f) = f.at
name_at (method_item m) = m.at
name_at (ctor_item c) = c.at

-- the types that a member writes, and where it stands
abbrev pub Writes : List DeclaredParam → Written → Type 0
Writes [] t = ⊥
Writes (p ∷ ps) t = (p.type ≡ t) ⊎ Writes ps t

abbrev pub WritesType : Item → ClassKey → Written → Type 0
WritesType (class_item c) k t = ⊥
WritesType (field_item f) k t = (f.of ≡ k) × (f.type ≡ t)
WritesType (method_item m) k t = (m.of ≡ k) × ((m.result ≡ Some t) ⊎ Writes m.params t)
WritesType (ctor_item c) k t = (c.of ≡ k) × Writes c.params t

module _ (declarations : List DeclaredItem) where
  -- the types of two lists of parameters are the same
  abbrev pub SameTypes : ClassKey → List DeclaredParam → List DeclaredParam → Type 0
  SameTypes k [] [] = Unit {0}
  SameTypes k (p ∷ ps) (q ∷ qs) =
      ((t : Ty) × Means declarations k p.type t × Means declarations k q.type t) × SameTypes k ps qs
  SameTypes k _ _ = ⊥

  -- the later of two members declares what the earlier does
  abbrev pub SameMember : Item → Item → Type 0
  SameMember (field_item f) (field_item g) = (f.of ≡ g.of) × (f.name ≡ g.name)
  SameMember (method_item m) (method_item n) =
      (m.of ≡ n.of) × (m.name ≡ n.name) × SameTypes m.of m.params n.params
  SameMember (ctor_item c) (ctor_item d) = (c.of ≡ d.of) × SameTypes c.of c.params d.params
  SameMember _ _ = ⊥

abbrev pub params_of : Item → List DeclaredParam
params_of (method_item m) = m.params
params_of (ctor_item c) = c.params
params_of _ = []

-- the second of two parameters of one name stands there
pub record ParamTwice (ps : List DeclaredParam) (at : ℕ) : Type 0 where
  pub i : ℕ
  pub j : ℕ
  pub before : i < j
  pub first : DeclaredParam
  pub second : DeclaredParam
  pub one : slice_get ps i ≡ Some first
  pub other : slice_get ps j ≡ Some second
  pub same : first.name ≡ second.name
  pub place : second.at ≡ at

-- the member is a field or method of the class around class k, and has its name
abbrev pub HasItsName : ClassKey → Item → Type 0
HasItsName k (field_item f) = (f.of.outer ≡ None) × (k.outer ≡ Some f.of.name) × (f.name ≡ k.name)
HasItsName k (method_item m) = (m.of.outer ≡ None) × (k.outer ≡ Some m.of.name) × (m.name ≡ k.name)
HasItsName k _ = ⊥

-- a static field has an initializer of another form there
abbrev pub InitIsBad : Item → ℕ → Type 0
InitIsBad (field_item f) at = HasWord f.modifiers word.Static
    × ((i : DeclaredInit) × (f.init ≡ Some i) × (i.is_simple ≡ false) × (i.at ≡ at))
InitIsBad _ at = ⊥

module _ (packages : List (Option PackageLine)) (declarations : List DeclaredItem) where
  -- a fault of the kind stands there
  abbrev pub HasFault : DeclKind → Place → Type 0
  HasFault kind.PackageDiffers p = (first : Option PackageLine) × (own : Option PackageLine)
      × (slice_get packages 0 ≡ Some first) × (slice_get packages p.file ≡ Some own)
      × (names_of own ≢ names_of first) × (p.at ≡ line_at own)
  HasFault kind.PreludeName p = (i : ℕ) × (c : DeclaredClass) × At declarations i p.file (class_item c)
      × IsReserved c.key.name × (p.at ≡ c.at)
  HasFault kind.TwiceClass p =
      (j : ℕ) × (c : DeclaredClass) × At declarations j p.file (class_item c) × (p.at ≡ c.at)
      × (((i : ℕ) × (file : ℕ) × (d : DeclaredClass) × (i < j) × At declarations i file (class_item d)
      × (d.key ≡ c.key)) ⊎ IsNamedAsOuter c.key)
  HasFault kind.NoSuperclass p = (i : ℕ) × (c : DeclaredClass) × (outer : Option (List ℕ))
      × (name : List ℕ) × At declarations i p.file (class_item c)
      × (c.parent ≡ Some (named p.at outer name))
      × ((q : ClassKey) → IsParent declarations c.key q → ⊥)
  HasFault kind.Cycle p = (i : ℕ) × (c : DeclaredClass) × (steps : ℕ) × At declarations i p.file (class_item c)
      × Climbs declarations (suc steps) c.key c.key × (p.at ≡ c.at)
  HasFault kind.NoTy p = (i : ℕ) × (item : Item) × (k : ClassKey) × (outer : Option (List ℕ))
      × (name : List ℕ) × At declarations i p.file item × WritesType item k (named p.at outer name)
      × ((t : Ty) → Means declarations k (named p.at outer name) t → ⊥)
  HasFault kind.TwiceMember p = (j : ℕ) × (m : Item) × At declarations j p.file m
      × (((i : ℕ) × (file : ℕ) × (l : Item) × (i < j) × At declarations i file l × SameMember declarations l m
      × (p.at ≡ name_at m)) ⊎ ParamTwice (params_of m) p.at)
  HasFault kind.MemberTypeName p = (i : ℕ) × (j : ℕ) × (file : ℕ) × (c : DeclaredClass) × (m : Item)
      × At declarations i p.file (class_item c) × At declarations j file m × HasItsName c.key m × (p.at ≡ c.at)
  HasFault kind.BadModifiers p =
      (i : ℕ) × (item : Item) × At declarations i p.file item × WordsBad item × (p.at ≡ name_at item)
  HasFault kind.StaticInit p =
      (i : ℕ) × (item : Item) × At declarations i p.file item × InitIsBad item p.at

  -- the order of the kinds
  abbrev pub rank_of : DeclKind → ℕ
  rank_of kind.PackageDiffers = 1
  rank_of kind.PreludeName = 2
  rank_of kind.TwiceClass = 3
  rank_of kind.NoSuperclass = 4
  rank_of kind.Cycle = 5
  rank_of kind.NoTy = 6
  rank_of kind.TwiceMember = 7
  rank_of kind.MemberTypeName = 8
  rank_of kind.BadModifiers = 9
  rank_of kind.StaticInit = 10

  -- the lowest kind that occurs, at its first place
  pub record IsFirstFault (k : DeclKind) (p : Place) : Type 0 where
    pub has : HasFault k p
    pub lowest : (l : DeclKind) (q : Place) → HasFault l q → rank_of k ≤ rank_of l
    pub first : (q : Place) → HasFault k q → IsUpTo p q

  -- there is no fault
  abbrev pub IsClean : Type 0
  IsClean = (k : DeclKind) (p : Place) → HasFault k p → ⊥
