-- What becomes of the keys and rows of a program, as data: one for each way in which refactorings
-- change keys. `jr_images: Regions` says what holds of any; what is said here of a rename is what
-- is said there.
use Rattle.std.specs.Prelude.{
  ◌≡◌,
  ◌≢◌,
  ℕ,
  ◌<◌,
  ◌+◌,
  ◌-◌,
  List,
  [],
  ◌∷◌,
  ◌++◌,
  map,
  take,
  drop,
  length,
  Bool,
  true,
  false,
  Option,
  Some,
  None,
  option_map,
  unwrap_or,
  flat_map,
  slice_get,
  nat_eq,
  if◌then◌else◌,
}
use Rattle.jr_ast.specs.Tree as tree
use Rattle.jr_table.specs.Keys.{
  ClassKey,
  FieldKey,
  MethodKey,
  CtorKey,
  Ty,
  int,
  boolean,
  void,
  null,
  class,
}
use Rattle.jr_table.specs.Decls.{
  MemberKey,
  LocalKey,
  Decl,
  class_decl,
  field_decl,
  method_decl,
  constructor_decl,
  local_decl,
}
use Rattle.jr_table.specs.Rows.{Row}
use Rattle.jr_table.specs.Entries.{class_of_member, IsRowOf}
use Rattle.jr_table.specs.Scope.{Scope, ScopeLocal, last_named}
use Rattle.jr_table.specs.Lookup.{decl_at}
use Rattle.jr_table.specs.Context.{Context, Local, IsLocalType, known, scope_of}
use Rattle.jr_images.specs.Images as renaming
use Rattle.jr_images.specs.Images.{Renaming}
use Rattle.jr_images.specs.Regions as regions
use Rattle.jr_images.specs.Regions.{Images, Seen, Region, itself}
use Rattle.jr_images.specs.Words.{InFront, IsOfClass, Stands, FindsBetween, FirstWord, NextWord}
use Rattle.jr_table.specs.Found.{Found}

-- ---- keys

-- they stay, or declarations get another name
pub data KeyMapping : Type 0 where
  same_keys : KeyMapping
  renamed : Renaming → KeyMapping

abbrev pub class_by : KeyMapping → ClassKey → ClassKey
class_by same_keys k = k
class_by (renamed g) k = renaming.class_to g k

abbrev pub field_by : KeyMapping → FieldKey → FieldKey
field_by same_keys k = k
field_by (renamed g) k = renaming.field_to g k

abbrev pub method_by : KeyMapping → MethodKey → MethodKey
method_by same_keys k = k
method_by (renamed g) k = renaming.method_to g k

abbrev pub ctor_by : KeyMapping → CtorKey → CtorKey
ctor_by same_keys k = k
ctor_by (renamed g) k = renaming.ctor_to g k

abbrev pub member_by : KeyMapping → MemberKey → MemberKey
member_by same_keys k = k
member_by (renamed g) k = renaming.member_to g k

-- the name of a declaration whose old one this is
abbrev pub name_by : KeyMapping → Decl → (old : List ℕ) → List ℕ
name_by same_keys d old = old
name_by (renamed g) d old = renaming.name_to g d old

-- whether the declaration gets another name
abbrev pub is_renamed_by : KeyMapping → Decl → Bool
is_renamed_by same_keys d = false
is_renamed_by (renamed g) d = renaming.is_renamed g d

abbrev pub type_by : KeyMapping → Ty → Ty
type_by x int = int
type_by x boolean = boolean
type_by x void = void
type_by x null = null
type_by x (class k) = class (class_by x k)

abbrev pub types_by : KeyMapping → List Ty → List Ty
types_by x ts = map (type_by x) ts

-- a local's key in what becomes of its member, with this number
abbrev pub numbered_key : KeyMapping → LocalKey → ℕ → LocalKey
numbered_key x k n = record { member = member_by x k.member; number = n }

-- of declarations that have rows; no row is that of a local
abbrev pub decl_by : KeyMapping → Decl → Decl
decl_by x (class_decl k) = class_decl (class_by x k)
decl_by x (field_decl k) = field_decl (field_by x k)
decl_by x (method_decl k) = method_decl (method_by x k)
decl_by x (constructor_decl k) = constructor_decl (ctor_by x k)
decl_by x (local_decl k) = local_decl (numbered_key x k k.number)

-- ---- locals of the member that is walked

-- a local that comes with a refactoring, with an old type of which its type is the image
pub record MadeLocal : Type 0 where
  pub name : List ℕ
  pub number : ℕ
  pub type : Ty

-- one that is gone, with an old type of which what stands now at its reads has the image
pub record GoneLocal : Type 0 where
  pub number : ℕ
  pub type : Ty

pub record Renumbering : Type 0 where
  -- the new numbers of the first ones, and none of one that is gone
  pub firsts : List (Option ℕ)
  -- that of the one behind them
  pub next : ℕ
  -- these are made, and stand behind so many of the old place
  pub made : List MadeLocal
  pub depth : ℕ
  -- at the reads of this one something else stands
  pub gone : Option GoneLocal

pub data LocalMapping : Type 0 where
  all_stay : LocalMapping
  renumbered : Renumbering → LocalMapping

abbrev pub renumber : Renumbering → ℕ → Option ℕ
renumber r n = unwrap_or (slice_get r.firsts n) (Some (r.next + (n - length r.firsts)))

abbrev pub number_by : LocalMapping → ℕ → Option ℕ
number_by all_stay n = Some n
number_by (renumbered r) n = renumber r n

-- none of one that is gone
abbrev pub local_by : KeyMapping → LocalMapping → LocalKey → Option LocalKey
local_by x all_stay k = Some (numbered_key x k k.number)
local_by x (renumbered r) k = option_map (numbered_key x k) (renumber r k.number)

-- the local with its new name and this number; its type is the old one
abbrev pub image_local : KeyMapping → ℕ → Local → Local
image_local x n l = record {
  name = name_by x (local_decl l.key) l.name;
  key = numbered_key x l.key n;
  is_final = l.is_final;
  type = l.type;
  has_init = l.has_init;
}

abbrev pub if_kept : KeyMapping → Option ℕ → Local → List Local
if_kept x None l = []
if_kept x (Some n) l = image_local x n l ∷ []

abbrev pub kept_locals : KeyMapping → Renumbering → List Local → List Local
kept_locals x r ls = flat_map (λ (l : Local). if_kept x (renumber r l.key.number) l) ls

abbrev pub made_local : MemberKey → MadeLocal → Local
made_local image m = record {
  name = m.name;
  key = record { member = image; number = m.number };
  is_final = false;
  type = known m.type;
  has_init = true;
}

-- the locals of the new place, each with its old type, or one of which its type is the image
abbrev pub locals_by : KeyMapping → LocalMapping → MemberKey → List Local → List Local
locals_by x all_stay k ls = map (λ (l : Local). image_local x l.key.number l) ls
locals_by x (renumbered r) k ls = kept_locals x r (take r.depth ls)
    ++ (map (made_local (member_by x k)) r.made ++ kept_locals x r (drop r.depth ls))

-- as lookup sees them
abbrev pub seen_local : Local → ScopeLocal
seen_local l = record { name = l.name; key = l.key }

abbrev pub seen_image : KeyMapping → Local → ScopeLocal
seen_image x l = record {
  name = name_by x (local_decl l.key) l.name;
  key = numbered_key x l.key l.key.number;
}

abbrev pub seen_locals_by : KeyMapping → LocalMapping → MemberKey → List Local → List ScopeLocal
seen_locals_by x all_stay k ls = map (seen_image x) ls
seen_locals_by x (renumbered r) k ls = map seen_local (locals_by x (renumbered r) k ls)

-- ---- types of what stands now in the place of an expression

-- The name that the expression reads, in parentheses or not (JLS 15.8.5); an assignment has the type
-- of what it assigns (JLS 15.26).
abbrev pub read_name : {A : Type 0} → tree.Exp A → Option (List ℕ)
read_name (tree.name m w) = Some w.text
read_name (tree.paren m e) = read_name e
read_name (tree.assign m e f) = read_name e
read_name _ = None

abbrev pub gone_in : LocalMapping → Option GoneLocal
gone_in all_stay = None
gone_in (renumbered r) = r.gone

-- the old type of what stands at a read of this local, if something else does
abbrev pub type_for : GoneLocal → Option LocalKey → Option Ty
type_for g None = None
type_for g (Some k) = if nat_eq k.number g.number then Some g.type else None

-- and at one of the local that the name finds
abbrev pub type_read : GoneLocal → Context → Option (List ℕ) → Option Ty
type_read g c None = None
type_read g c (Some name) = type_for g (last_named name (scope_of c).locals)

module _ {A : Type 0} where
  -- the old type of what stands in the place of an expression that had this type
  abbrev pub type_where : Option GoneLocal → Context → tree.Exp A → Ty → Ty
  type_where None c e t = t
  type_where (Some g) c e t = unwrap_or (type_read g c (read_name e)) t

  -- those of what stands in the places of arguments
  abbrev pub types_where : Option GoneLocal → Context → tree.Exps A → List Ty → List Ty
  types_where None c es ts = ts
  types_where (Some g) c tree.end ts = []
  types_where (Some g) c (tree.more e es) [] = []
  types_where (Some g) c (tree.more e es) (t ∷ ts) =
      type_where (Some g) c e t ∷ types_where (Some g) c es ts

-- ---- rows

-- of a rename the images, in the old order
abbrev pub rows_by : KeyMapping → (new old : List Row) → List Row
rows_by same_keys new old = new
rows_by (renamed g) new old = renaming.rows_to g old

-- ---- with the rows of the new program

pub record Mapping : Type 0 where
  pub keys : KeyMapping
  pub locals : LocalMapping
  pub new : List Row

module _ (m : Mapping) where
  abbrev pub class_to : ClassKey → ClassKey
  class_to = class_by m.keys

  abbrev pub field_to : FieldKey → FieldKey
  field_to = field_by m.keys

  abbrev pub method_to : MethodKey → MethodKey
  method_to = method_by m.keys

  abbrev pub ctor_to : CtorKey → CtorKey
  ctor_to = ctor_by m.keys

  abbrev pub member_to : MemberKey → MemberKey
  member_to = member_by m.keys

  abbrev pub name_to : Decl → (old : List ℕ) → List ℕ
  name_to = name_by m.keys

  abbrev pub type_to : Ty → Ty
  type_to = type_by m.keys

  abbrev pub types_to : List Ty → List Ty
  types_to = types_by m.keys

  abbrev pub local_to : LocalKey → Option LocalKey
  local_to = local_by m.keys m.locals

  -- none of a local that is gone
  abbrev pub decl_to : Decl → Option Decl
  decl_to (class_decl k) = Some (class_decl (class_to k))
  decl_to (field_decl k) = Some (field_decl (field_to k))
  decl_to (method_decl k) = Some (method_decl (method_to k))
  decl_to (constructor_decl k) = Some (constructor_decl (ctor_to k))
  decl_to (local_decl k) = option_map (λ (l : LocalKey). local_decl l) (local_to k)

  -- the types of what stands now in the places of expressions that had types
  abbrev pub type_now : {A : Type 0} → Context → tree.Exp A → Ty → Ty
  type_now c e t = type_to (type_where (gone_in m.locals) c e t)

  abbrev pub types_now : {A : Type 0} → Context → tree.Exps A → List Ty → List Ty
  types_now c es ts = types_to (types_where (gone_in m.locals) c es ts)

  -- the rows of the new program
  abbrev pub rows_to : List Row → List Row
  rows_to rows = rows_by m.keys m.new rows

  abbrev pub locals_to : Context → List Local
  locals_to c = locals_by m.keys m.locals c.member c.locals

  -- what lookup sees at the place in the new program
  abbrev pub scope_to : Context → Scope
  scope_to c = record {
    class = class_to (class_of_member c.member);
    is_static = c.is_static;
    locals = seen_locals_by m.keys m.locals c.member c.locals;
  }

-- the last of these locals that has the key
pub record IsLast (ls : List Local) (k : LocalKey) (l : Local) : Type 0 where
  pub number : ℕ
  pub stands : slice_get ls number ≡ Some l
  pub is : l.key ≡ k
  pub last : (i : ℕ) (other : Local) → number < i → slice_get ls i ≡ Some other
      → other.key ≢ k

-- ---- what is seen from a place

-- the last local of the new place that has the key is of a class that has this image
abbrev pub HasClass : List Row → Mapping → Context → LocalKey → ClassKey → Type 0
HasClass rows m c k b = (l : Local) × (t : ClassKey) × (j : ℕ) × IsLast (locals_to m c) k l
    × IsLocalType rows (scope_of c) l.type (class t) × IsRowOf rows (class_decl t) j
    × (b ≡ class_to m t)

abbrev pub HasClassBy : KeyMapping → LocalMapping → List Row → Mapping → Context → LocalKey
    → ClassKey → Type 0
HasClassBy same_keys y rows m = HasClass rows m
HasClassBy (renamed g) all_stay rows m = (regions.seen_of rows g).HasClass
HasClassBy (renamed g) (renumbered r) rows m = HasClass rows m

abbrev pub images_of : List Row → Mapping → Images
images_of rows m = record {
  class_to = class_to m;
  field_to = field_to m;
  method_to = method_to m;
  ctor_to = ctor_to m;
  name_to = name_to m;
  rows = rows_to m rows;
}

abbrev pub seen_of : List Row → Mapping → Seen
seen_of rows m = record {
  images = images_of rows m;
  scope = scope_to m;
  local_to = λ c k. local_to m k;
  HasClass = HasClassBy m.keys m.locals rows m;
}

abbrev pub region_of : {A : Type 0} → List Row → Mapping → Region A
region_of rows m = record {
  seen = seen_of rows m;
  type_now = λ c e t. type_now m c e t;
  types_now = λ c es ts. types_now m c es ts;
  receiver = itself;
}

module _ (rows : List Row) (m : Mapping) (c : Context) where
  abbrev pub IsValueOf : Found → ClassKey → Type 0
  IsValueOf = IsOfClass (seen_of rows m) c

  abbrev pub StandsSo : Found → InFront → Type 0
  StandsSo = Stands (seen_of rows m) c

  abbrev pub FindsNext : InFront → (name : List ℕ) → Found → Type 0
  FindsNext = FindsBetween (seen_of rows m) c

  abbrev pub FirstStands : ClassKey → InFront → Type 0
  FirstStands = FirstWord (seen_of rows m) c

  abbrev pub NextStands : (front : InFront) → ClassKey → InFront → Type 0
  NextStands = NextWord (seen_of rows m) c

-- ---- rows beside rows

-- what the one row declares becomes what the other declares
abbrev pub BecomesAt : KeyMapping → (old new : List Row) → (before after : ℕ) → Type 0
BecomesAt x old new i j = (d : Decl) → decl_at new j ≡ Some d
    → (e : Decl) × (decl_at old i ≡ Some e) × (decl_by x e ≡ d)

-- each old declaration's image has a row; of a rename it has the number of the old one's
abbrev pub HaveImages : KeyMapping → (old new : List Row) → Type 0
HaveImages same_keys old new = (d : Decl) (j : ℕ) → IsRowOf old d j → (i : ℕ) × IsRowOf new d i
HaveImages (renamed g) old new = new ≡ renaming.rows_to g old
