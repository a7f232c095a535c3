-- What becomes of a program where it is refactored: of keys and rows, of what is seen from a place,
-- and of the types that expressions have there. A rename is one case; another has regions, in each
-- of which all kept references are asked alike.
use Rattle.std.specs.Prelude.{
  ◌≡◌,
  ◌≢◌,
  ℕ,
  ◌<◌,
  List,
  [],
  ◌∷◌,
  Option,
  Some,
  None,
  option_map,
  slice_get,
  codes,
  length,
}
use Rattle.std.specs.List.{position_or_len}
use Rattle.jr_ast.specs.Tree as tree
use Rattle.jr_table.specs.Keys.{
  ClassKey,
  FieldKey,
  MethodKey,
  CtorKey,
  Ty,
  int,
  boolean,
  void,
  null,
  class,
}
use Rattle.jr_table.specs.Decls.{
  MemberKey,
  head,
  field,
  method,
  constructor,
  LocalKey,
  Decl,
  class_decl,
  field_decl,
  method_decl,
  constructor_decl,
  local_decl,
}
use Rattle.jr_table.specs.Rows.{Row}
use Rattle.jr_table.specs.Prelude.{top_key}
use Rattle.jr_table.specs.Entries.{IsRowOf}
use Rattle.jr_table.specs.Conditions.{AreRows}
use Rattle.jr_table.specs.Scope.{Scope, ScopeLocal}
use Rattle.jr_table.specs.Context.{Context, Local, IsLocalType, scope_of}
use Rattle.jr_spell.specs.Binds.{is_dot}
use Rattle.jr_images.specs.Images as renaming
use Rattle.jr_images.specs.Images.{Renaming}

-- ---- keys and rows

-- what becomes of keys and of names, and the rows of the new program
pub record Images : Type 0 where
  pub class_to : ClassKey → ClassKey
  pub field_to : FieldKey → FieldKey
  pub method_to : MethodKey → MethodKey
  pub ctor_to : CtorKey → CtorKey
  -- the name that stands at a declaration where this one stood
  pub name_to : Decl → (old : List ℕ) → List ℕ
  pub rows : List Row

module _ (m : Images) where
  abbrev pub image_of_type : Ty → Ty
  image_of_type int = int
  image_of_type boolean = boolean
  image_of_type void = void
  image_of_type null = null
  image_of_type (class k) = class (m.class_to k)

  abbrev pub image_of_member : MemberKey → MemberKey
  image_of_member (head k) = head (m.class_to k)
  image_of_member (field k) = field (m.field_to k)
  image_of_member (method k) = method (m.method_to k)
  image_of_member (constructor k) = constructor (m.ctor_to k)

  -- the row of a declaration's image has the image's key, and the images of its types; its
  -- modifiers are free
  pub record IsImageRow (old new : Row) : Type 0 where
    pub of_class : (k : ClassKey) → old.decl ≡ class_decl k → new.decl ≡ class_decl (m.class_to k)
    pub of_field : (k : FieldKey) → old.decl ≡ field_decl k → new.decl ≡ field_decl (m.field_to k)
    pub of_method : (k : MethodKey) → old.decl ≡ method_decl k
        → new.decl ≡ method_decl (m.method_to k)
    pub of_constructor : (k : CtorKey) → old.decl ≡ constructor_decl k
        → new.decl ≡ constructor_decl (m.ctor_to k)
    pub type : new.type ≡ option_map image_of_type old.type
    pub parent : new.parent ≡ option_map m.class_to old.parent

-- The new rows are those of a program, and each old declaration's image has one. Where rows stand,
-- and further ones, are free. No class's name has a dot, and the classes that literals have stay.
pub record AreImages (old : List Row) (m : Images) : Type 0 where
  pub are : AreRows m.rows
  pub images : (r : Row) (j : ℕ) → slice_get old j ≡ Some r
      → (i : ℕ) × (s : Row) × (slice_get m.rows i ≡ Some s) × IsImageRow m r s
  pub string : m.class_to (top_key (codes "String")) ≡ top_key (codes "String")
  pub class : m.class_to (top_key (codes "Class")) ≡ top_key (codes "Class")
  pub names : (k : ClassKey) (j : ℕ) → IsRowOf old (class_decl k) j
      → position_or_len is_dot (m.class_to k).name ≡ length (m.class_to k).name

-- ---- places

-- what is seen from the new place that stands for an old one, of which this was known
pub record Seen : Type 1 where
  pub images : Images
  pub scope : Context → Scope
  -- a local's image there; none of one that is gone
  pub local_to : Context → LocalKey → Option LocalKey
  -- a local there, kept or made, is of the class
  pub HasClass : Context → LocalKey → ClassKey → Type 0

-- the image of a declaration, seen from there
abbrev pub image_at : Seen → Context → Decl → Option Decl
image_at V c (class_decl k) = Some (class_decl (V.images.class_to k))
image_at V c (field_decl k) = Some (field_decl (V.images.field_to k))
image_at V c (method_decl k) = Some (method_decl (V.images.method_to k))
image_at V c (constructor_decl k) = Some (constructor_decl (V.images.ctor_to k))
image_at V c (local_decl k) = option_map (λ (l : LocalKey). local_decl l) (V.local_to c k)

-- Locals of the old place beside those of the new, in their order: one is kept with its image, one
-- is gone, one is made.
pub data LocalsTo (V : Seen) (c : Context) : List Local → List ScopeLocal → Type 0 where
  none : {ls : List Local} {ms : List ScopeLocal} → (let none : List Local = [] in ls ≡ none)
      → (let none : List ScopeLocal = [] in ms ≡ none) → LocalsTo V c ls ms
  kept : {l : Local} {m : ScopeLocal} {ls : List Local} {ms : List ScopeLocal}
      → V.local_to c l.key ≡ Some m.key → m.name ≡ V.images.name_to (local_decl l.key) l.name
      → LocalsTo V c ls ms → LocalsTo V c (l ∷ ls) (m ∷ ms)
  gone : {l : Local} {ls : List Local} {ms : List ScopeLocal} → V.local_to c l.key ≡ None
      → LocalsTo V c ls ms → LocalsTo V c (l ∷ ls) ms
  made : {m : ScopeLocal} {ls : List Local} {ms : List ScopeLocal}
      → ((k : LocalKey) → V.local_to c k ≢ Some m.key) → LocalsTo V c ls ms
      → LocalsTo V c ls (m ∷ ms)

-- ---- regions

-- what stands for `this`: itself, or a local of the new place
pub data Receiver : Type 0 where
  itself : Receiver
  stand_in : (key : LocalKey) (name : List ℕ) → Receiver

pub record Region (A : Type 0) : Type 1 where
  pub seen : Seen
  -- the type of what stands now in the place of an expression that had a type, and the types of
  -- what stands in the places of arguments that had types
  pub type_now : Context → tree.Exp A → Ty → Ty
  pub types_now : Context → tree.Exps A → List Ty → List Ty
  pub receiver : Receiver

-- each argument has the type that it has by itself
abbrev pub AreTypesNow : {A : Type 0} → Region A → Context → tree.Exps A → (old new : List Ty)
    → Type 0
AreTypesNow R c tree.end [] us = us ≡ []
AreTypesNow R c tree.end (t ∷ ts) us = Unit {0}
AreTypesNow R c (tree.more e es) [] us = Unit {0}
AreTypesNow R c (tree.more e es) (t ∷ ts) us =
    (vs : List Ty) × (us ≡ R.type_now c e t ∷ vs) × AreTypesNow R c es ts vs

-- what is asked of a region, of a program with these rows
pub record IsSound {A : Type 0} (old : List Row) (R : Region A) : Type 0 where
  pub images : AreImages old R.seen.images
  pub locals : (c : Context) → LocalsTo R.seen c c.locals (R.seen.scope c).locals
  -- a kept local has the image of its type, where none behind it has its image's key
  pub classes : (c : Context) (l : Local) (i : ℕ) (m : LocalKey) (k : ClassKey) (j : ℕ)
      → slice_get c.locals i ≡ Some l → R.seen.local_to c l.key ≡ Some m
      → ((n : ℕ) (other : Local) → i < n → slice_get c.locals n ≡ Some other
      → R.seen.local_to c other.key ≢ Some m)
      → IsLocalType old (scope_of c) l.type (class k) → IsRowOf old (class_decl k) j
      → R.seen.HasClass c m (R.seen.images.class_to k)
  pub types : (c : Context) (es : tree.Exps A) (ts : List Ty)
      → AreTypesNow R c es ts (R.types_now c es ts)

-- ---- a rename, in which all is one region

module _ (g : Renaming) (c : Context) where
  -- the last local in scope whose image has the key
  pub record IsLastImage (k : LocalKey) (l : Local) : Type 0 where
    pub number : ℕ
    pub stands : slice_get c.locals number ≡ Some l
    pub is : renaming.local_to g l.key ≡ k
    pub last : (i : ℕ) (other : Local) → number < i → slice_get c.locals i ≡ Some other
        → renaming.local_to g other.key ≢ k

abbrev pub images_of : List Row → Renaming → Images
images_of rows g = record {
  class_to = renaming.class_to g;
  field_to = renaming.field_to g;
  method_to = renaming.method_to g;
  ctor_to = renaming.ctor_to g;
  name_to = renaming.name_to g;
  rows = renaming.rows_to g rows;
}

abbrev pub seen_of : List Row → Renaming → Seen
seen_of rows g = record {
  images = images_of rows g;
  scope = renaming.scope_to g;
  local_to = λ c k. Some (renaming.local_to g k);
  HasClass =
      λ c k b. (l : Local) × (t : ClassKey) × (j : ℕ) × IsLastImage g c k l
      × IsLocalType rows (scope_of c) l.type (class t) × IsRowOf rows (class_decl t) j
      × (b ≡ renaming.class_to g t);
}

abbrev pub region_of : {A : Type 0} → List Row → Renaming → Region A
region_of rows g = record {
  seen = seen_of rows g;
  type_now = λ c e t. renaming.type_to g t;
  types_now = λ c es ts. renaming.types_to g ts;
  receiver = itself;
}
