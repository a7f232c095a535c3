-- Superclasses and member types of classes that go by numbers: exact.
use Rattle.std.specs.Prelude.{
  ◌≡◌,
  ℕ,
  zero,
  suc,
  List,
  [],
  ◌∷◌,
  ◌++◌,
  Option,
  Some,
  None,
  Bool,
  true,
  false,
  cond,
  length,
  map,
  slice_get,
  slice_set,
  option_and_then,
  option_map,
  unwrap_or,
  codes,
}
use Rattle.std.specs.List.{list_any}
use Rattle.jr_index.specs.Parents.{next}
use Rattle.jr_table.specs.Entries.{is_private_word}
use Rattle.jr_build_declared.specs.KeyIndex.{class_key_at}
use Rattle.jr_table.specs.Keys.{ClassKey, Ty, class}
use Rattle.jr_table.specs.Keys as keys
use Rattle.jr_table.specs.Prelude.{top_key, object_key}
use Rattle.jr_table.specs.DeclaredItems.{
  Written,
  int,
  boolean,
  named,
  DeclaredClass,
  Item,
  class_item,
  field_item,
  method_item,
  ctor_item,
  DeclaredItem,
}

-- The classes of a program and the prelude. A class of the program has the number of its declaration, and
-- the prelude's stand behind all declarations.
pub record Hierarchy : Type 0 where
  -- the class of each number; none where the declaration declares no class
  pub keys : List (Option ClassKey)
  pub privates : List Bool
  -- the number of a class
  pub number : ClassKey → Option ℕ
  -- a member class of the name, whatever class it is a member of
  pub inner : List ℕ → Option ℕ
  -- the superclass of each number, as far as it is known
  pub parents : List (Option ℕ)

-- the numbers of a program's classes

abbrev pub one_class : List ℕ → List (Option ClassKey)
one_class name = Some (top_key name) ∷ []

abbrev pub prelude_classes : List (Option ClassKey)
prelude_classes = Some object_key
    ∷ Some (top_key (codes "String"))
    ∷ Some (top_key (codes "Class"))
    ∷ Some (top_key (codes "Thread"))
    ∷ []

abbrev pub declaration_keys : List DeclaredItem → List (Option ClassKey)
declaration_keys ss = map (λ (s : DeclaredItem). class_key_at s.item) ss

abbrev pub class_keys : List DeclaredItem → List (Option ClassKey)
class_keys ss = declaration_keys ss ++ prelude_classes

abbrev pub is_private_item : Item → Bool
is_private_item (class_item c) = list_any is_private_word c.modifiers
is_private_item (field_item f) = false
is_private_item (method_item m) = false
is_private_item (ctor_item c) = false

abbrev pub privates_of : List DeclaredItem → List Bool
privates_of ss = map (λ (s : DeclaredItem). is_private_item s.item) ss

-- lookup

abbrev pub class_in : List (Option ClassKey) → ℕ → Option ClassKey
class_in keys j = option_and_then (λ k. k) (slice_get keys j)

abbrev pub key_at : Hierarchy → ℕ → Option ClassKey
key_at h j = class_in h.keys j

abbrev pub parent_at : Hierarchy → ℕ → Option ℕ
parent_at h j = next h.parents j

abbrev pub is_private_at : Hierarchy → ℕ → Bool
is_private_at h j = unwrap_or (slice_get h.privates j) false

abbrev pub first_of : Option ℕ → Option ℕ → Option ℕ
first_of None later = later
first_of (Some m) later = Some m

abbrev pub inner_key : (outer name : List ℕ) → ClassKey
inner_key outer name = record { outer = Some outer; name = name }

-- the member class that a top-level class declares
abbrev pub own : Hierarchy → ClassKey → (name : List ℕ) → Option ℕ
own h k name = in_top_level k.outer
  where
    in_top_level : Option (List ℕ) → Option ℕ
    in_top_level None = h.number (inner_key k.name name)
    in_top_level (Some outer) = None

abbrev pub own_at : Hierarchy → (name : List ℕ) → ℕ → Option ℕ
own_at h name j = option_and_then (λ k. own h k name) (key_at h j)

-- the member class that is declared nearest upwards, so many classes up at most
unfoldable pub nearest : (most : ℕ) → Hierarchy → (name : List ℕ) → ℕ → Option ℕ
nearest zero h name j = None
nearest (suc most) h name j =
    first_of (own_at h name j) (option_and_then (λ p. nearest most h name p) (parent_at h j))

-- what is private isn't inherited
abbrev pub inherited : Hierarchy → Option ℕ → Option ℕ
inherited h None = None
inherited h (Some m) = cond (is_private_at h m) None (Some m)

abbrev pub parent_of : Hierarchy → ClassKey → Option ℕ
parent_of h k = option_and_then (λ j. parent_at h j) (h.number k)

-- the superclass of a class
abbrev pub parent_key : Hierarchy → ClassKey → Option ClassKey
parent_key h k = option_and_then (λ p. key_at h p) (parent_of h k)

-- where no member class has the name, none is looked for
abbrev pub only_if : Option ℕ → Option ℕ → Option ℕ
only_if None found = None
only_if (Some m) found = found

abbrev pub nearest_from : Hierarchy → (name : List ℕ) → Option ℕ → Option ℕ
nearest_from h name p = option_and_then (λ q. nearest (length h.keys) h name q) p

abbrev pub nearest_above : Hierarchy → (name : List ℕ) → Option ℕ → Option ℕ
nearest_above h name p = only_if (h.inner name) (nearest_from h name p)

-- the member type of a class
abbrev pub member_type : Hierarchy → ClassKey → (name : List ℕ) → Option ℕ
member_type h k name = first_of (own h k name) (inherited h (nearest_above h name (parent_of h k)))

abbrev pub member_type_at : Hierarchy → ℕ → (name : List ℕ) → Option ℕ
member_type_at h j name = option_and_then (λ k. member_type h k name) (key_at h j)

abbrev pub member_type_of : Hierarchy → Option ℕ → (name : List ℕ) → Option ℕ
member_type_of h o name = option_and_then (λ j. member_type_at h j name) o

-- what a simple name means in a top-level class, outside its member classes
abbrev pub found_in_top : Hierarchy → (outer name : List ℕ) → Option ℕ
found_in_top h outer name = first_of (member_type h (top_key outer) name) (h.number (top_key name))

abbrev pub found_around : Hierarchy → Option (List ℕ) → (name : List ℕ) → Option ℕ
found_around h None name = h.number (top_key name)
found_around h (Some outer) name = found_in_top h outer name

-- what a simple name means in a class
abbrev pub found_type : Hierarchy → ClassKey → (name : List ℕ) → Option ℕ
found_type h k name = first_of (member_type h k name) (found_around h k.outer name)

-- the class that a written type means in the body of a class
abbrev pub meant_class : Hierarchy → ClassKey → Option (List ℕ) → (name : List ℕ) → Option ℕ
meant_class h k None name = found_type h k name
meant_class h k (Some left) name = member_type_of h (found_type h k left) name

abbrev pub class_type : Hierarchy → Option ℕ → Option Ty
class_type h o = option_map (λ k. class k) (option_and_then (λ j. key_at h j) o)

abbrev pub meaning : Hierarchy → ClassKey → Written → Option Ty
meaning h k int = Some keys.int
meaning h k boolean = Some keys.boolean
meaning h k (named at outer name) = class_type h (meant_class h k outer name)

-- superclasses

-- what a top-level class names as its superclass
abbrev pub parent_of_top : Hierarchy → Option Written → Option ℕ
parent_of_top h None = h.number object_key
parent_of_top h (Some int) = None
parent_of_top h (Some boolean) = None
parent_of_top h (Some (named at None name)) = h.number (top_key name)
parent_of_top h (Some (named at (Some left) name)) = None

-- what a member class does, as far as superclasses are known
abbrev pub parent_of_inner : Hierarchy → (outer : List ℕ) → Option Written → Option ℕ
parent_of_inner h outer None = h.number object_key
parent_of_inner h outer (Some int) = None
parent_of_inner h outer (Some boolean) = None
parent_of_inner h outer (Some (named at None name)) = found_in_top h outer name
parent_of_inner h outer (Some (named at (Some left) name)) =
    member_type_of h (found_in_top h outer left) name

abbrev pub parent_in : Hierarchy → Option (List ℕ) → Option Written → Option ℕ
parent_in h None written = parent_of_top h written
parent_in h (Some outer) written = parent_of_inner h outer written

-- the superclass of the class that an item declares
abbrev pub parent_of_item : Hierarchy → Item → Option ℕ
parent_of_item h (class_item c) = parent_in h c.key.outer c.parent
parent_of_item h (field_item f) = None
parent_of_item h (method_item m) = None
parent_of_item h (ctor_item c) = None

-- that of a top-level class alone
abbrev pub parent_of_outer : Hierarchy → Option (List ℕ) → Option Written → Option ℕ
parent_of_outer h None written = parent_of_top h written
parent_of_outer h (Some outer) written = None

abbrev pub parent_of_outer_item : Hierarchy → Item → Option ℕ
parent_of_outer_item h (class_item c) = parent_of_outer h c.key.outer c.parent
parent_of_outer_item h (field_item f) = None
parent_of_outer_item h (method_item m) = None
parent_of_outer_item h (ctor_item c) = None

abbrev pub prelude_parents : Hierarchy → List (Option ℕ)
prelude_parents h = None ∷ h.number object_key ∷ h.number object_key ∷ h.number object_key ∷ []

abbrev pub declaration_parents : Hierarchy → List DeclaredItem → List (Option ℕ)
declaration_parents h ss = map (λ (s : DeclaredItem). parent_of_outer_item h s.item) ss

-- the superclasses of top-level and prelude classes
abbrev pub top_parents : Hierarchy → List DeclaredItem → List (Option ℕ)
top_parents h ss = declaration_parents h ss ++ prelude_parents h

-- a superclass more

abbrev pub first_told : Option ℕ → Option ℕ → Option ℕ
first_told None told = told
first_told (Some p) told = None

-- what is told of the superclass of number j, where it isn't known
abbrev pub tells : Hierarchy → ℕ → Item → Option ℕ
tells h j item = first_told (parent_at h j) (parent_of_item h item)

abbrev pub with_parent : Hierarchy → ℕ → Option ℕ → Hierarchy
with_parent h j None = h
with_parent h j (Some p) = record h { parents = slice_set h.parents j (Some p) }

-- how many superclasses aren't known
abbrev pub unknown : List (Option ℕ) → ℕ
unknown [] = 0
unknown (None ∷ ps) = suc (unknown ps)
unknown (Some p ∷ ps) = unknown ps
