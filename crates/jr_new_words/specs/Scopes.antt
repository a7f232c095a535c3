-- What is known at a place of a member, in a program and in what becomes of it.
use Rattle.std.specs.Prelude.{
  ◌≡◌,
  ℕ,
  ◌<◌,
  ◌≤◌,
  List,
  [],
  ◌∷◌,
  ◌++◌,
  map,
  length,
  take,
  false,
  true,
  Some,
  None,
  option_map,
  slice_get,
}
use Rattle.jr_table.specs.Decls.{MemberKey}
use Rattle.jr_table.specs.Rows.{Row}
use Rattle.jr_table.specs.Entries.{class_of_member}
use Rattle.jr_table.specs.TypeView.{class_key_of}
use Rattle.jr_table.specs.KeyView.{member_key_of}
use Rattle.jr_table.specs.Scope.{Scope, ScopeLocal}
use Rattle.jr_table.specs.Context.{Context, Local, known}
use Rattle.jr_scopes.specs.Helds.{Held, key_of, local_of}
use Rattle.jr_scopes.specs.Tracked.{Tracked, helds_of}
use Rattle.jr_images.specs.Images.{Renaming}
use Rattle.jr_images.specs.Images as images
use Rattle.jr_images.specs.ImageView.{renaming_of}
use Rattle.jr_new_words.specs.Mappings.{
  MadeLocal,
  Renumbering,
  LocalMapping,
  all_stay,
  renumbered,
  Mapping,
  HaveImages,
  locals_by,
  class_to,
  member_to,
  scope_to,
}
use Rattle.jr_new_words.specs.Mappings as mappings
use Rattle.jr_new_words.specs.MappingView.{keys_of, numbers_of}
use Rattle.jr_new_words.specs.declared.programs.Programs as raw_programs
use Rattle.jr_new_words.specs.declared.programs.Tables as raw_tables
use Rattle.jr_new_words.specs.declared.scopes.Scopes as raw

-- ---- of a rename

abbrev pub rows_in : raw_programs.Programs → List Row
rows_in p = p.before.now

abbrev pub renaming_in : raw_programs.Programs → Renaming
renaming_in p = renaming_of p.name.now

-- the rows of the one program are the images of those of the other
abbrev pub AreImages : raw_programs.Programs → Type 0
AreImages p = p.after.now ≡ images.rows_to (renaming_in p) (rows_in p)

-- ---- of any

-- the declarations of the one program have their images in the other
abbrev pub AreTables : raw_tables.Tables → Type 0
AreTables t = HaveImages (keys_of t.keys) t.before.now t.after.now

abbrev pub rows_of : raw.Scopes → List Row
rows_of s = s.programs.before.now

abbrev pub mapping_of : raw.Scopes → Mapping
mapping_of s = record {
  keys = keys_of s.programs.keys;
  locals = numbers_of s.numbers;
  new = s.programs.after.now;
}

-- the rows of the new program
abbrev pub rows_to : raw.Scopes → List Row
rows_to s = mappings.rows_to (mapping_of s) (rows_of s)

abbrev pub member_of : raw.Scopes → MemberKey
member_of s = member_key_of s.member.now

abbrev pub locals_in : raw.Scopes → List Held
locals_in s = helds_of s.locals

-- what is known there in the old program
unfoldable pub context_of : raw.Scopes → Context
context_of s = record {
  member = member_of s;
  is_static = s.before.is_static;
  locals = map (local_of (member_of s)) (locals_in s);
  own = option_map (key_of (member_of s)) s.own;
}

-- what lookup sees there in the new one
abbrev pub place_to : raw.Scopes → Scope
place_to s = scope_to (mapping_of s) (context_of s)

-- a local by its name and number
abbrev pub seen : MemberKey → Held → ScopeLocal
seen k h = record { name = h.name; key = key_of k h.number }

-- ---- the locals of the new place

abbrev pub new_locals : Mapping → MemberKey → List Held → List Local
new_locals m k hs = locals_by m.keys m.locals k (map (local_of k) hs)

-- those behind which others are made are in scope
abbrev pub IsDeep : LocalMapping → (count : ℕ) → Type 0
IsDeep all_stay n = Unit {0}
IsDeep (renumbered r) n = r.depth ≤ n

-- how many new ones there are for those in front of each old one, where that is kept
abbrev pub AreDepths : Mapping → LocalMapping → MemberKey → List Held → (depths : List ℕ) → Type 0
AreDepths m all_stay k hs depths = Unit {0}
AreDepths m (renumbered r) k hs depths = (length depths ≡ length hs)
    × ((n : ℕ) → r.depth ≤ n → n < length hs
    → slice_get depths n ≡ Some (length (new_locals m k (take n hs))))

-- with one more
abbrev pub PutsDepth : LocalMapping → (count : ℕ) → (old new : List ℕ) → Type 0
PutsDepth all_stay n old new = Unit {0}
PutsDepth (renumbered r) n old new = new ≡ old ++ n ∷ []

-- a local that is made, as it is held
abbrev pub made_held : MadeLocal → Held
made_held m = record {
  name = m.name;
  number = m.number;
  is_final = false;
  type = known m.type;
  has_init = true;
  kind = None;
}

-- the same numbers without those that are made, which stand behind so many locals
abbrev pub Makes : LocalMapping → Renumbering → (count : ℕ) → Type 0
Makes all_stay r n = ⊥
Makes (renumbered q) r n =
    (q.firsts ≡ r.firsts) × (q.next ≡ r.next) × (q.made ≡ []) × (r.depth ≡ n)

-- none is made
abbrev pub IsBare : LocalMapping → Type 0
IsBare all_stay = Unit {0}
IsBare (renumbered r) = (r.made ≡ []) × (r.depth ≡ 0)

-- what is kept for lookups is that context and its image
pub record IsKept (s : raw.Scopes) : Type 0 where
  pub rows : s.programs.after.now ≡ rows_to s
  pub images : AreTables s.programs
  pub class : class_key_of s.before.class ≡ class_of_member (member_of s)
  pub no_locals : s.before.locals ≡ []
  pub image : member_key_of s.image ≡ member_to (mapping_of s) (member_of s)
  pub image_class : class_key_of s.after.class
      ≡ class_to (mapping_of s) (class_of_member (member_of s))
  pub image_static : s.after.is_static ≡ s.before.is_static
  pub image_locals : s.after.locals ≡ []
  pub tracked : Tracked s.locals
  pub renamed_tracked : Tracked s.renamed
  pub renamed : map (local_of (member_to (mapping_of s) (member_of s))) (helds_of s.renamed)
      ≡ new_locals (mapping_of s) (member_of s) (locals_in s)
  pub deep : IsDeep (mapping_of s).locals (length (locals_in s))
  pub depths : AreDepths (mapping_of s) (mapping_of s).locals (member_of s) (locals_in s)
      s.depths.items

-- two places of one member of one program
pub record AreBeside (s t : raw.Scopes) : Type 0 where
  pub rows : rows_of t ≡ rows_of s
  pub mapping : mapping_of t ≡ mapping_of s
  pub member : member_of t ≡ member_of s
  pub is_static : t.before.is_static ≡ s.before.is_static
