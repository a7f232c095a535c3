-- When a rename leaves a written member as it is.
use Rattle.std.specs.Prelude.{◌≡◌, ℕ, List, [], ◌∷◌, Option, Some, None, option_map, true}
use Rattle.jr_text.specs.declared.spans.Span.{Span}
use Rattle.jr_table.specs.Decls.{
  MemberKey,
  LocalKey,
  Decl,
  class_decl,
  field_decl,
  method_decl,
  constructor_decl,
  local_decl,
}
use Rattle.jr_table.specs.KeyView.{local_key_of}
use Rattle.jr_table.specs.Rows.{Row}
use Rattle.jr_mentions.specs.Apart.{is_among, AreApart, IsCleanMember}
use Rattle.jr_mentions.specs.ApartView.{names_in}
use Rattle.jr_mentions.specs.Avoids.{AvoidsPart}
use Rattle.jr_members.specs.WrittenMembers.{WrittenMember}
use Rattle.jr_images.specs.Images.{Renaming, rows_to}
use Rattle.jr_new_words.specs.Mappings.{KeyMapping, same_keys, renamed}
use Rattle.jr_new_files.specs.declared.unaffected.Unaffected as raw

-- a field or a method of one of the names
abbrev pub IsAmong : (names : List (List ℕ)) → Decl → Type 0
IsAmong names (field_decl k) = is_among names k.name ≡ true
IsAmong names (method_decl k) = is_among names k.name ≡ true
IsAmong names (class_decl k) = ⊥
IsAmong names (constructor_decl k) = ⊥
IsAmong names (local_decl k) = ⊥

abbrev pub AreAmong : (names : List (List ℕ)) → List Decl → Type 0
AreAmong names [] = Unit {0}
AreAmong names (d ∷ ds) = IsAmong names d × AreAmong names ds

-- what gets another name is one local, or else fields and methods of these names
abbrev pub AreAvoidable : (names : List (List ℕ)) → Option LocalKey → List Decl → Type 0
AreAvoidable names None ds = AreAmong names ds
AreAvoidable names (Some k) ds = ds ≡ local_decl k ∷ []

abbrev pub local_in : raw.Unaffected → Option LocalKey
local_in u = option_map (λ k. local_key_of k.now) u.local

-- the rows of the new program are the same but for these names
pub record IsUnaffectedBy (rows : List Row) (g : Renaming) (u : raw.Unaffected) : Type 0 where
  pub apart : AreApart (names_in u.names) rows (rows_to g rows)
  pub avoidable : AreAvoidable (names_in u.names) (local_in u) g.decls

-- a rename does that
abbrev pub IsUnaffected : KeyMapping → List Row → raw.Unaffected → Type 0
IsUnaffected same_keys rows u = ⊥
IsUnaffected (renamed g) rows u = IsUnaffectedBy rows g u

-- the local, if it is one, is of another member
abbrev pub IsOfOther : Option LocalKey → MemberKey → Type 0
IsOfOther None k = Unit {0}
IsOfOther (Some l) k = l.member ≡ k → ⊥

-- the member refers to nothing by these names, and has none
pub record AvoidsAll (u : raw.Unaffected) (w : WrittenMember Span) : Type 0 where
  pub other : IsOfOther (local_in u) w.key
  pub clean : IsCleanMember (names_in u.names) w.key
  pub avoids : AvoidsPart (names_in u.names) w.part
