-- A class to which a member comes: how it is named, and what there is in the member's way (JLS 8.2,
-- 8.4.2).
use Rattle.std.specs.Prelude.{◌≡◌, ◌≢◌, ℕ, ◌<◌, Bool, true, false, ◌||◌, ◌&&◌, List, Some, slice_get}
use Rattle.jr_text.specs.declared.spans.Span.{Span}
use Rattle.jr_table.specs.Keys.{ClassKey}
use Rattle.jr_table.specs.Decls.{MemberKey, head, field, method, constructor, Decl, class_decl}
use Rattle.jr_table.specs.SameDecls.{same_decl}
use Rattle.jr_table.specs.Rows.{Row}
use Rattle.jr_table.specs.Entries.{IsRowOf}
use Rattle.jr_names.specs.DeclTexts.{class_text}
use Rattle.jr_members.specs.WrittenMembers.{decl_of_member}
use Rattle.jr_bind.specs.Programs.{Program}
use Rattle.jr_images.specs.Targets.{IsOfPrelude}
use Rattle.jr_member_parts.specs.ClassRows.{is_member_class}

-- the key of a field or method in a class
abbrev pub in_class : ClassKey → MemberKey → MemberKey
in_class to (field k) = field (record { class = to; name = k.name })
in_class to (method k) = method (record { class = to; name = k.name; params = k.params })
in_class to k = k

-- the class of the session that has this text, `K` or `Outer.K`, and isn't the member's own
pub record OtherClass (p : Program Span) (text : List ℕ) (own : ClassKey) : Type 0 where
  pub key : ClassKey
  pub row : ℕ
  pub has_row : IsRowOf p.rows (class_decl key) row
  pub written : IsOfPrelude p.rows (class_decl key) → ⊥
  pub named : class_text key ≡ text
  pub differs : key ≢ own

-- what stands in its way in a class: its own key there, or a member type of its name
abbrev pub name_of : MemberKey → List ℕ
name_of (head k) = k.name
name_of (field k) = k.name
name_of (method k) = k.name
name_of (constructor k) = k.class.name

abbrev pub is_type_named : ClassKey → List ℕ → Decl → Bool
is_type_named of name (class_decl k) =
    is_member_class of k && same_decl (class_decl k) (class_decl (record { outer = k.outer; name = name }))
is_type_named of name _ = false

abbrev pub is_in_the_way : ClassKey → MemberKey → Row → Bool
is_in_the_way to moved r = same_decl r.decl (decl_of_member (in_class to moved))
    || is_type_named to (name_of moved) r.decl

-- the first row that is
pub record IsFirstInTheWay (rows : List Row) (to : ClassKey) (moved : MemberKey) (d : Decl)
    : Type 0 where
  pub number : ℕ
  pub row : Row
  pub stands : slice_get rows number ≡ Some row
  pub is : is_in_the_way to moved row ≡ true
  pub decl : row.decl ≡ d
  pub first : (i : ℕ) (r : Row) → i < number → slice_get rows i ≡ Some r
      → is_in_the_way to moved r ≡ false
