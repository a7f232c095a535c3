-- The members that the files of a program write, in file and text order, each with its key: that
-- of its row, since the rows stand in the order of what they declare.
use Rattle.std.specs.Prelude.{
  ℕ,
  ◌+◌,
  List,
  [],
  ◌∷◌,
  Option,
  Some,
  None,
  Bool,
  true,
  false,
  length,
  slice_get,
  if◌then◌else◌,
}
use Rattle.jr_ast.specs.MemberTree as syntax
use Rattle.jr_table.specs.Decls.{
  MemberKey,
  head,
  field,
  method,
  constructor,
  Decl,
  class_decl,
  field_decl,
  method_decl,
  constructor_decl,
  local_decl,
}
use Rattle.jr_table.specs.Rows.{Row}
use Rattle.jr_table.specs.Prelude.{prelude_rows}
use Rattle.jr_table.specs.DeclaredItems.{writes_ctor}
use Rattle.jr_table.specs.Errors.{Part, class_part, member_part}
use Rattle.jr_members.specs.Parts.{Placed, units_parts}

-- a written member: its file's number, its key, its row's number, where its parent begins, and its
-- tree
pub record WrittenMember (A : Type 0) : Type 0 where
  pub file : ℕ
  pub key : MemberKey
  pub row : ℕ
  pub base : ℕ
  pub part : Part A

-- the member that a row declares
abbrev pub member_of_decl : Decl → MemberKey
member_of_decl (class_decl k) = head k
member_of_decl (field_decl k) = field k
member_of_decl (method_decl k) = method k
member_of_decl (constructor_decl k) = constructor k
member_of_decl (local_decl k) = k.member

-- what a member declares
abbrev pub decl_of_member : MemberKey → Decl
decl_of_member (head k) = class_decl k
decl_of_member (field k) = field_decl k
decl_of_member (method k) = method_decl k
decl_of_member (constructor k) = constructor_decl k

abbrev pub is_ctor : {A : Type 0} → syntax.Member A → Bool
is_ctor (syntax.field m mods t w init) = false
is_ctor (syntax.method m mods t w ps body) = false
is_ctor (syntax.constructor m mods w ps args body) = true
is_ctor (syntax.inner m c) = false

module _ {A : Type 0} (begins : A → ℕ → ℕ) where
  -- how many rows a part has: the constructor that isn't written has one behind its class's
  abbrev pub row_count : Part A → ℕ
  row_count (class_part (syntax.class m mods w t ms)) = if writes_ctor begins ms then 1 else 2
  row_count (member_part x) = 1

  -- a part as a member, of the row of this number, in front of others
  abbrev pub put_member : Option Row → (row : ℕ) → Placed A → List (WrittenMember A)
      → List (WrittenMember A)
  put_member None row p ms = []
  put_member (Some r) row p ms = record {
    file = p.file;
    key = member_of_decl r.decl;
    row = row;
    base = p.base;
    part = p.part;
  } ∷ ms

  -- the parts as members, of the rows from this one on
  unfoldable pub members_at : List Row → (row : ℕ) → List (Placed A) → List (WrittenMember A)
  members_at rows row [] = []
  members_at rows row (p ∷ ps) = put_member (slice_get rows row) row p
      (members_at rows (row + row_count p.part) ps)

  -- the members that the files write, where the rows are those of the program
  unfoldable pub written_members : List Row → List (syntax.Unit A) → List (WrittenMember A)
  written_members rows units = members_at rows (length prelude_rows) (units_parts begins units)
