-- What the written members of a program have at a byte of a file: exact, and what is answered.
use Rattle.std.specs.Prelude.{
  ◌≡◌,
  ℕ,
  ◌-◌,
  ◌==◌,
  ◌⊎◌,
  List,
  Option,
  Some,
  None,
  Bool,
  false,
  nat_lt,
  option_map,
  slice_get,
  if◌then◌else◌,
}
use Rattle.jr_text.specs.declared.spans.Span.{Span}
use Rattle.jr_ast.specs.Tree as tree
use Rattle.jr_ast.specs.MemberTree as syntax
use Rattle.jr_table.specs.Decls.{
  MemberKey,
  head,
  field,
  method,
  constructor,
  Decl,
  class_decl,
  local_decl,
}
use Rattle.jr_table.specs.Rows.{Row}
use Rattle.jr_table.specs.Errors.{Part, class_part, member_part, part_mark}
use Rattle.jr_members.specs.WrittenMembers.{WrittenMember}
use Rattle.jr_bind.specs.Bounds.{Reference, decl_in, Bound}
use Rattle.jr_bind.specs.Programs.{Program}
use Rattle.jr_images.specs.Targets.{IsOfPrelude}
use Rattle.jr_rewrite.specs.Rewrites.{declared_by}
use Rattle.jr_cursor.specs.Searches.{in_member}

-- ---- what is answered

-- one that has the property, and none of the prelude's; or else only the prelude's have it
abbrev pub Finds : List Row → (Decl → Type 0) → Option Decl → Type 0
Finds rows P None = (d : Decl) → P d → (IsOfPrelude rows d → ⊥) → ⊥
Finds rows P (Some d) = P d × (IsOfPrelude rows d → ⊥)

-- ---- exact

abbrev pub class_word : syntax.Class Span → tree.Word Span
class_word (syntax.class m mods w t ms) = w

-- whether a member's own name begins there
abbrev pub member_begins : (at : ℕ) → syntax.Member Span → Bool
member_begins at (syntax.field m mods t w init) = w.mark.from == at
member_begins at (syntax.method m mods t w ps body) = w.mark.from == at
member_begins at (syntax.constructor m mods w ps args body) = w.mark.from == at
member_begins at (syntax.inner m of) = false

abbrev pub own_of_class : (at : ℕ) → MemberKey → syntax.Class Span → Option Decl
own_of_class at (head k) c = if (class_word c).mark.from == at then Some (class_decl k) else None
own_of_class at (field k) c = None
own_of_class at (method k) c = None
own_of_class at (constructor k) c = None

-- what a part's own name declares, if it begins there
abbrev pub own_name : (at : ℕ) → MemberKey → Part Span → Option Decl
own_name at k (class_part c) = own_of_class at k c
own_name at k (member_part x) = if member_begins at x then Some (declared_by k) else None

-- the parameter or local whose name begins there
abbrev pub local_there : (at : ℕ) → MemberKey → Part Span → Option Decl
local_there at k (class_part c) = None
local_there at k (member_part x) =
    option_map (λ (n : ℕ). local_decl (record { member = k; number = n })) (in_member at x)

-- what the reference that begins there is bound to, of a member that begins at `from`
abbrev pub bound_there : (at from : ℕ) → List Reference → Option Decl
bound_there at from rs = if nat_lt at from then None else decl_in rs (at - from)

-- ---- what a member has

abbrev pub HasWithin : (at : ℕ) → WrittenMember Span → Bound → Decl → Type 0
HasWithin at w b d = (local_there at w.key w.part ≡ Some d)
    ⊎ (bound_there at (part_mark w.part).from b.references ≡ Some d)

abbrev pub HasThere : (at : ℕ) → WrittenMember Span → Bound → Decl → Type 0
HasThere at w b d = (own_name at w.key w.part ≡ Some d) ⊎ HasWithin at w b d

-- the same of the member of a number, where it is of the file
abbrev pub HasInFile : Program Span → (file at : ℕ) → (number : ℕ) → WrittenMember Span → Decl
    → Type 0
HasInFile p file at n w d =
    (w.file ≡ file) × ((b : Bound) × (slice_get p.bounds n ≡ Some b) × HasThere at w b d)
