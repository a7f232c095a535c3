-- Parts and written members as contracts see them.
use Rattle.std.specs.Prelude.{◌≡◌, List, ◌++◌, Result, OnOk, map}
use Rattle.jr_ast.specs.View.{class_of, member_of}
use Rattle.jr_table.specs.KeyView.{member_key_of}
use Rattle.jr_table.specs.Errors.{Part, class_part, member_part}
use Rattle.jr_members.specs.declared.parts.PartRef as raw
use Rattle.jr_members.specs.declared.parts.PartRef.TheVariants as part
use Rattle.jr_members.specs.declared.parts.Placed as raw_placed
use Rattle.jr_members.specs.declared.keyed.WrittenMember as raw_written
use Rattle.jr_members.specs.Parts.{Placed, placed}
use Rattle.jr_members.specs.WrittenMembers.{WrittenMember}

abbrev pub part_of : {A : Type 0} → raw.PartRef A → Part A
part_of (part.Head c) = class_part (class_of c.now)
part_of (part.Member x) = member_part (member_of x.now)

abbrev pub placed_of : {A : Type 0} → raw_placed.Placed A → Placed A
placed_of p = placed p.file p.base (part_of p.part)

abbrev pub written_of : {A : Type 0} → raw_written.WrittenMember A → WrittenMember A
written_of w = record {
  file = w.file;
  key = member_key_of w.key;
  row = w.row;
  base = w.base;
  part = part_of w.part;
}

-- where it is Ok, these parts have been put behind the others
abbrev pub Gathers : {A T E : Type 0} → Result T E → (old new : List (raw_placed.Placed A))
    → List (Placed A) → Type 0
Gathers result old new more = OnOk result (map placed_of new ≡ map placed_of old ++ more)
