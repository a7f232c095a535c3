-- The same of a list of written members, and which list it is.
use Rattle.std.specs.Prelude.{◌≡◌, ℕ, List, Some, slice_get}
use Rattle.jr_text.specs.declared.spans.Span.{Span}
use Rattle.jr_table.specs.Decls.{Decl}
use Rattle.jr_members.specs.declared.keyed.WrittenMember as raw
use Rattle.jr_members.specs.PartView.{written_of}
use Rattle.jr_members.specs.WrittenMembers.{WrittenMember, written_members}
use Rattle.jr_bind.specs.Programs.{Program, units_of}
use Rattle.jr_program_laws.specs.FileParts.{begins}
use Rattle.jr_cursor.specs.Names.{HasInFile}

-- those that the files of a program write
abbrev pub members_of : Program Span → List (WrittenMember Span)
members_of p = written_members begins p.rows (units_of p)

-- the member of the number has it
abbrev pub HasNumbered : Program Span → List (raw.WrittenMember Span) → (file at : ℕ)
    → (number : ℕ) → Decl → Type 0
HasNumbered p members file at n d = (w : raw.WrittenMember Span)
    × (slice_get members n ≡ Some w) × HasInFile p file at n (written_of w) d

-- one of them has it
abbrev pub HasListed : Program Span → List (raw.WrittenMember Span) → (file at : ℕ) → Decl
    → Type 0
HasListed p members file at d = (n : ℕ) × HasNumbered p members file at n d
