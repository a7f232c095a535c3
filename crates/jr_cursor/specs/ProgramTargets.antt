-- What the identifier at a byte of a file of a program is to be renamed.
use Rattle.std.specs.Prelude.{◌≡◌, ℕ, Some, slice_get}
use Rattle.jr_text.specs.declared.spans.Span.{Span}
use Rattle.jr_table.specs.Decls.{Decl}
use Rattle.jr_bind.specs.Programs.{File, Program, units_of}
use Rattle.jr_program_laws.specs.FileParts.{begins}
use Rattle.jr_images.specs.Targets.{IsTarget, HasNoTarget}

-- it names this declaration, which is none of the prelude's
abbrev pub HasTargetAt : Program Span → (file at : ℕ) → Decl → Type 0
HasTargetAt p file at d = (f : File Span) → slice_get p.files file ≡ Some f
    → IsTarget begins p.rows p.super_at (units_of p) f.text file at d

-- it names none
abbrev pub LacksTargetAt : Program Span → (file at : ℕ) → Type 0
LacksTargetAt p file at = (f : File Span) → slice_get p.files file ≡ Some f
    → HasNoTarget begins p.rows p.super_at (units_of p) f.text file at
