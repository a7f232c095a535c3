-- The law of targets, as a statement.
use Rattle.std.specs.Prelude.{◌≡◌, ℕ, Some, slice_get}
use Rattle.jr_text.specs.declared.spans.Span.{Span}
use Rattle.jr_grammar.specs.Layout.{itself}
use Rattle.jr_table.specs.Decls.{Decl}
use Rattle.jr_bind.specs.Programs.{File, Program, IsProgram, units_of}
use Rattle.jr_program_laws.specs.FileParts.{begins}
use Rattle.jr_images.specs.Targets.{IsTarget}

-- the identifier at a byte of a file of a program names one declaration at most
abbrev pub OneIsTarget : Type 0
OneIsTarget = (p : Program Span) → IsProgram itself (λ m b. Unit {0}) p
    → (file at : ℕ) (f : File Span) → slice_get p.files file ≡ Some f → (d e : Decl)
    → IsTarget begins p.rows p.super_at (units_of p) f.text file at d
    → IsTarget begins p.rows p.super_at (units_of p) f.text file at e → d ≡ e
