-- With which declaration of a program a new name collides.
use Rattle.std.specs.Prelude.{ℕ, List}
use Rattle.jr_text.specs.declared.spans.Span.{Span}
use Rattle.jr_table.specs.Decls.{Decl}
use Rattle.jr_bind.specs.Programs.{Program, units_of}
use Rattle.jr_program_laws.specs.FileParts.{begins}
use Rattle.jr_images.specs.Clashes.{ClashesWith, IsClear}

module _ (p : Program Span) (target : Decl) (new : List ℕ) where
  -- with this one
  abbrev pub ClashesIn : Decl → Type 0
  ClashesIn d = ClashesWith begins p.rows (units_of p) target new d

  -- with none
  abbrev pub IsClearIn : Type 0
  IsClearIn = IsClear begins p.rows (units_of p) target new
