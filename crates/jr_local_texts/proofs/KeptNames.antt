-- Where rows stay as they are: names are identifiers, and so what is chosen suits its place.
use Rattle.std.proofs.Common.{◌≡◌, ℕ, List, Some, true, refl, subst}
use Rattle.std.specs.Prelude.{slice_get}
use Rattle.std.specs.Cmp.Lexicographic.{bytes_decides}
use Rattle.std.proofs.lemmas.Bool.{both_ways}
use Rattle.jr_text.specs.declared.spans.Span.{Span}
use Rattle.jr_ast.specs.MemberTree as syntax
use Rattle.jr_grammar.specs.Layout.{itself}
use Rattle.jr_grammar.specs.Reads.{Reads}
use Rattle.jr_table.specs.Decls.{class_decl, field_decl, method_decl}
use Rattle.jr_table.specs.SameKeys.{same_name}
use Rattle.jr_table.specs.Rows.{Row}
use Rattle.jr_bind.specs.Programs.{Program, IsProgram, units_of}
use Rattle.jr_images.specs.NamedImages.{AreNamedImages}
use Rattle.jr_images.specs.OneLocal.{HaveNoDots}
use Rattle.jr_images.specs.TextLaws.{AreNamed, RowsAreNamed}
use Rattle.jr_local.specs.Bodies.{begins}
use Rattle.jr_local.specs.Scopes.{same_images}
use Rattle.jr_local_texts.proofs.StandingBodies.{file_of_unit}

both_named : RowsAreNamed Span → (p : Program Span) → IsProgram itself (λ m b. Unit {0}) p → AreNamed p.rows × HaveNoDots p.rows
both_named law p program = law begins p.rows (units_of p) reads program.rows
  where
    reads : (n : ℕ) (u : syntax.Unit Span) → slice_get (units_of p) n ≡ Some u → (bytes : List ℕ) × Reads bytes u
    reads n u e =
        let x = file_of_unit p n u e in
        let r = program.reads n x.0 x.1 in
        (x.0.text, subst (Reads x.0.text) x.2 (record { items = r.items; lexes = r.lexes; is = r.is }))

pub rows_named : RowsAreNamed Span → (p : Program Span) → IsProgram itself (λ m b. Unit {0}) p → AreNamed p.rows
rows_named law p program = (both_named law p program).0

pub rows_undotted : RowsAreNamed Span → (p : Program Span) → IsProgram itself (λ m b. Unit {0}) p → HaveNoDots p.rows
rows_undotted law p program = (both_named law p program).1

same_refl : (x : List ℕ) → same_name x x ≡ true
same_refl x = (bytes_decides x x).1 refl

pub same_named : (rows : List Row) → AreNamed rows → AreNamedImages rows (same_images rows)
same_named rows named = record {
  class = λ k j row. named (class_decl k) j row;
  field = λ k j row. named (field_decl k) j row;
  method = λ k j row. named (method_decl k) j row;
  declared = λ d name other. absurd (both_ways (same_name name name) other (same_refl name));
}
