-- What stays of a program where one list of statements of a body is made anew.
use Rattle.std.specs.Prelude.{◌≡◌, ℕ, List, map}
use Rattle.jr_text.specs.declared.spans.Span.{Span}
use Rattle.jr_text.specs.Edits.{Entry}
use Rattle.jr_ast.specs.MemberTree.{Unit as UnitTree}
use Rattle.jr_grammar.specs.Layout.{itself}
use Rattle.jr_table.specs.Decls.{Decl}
use Rattle.jr_bind.specs.Programs.{Program, IsProgram, units_of}
use Rattle.jr_rewrite.specs.Rewritten.{Rewritten}
use Rattle.jr_plan.specs.Reasons.{IsPlanned}
use Rattle.jr_rename_laws.specs.ImageLaws.{without_marks}
use Rattle.jr_image_code.specs.KeysIn.{keys_by}
use Rattle.jr_kept_runs.specs.KeepsRuns.{KeepsFirstValues}
use Rattle.jr_kept_runs.specs.Laws.{sources_of}
use Rattle.jr_local.specs.Scopes.{same_images}
use Rattle.jr_local.specs.Extracted.{extract_local}
use Rattle.jr_local.specs.Inlined.{inline_local}

-- the program q is read as trees that are made of p
pub record IsReadAs (p q : Program Span) (files : List (Rewritten (UnitTree Span))) : Type 0 where
  pub before : IsProgram itself (λ m b. Unit {0}) p
  pub behind : IsProgram itself (λ m b. Unit {0}) q
  pub trees : map without_marks (units_of q)
      ≡ map (λ (o : Rewritten (UnitTree Span)). without_marks o.tree) files

-- it has the same rows, and each static field begins with the same
pub record IsKept (p q : Program Span) : Type 0 where
  pub rows : q.rows ≡ p.rows
  pub first_values : KeepsFirstValues (keys_by (same_images p.rows)) (sources_of p) (sources_of q)

abbrev pub ExtractsKeepPrograms : Type 0
ExtractsKeepPrograms = (p q : Program Span) (file from to : ℕ) (name : List ℕ)
    (edits : List (List Entry)) (renaming : List (Decl × Decl)) (respelled : ℕ)
    → (is : IsPlanned p (extract_local p file from to name) edits renaming respelled)
    → IsReadAs p q is.becomes.files → IsKept p q

abbrev pub InlinesKeepPrograms : Type 0
InlinesKeepPrograms = (p q : Program Span) (file at : ℕ) (edits : List (List Entry))
    (renaming : List (Decl × Decl)) (respelled : ℕ)
    → (is : IsPlanned p (inline_local p file at) edits renaming respelled)
    → IsReadAs p q is.becomes.files → IsKept p q
