-- What is kept of runs, as statements.
use Rattle.std.specs.Prelude.{◌≡◌, ◌-◌, ℕ, List, [], map}
use Rattle.jr_text.specs.declared.spans.Span.{Span}
use Rattle.jr_text.specs.Edits.{Entry}
use Rattle.jr_ast.specs.MemberTree.{Unit as UnitTree}
use Rattle.jr_grammar.specs.Layout.{itself}
use Rattle.jr_runs.specs.KeyMaps.{KeyMap}
use Rattle.jr_table.specs.Decls.{Decl}
use Rattle.jr_bind.specs.Programs.{Program, units_of}
use Rattle.jr_program_laws.specs.FileParts.{begins}
use Rattle.jr_code.specs.RunKeys.{RunKeys}
use Rattle.jr_rewrite.specs.Rewritten.{Rewritten}
use Rattle.jr_images.specs.Images.{rows_to}
use Rattle.jr_rename_laws.specs.ImageLaws.{without_marks, AreImages}
use Rattle.jr_rename_laws.specs.PlanLaws.{IsPlanIn}
use Rattle.jr_kept_runs.specs.KeysTo.{keys_to}
use Rattle.jr_kept_runs.specs.KeepsRuns.{Sources, KeepsRuns, KeepsFirstValues, KeepsHistories}

-- a node's last byte
abbrev pub last_of : Span → ℕ → ℕ
last_of m base = m.to - 1

-- a program's sources
abbrev pub sources_of : Program Span → Sources Span
sources_of p = record {
  begins = begins;
  ends = last_of;
  rows = p.rows;
  super_at = p.super_at;
  units = units_of p;
}

-- What is kept of a program p in which a rename is planned by each program q whose trees are the
-- planned ones and whose declarations are the images.
abbrev pub OfRenames : ((to : KeyMap RunKeys) → Sources Span → Sources Span → Type 0) → Type 0
OfRenames Keeps = (p q : Program Span) (text : List ℕ) (file at : ℕ) (new : List ℕ)
    (edits : List (List Entry)) (renaming : List (Decl × Decl)) (respelled : ℕ)
    → (is : IsPlanIn p text file at new edits renaming respelled)
    → map without_marks (units_of q)
    ≡ map (λ (o : Rewritten (UnitTree Span)). without_marks o.tree) is.planned.becomes.files
    → q.rows ≡ rows_to is.planned.found.g p.rows
    → AreImages itself begins [] p.rows (units_of p) is.planned.found.g (units_of q)
    → Keeps (keys_to is.planned.found.g) (sources_of p) (sources_of q)

-- whatever resolved programs they are: these are exactly alike
abbrev pub RenamesKeepRuns : Type 0
RenamesKeepRuns = OfRenames KeepsRuns

abbrev pub RenamesKeepFirstValues : Type 0
RenamesKeepFirstValues = OfRenames KeepsFirstValues

abbrev pub RenamesKeepHistories : Type 0
RenamesKeepHistories = OfRenames KeepsHistories
