-- What the edits of a plan make of the texts of a program, whatever is asked.
use Rattle.std.specs.Prelude.{◌≡◌, ℕ, List, Some, length, slice_get}
use Rattle.jr_text.specs.declared.spans.Span.{Span}
use Rattle.jr_text.specs.Edits.{Entry}
use Rattle.jr_ast.specs.MemberTree.{Unit as UnitTree}
use Rattle.jr_grammar.specs.Layout.{itself}
use Rattle.jr_table.specs.Decls.{Decl}
use Rattle.jr_bind.specs.Programs.{File, Program, IsProgram}
use Rattle.jr_rewrite.specs.Rewritten.{Rewritten}
use Rattle.jr_plan.specs.Reasons.{IsPlanned}
use Rattle.jr_rename_laws.specs.PlanLaws.{IsNewText}
use Rattle.jr_sources.specs.Whole.{Anywhere}
use Rattle.jr_session.specs.Asked.{rename, extract}
use Rattle.jr_session.specs.Requests.{Request, IsGoodName}

-- of a refactoring's plan: the text of each file, spliced by its edits, reads as its new tree
abbrev pub ReadsSo : Request → Type 0
ReadsSo ask = (p : Program Span) (text : List ℕ) (number : ℕ) (edits : List (List Entry))
    (renaming : List (Decl × Decl)) (respelled : ℕ) → IsProgram itself Anywhere p
    → IsGoodName ask.name
    → (is : IsPlanned p (ask.refactoring p text number) edits renaming respelled)
    → (i : ℕ) (f : File Span) → slice_get p.files i ≡ Some f
    → (o : Rewritten (UnitTree Span)) × (e : List Entry)
    × (slice_get is.becomes.files i ≡ Some o) × (slice_get edits i ≡ Some e)
    × IsNewText f.text e o.tree

pub record PlansRead : Type 0 where
  pub renames : (file : List ℕ) (at : ℕ) (new : List ℕ) → ReadsSo (rename file at new)
  pub extracts : (file : List ℕ) (from to : ℕ) (new : List ℕ) → ReadsSo (extract file from to new)
