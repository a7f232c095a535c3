-- Laws of plans of renames, as statements.
use Rattle.std.specs.Prelude.{◌≡◌, ℕ, List, [], map, Option, Some, slice_get}
use Rattle.jr_text.specs.declared.spans.Span.{Span}
use Rattle.jr_text.specs.Edits.{Entry, AreEdits, FitsIn}
use Rattle.jr_text.specs.Splices.{splice}
use Rattle.jr_lex.specs.Replacing.{IsName}
use Rattle.jr_ast.specs.MemberTree.{Unit as UnitTree}
use Rattle.jr_grammar.specs.Layout.{itself}
use Rattle.jr_grammar.specs.Reads.{Reads}
use Rattle.jr_table.specs.Decls.{
  Decl,
  class_decl,
  field_decl,
  method_decl,
  constructor_decl,
  local_decl,
}
use Rattle.jr_table.specs.Faults.{PackageLine, IsClean}
use Rattle.jr_table.specs.DeclaredItems.{declarations_of}
use Rattle.jr_bind.specs.Programs.{File, Program, IsProgram, units_of}
use Rattle.jr_program_laws.specs.FileParts.{begins}
use Rattle.jr_rewrite.specs.AlongMembers.{AlongUnits}
use Rattle.jr_rewrite.specs.Rewritten.{Rewritten}
use Rattle.jr_rename_laws.specs.ImageLaws.{without_marks, AreImages}
use Rattle.jr_images.specs.Images.{member_to}
use Rattle.jr_images.specs.Keeping.{IsKept, IsWritten, IsSuperKept, IsParentKept}
use Rattle.jr_images.specs.RenameLaws.{trees_of}
use Rattle.jr_plan.specs.Reasons.{IsPlanned}
use Rattle.jr_plan.specs.Renaming as rename

-- the places of a mark that is a span fit, wherever the parent begins
abbrev pub Anywhere : Span → ℕ → Type 0
Anywhere m base = Unit {0}

-- a rename by an identifier is planned in a program without faults and errors
pub record IsPlanIn (p : Program Span) (text : List ℕ) (file at : ℕ) (new : List ℕ)
    (edits : List (List Entry)) (renaming : List (Decl × Decl)) (respelled : ℕ) : Type 0 where
  pub program : IsProgram itself Anywhere p
  pub name : IsName new
  pub planned : IsPlanned p (rename.renaming p text file at new) edits renaming respelled

-- the edits fit the text, and what they make of it reads as the tree
pub record IsNewText (text : List ℕ) (edits : List Entry) (tree : UnitTree Span) : Type 0 where
  pub are : AreEdits edits
  pub fits : FitsIn text edits
  pub reads : Reads (splice text edits) tree

-- the text of each file, spliced by its edits, reads as its new tree
abbrev pub NewTextsRead : Type 0
NewTextsRead = (p : Program Span) (text : List ℕ) (file at : ℕ) (new : List ℕ)
    (edits : List (List Entry)) (renaming : List (Decl × Decl)) (respelled : ℕ)
    → (is : IsPlanIn p text file at new edits renaming respelled)
    → (i : ℕ) (f : File Span) → slice_get p.files i ≡ Some f
    → (o : Rewritten (UnitTree Span)) × (e : List Entry)
    × (slice_get is.planned.becomes.files i ≡ Some o) × (slice_get edits i ≡ Some e)
    × IsNewText f.text e o.tree

-- each reference, written type, superclass and `super(..)` of the new trees means, by the new rows,
-- the image of what it meant
abbrev pub ReferencesStay : Type 0
ReferencesStay = (p : Program Span) (text : List ℕ) (file at : ℕ) (new : List ℕ)
    (edits : List (List Entry)) (renaming : List (Decl × Decl)) (respelled : ℕ)
    → (is : IsPlanIn p text file at new edits renaming respelled)
    → AlongUnits begins begins (IsKept begins begins is.planned.found.g p.rows)
    (IsWritten begins begins is.planned.found.g p.rows) (IsSuperKept is.planned.found.g p.rows)
    (IsParentKept is.planned.found.g p.rows) (member_to is.planned.found.g)
    (declarations_of begins (units_of p)) (units_of p) (trees_of is.planned.becomes.files)

-- what is renamed is no class
abbrev pub IsNoClass : Decl → Type 0
IsNoClass (local_decl k) = Unit {0}
IsNoClass (field_decl k) = Unit {0}
IsNoClass (method_decl k) = Unit {0}
IsNoClass (class_decl k) = ⊥
IsNoClass (constructor_decl k) = ⊥

-- whatever spans they have, the new trees' declarations have no fault, and their rows are the
-- images of the old ones
abbrev pub NewProgramsAreImages : Type 0
NewProgramsAreImages = (p : Program Span) (text : List ℕ) (file at : ℕ) (new : List ℕ)
    (edits : List (List Entry)) (renaming : List (Decl × Decl)) (respelled : ℕ)
    → (is : IsPlanIn p text file at new edits renaming respelled) → IsNoClass is.planned.found.target
    → (news : List (UnitTree Span)) → map without_marks news
    ≡ map (λ (o : Rewritten (UnitTree Span)). without_marks o.tree) is.planned.becomes.files
    → AreImages itself begins [] p.rows (units_of p) is.planned.found.g news

-- the same with the files' package lines: where these have no fault, neither have lines of the same
-- packages before the new trees
abbrev pub NewProgramsStayClean : Type 0
NewProgramsStayClean = (p : Program Span) (text : List ℕ) (file at : ℕ) (new : List ℕ)
    (edits : List (List Entry)) (renaming : List (Decl × Decl)) (respelled : ℕ)
    → (is : IsPlanIn p text file at new edits renaming respelled) → IsNoClass is.planned.found.target
    → (packages : List (Option PackageLine)) → IsClean packages (declarations_of begins (units_of p))
    → (news : List (UnitTree Span)) → map without_marks news
    ≡ map (λ (o : Rewritten (UnitTree Span)). without_marks o.tree) is.planned.becomes.files
    → AreImages itself begins packages p.rows (units_of p) is.planned.found.g news
