-- Which refactoring each step asks for. A refactoring has its record here, and its line below.
use Rattle.std.specs.Prelude.{ℕ, List, [], ◌∷◌, Some}
use Rattle.jr_text.specs.declared.spans.Span.{Span}
use Rattle.jr_text.specs.Edits.{Entry}
use Rattle.jr_ast.specs.MemberTree.{Unit as UnitTree}
use Rattle.jr_grammar.specs.Layout.{itself}
use Rattle.jr_table.specs.Decls.{Decl}
use Rattle.jr_table.specs.DeclaredItems.{declarations_of}
use Rattle.jr_names.specs.declared.steps.Step.{Step}
use Rattle.jr_names.specs.declared.steps.Step.TheVariants as step
use Rattle.jr_bind.specs.Programs.{Program, units_of}
use Rattle.jr_program_laws.specs.FileParts.{begins}
use Rattle.jr_rewrite.specs.AlongMembers.{AlongUnits}
use Rattle.jr_rewrite.specs.Rewritten.{Rewritten}
use Rattle.jr_images.specs.Images.{Renaming, member_to}
use Rattle.jr_images.specs.Keeping.{IsKept, IsWritten, IsSuperKept, IsParentKept}
use Rattle.jr_local.specs.Extracted.{extract_local}
use Rattle.jr_plan.specs.Renaming.{IsFound, renaming}
use Rattle.jr_rename_laws.specs.ImageLaws.{AreImages}
use Rattle.jr_reference_changes.specs.Family.{RenamesFamily, KeepsFamilies}
use Rattle.jr_reference_changes.specs.Fronts.{AreFronted}
use Rattle.jr_reference_changes.specs.Names.{AreOnNames}
use Rattle.jr_reference_changes.specs.PlacesInFiles.{AreOfPlaces}
use Rattle.jr_kept_runs.specs.KeysTo.{keys_to}
use Rattle.jr_kept_runs.specs.KeepsRuns.{KeepsRuns, KeepsHistories}
use Rattle.jr_kept_runs.specs.Laws.{sources_of}
use Rattle.jr_session.specs.Requests.{Request, Asks, refactors, nothing}

-- ---- rename

-- what a rename of declaration d to this name promises besides, which renames these pairs
pub record KeepsNames (p : Program Span) (d : Decl) (g : Renaming) (new : List ℕ)
    (files : List (Rewritten (UnitTree Span))) (edits : List (List Entry))
    (pairs : List (Decl × Decl)) (q : Program Span) : Type 0 where
  -- each class and member of q stands where the one stood whose image it is, and q's declarations
  -- have no fault
  pub images : AreImages itself begins [] p.rows (units_of p) g (units_of q)
  -- Each reference of each member of p is bound, at its place in q's own trees and by q's own rows,
  -- to the image of its declaration; each written type, superclass and `super(..)` means the image
  -- of what it meant, and so does the class in front of a type's dot, unless the type is respelled.
  pub references : AlongUnits begins begins (IsKept begins begins g p.rows)
      (IsWritten begins begins g p.rows) (IsSuperKept g p.rows) (IsParentKept g p.rows)
      (member_to g) (declarations_of begins (units_of p)) (units_of p) (units_of q)
  -- in front of each reference of the planned trees, which are q's but for marks, stands what stood
  -- there, rewritten, or `this`, `super`, a cast of one of these, or the name of a class
  pub fronts : AreFronted p g files
  -- each declaration of the renamed family gets the name, and no other gets another name
  pub family : RenamesFamily p.rows g d new pairs
  -- methods of p override one another exactly where their images do in q
  pub families : KeepsFamilies p.rows g q.rows
  -- the edits of each file are exactly those of the references and declared names that stay in it,
  -- and it counts the respelled among these
  pub places : AreOfPlaces p g files edits
  -- each item of a text that an edit's span meets lies within it, and is a word, `super`, a dot, a
  -- blank or a comment
  pub names : AreOnNames p edits
  -- The two resolved programs are exactly alike: each method and constructor, on a receiver and
  -- arguments of its types, has in q exactly the images of its runs in p, whole ones with the same
  -- end and bounded ones, both ways.
  pub runs : KeepsRuns (keys_to g) (sources_of p) (sources_of q)
  -- What several threads do together is the same, whatever first values are: each history of p, of
  -- threads with starts and sequential memory (JLS 17.4), has its image in q, and each history of q
  -- is the image of one of p.
  pub histories : KeepsHistories (keys_to g) (sources_of p) (sources_of q)

-- what the identifier at the byte of the file declares or is bound to gets the name
abbrev pub rename : (file : List ℕ) → (at : ℕ) → (new : List ℕ) → Request
rename file at new = record {
  file = file;
  places = at ∷ [];
  name = Some new;
  refactoring = λ p text number. renaming p text number at new;
  Keeps = λ p text number (x : IsFound p text number at new) files edits pairs q.
      KeepsNames p x.target x.g new files edits pairs q;
}

-- ---- extract local

-- The expression of exactly these bytes becomes the initializer of a local of the name. It promises
-- no more than every refactoring.
abbrev pub extract : (file : List ℕ) → (from to : ℕ) → (new : List ℕ) → Request
extract file from to new = record {
  file = file;
  places = from ∷ to ∷ [];
  name = Some new;
  refactoring = λ p text number. extract_local p number from to new;
  Keeps = λ p text number x files edits pairs q. Unit {0};
}

-- ---- all steps

abbrev pub asks_of : Step → Asks
asks_of (step.Rename file at new) = refactors (rename file at new)
asks_of (step.ExtractLocal file from to new) = refactors (extract file from to new)
asks_of _ = nothing
