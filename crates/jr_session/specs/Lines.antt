-- What is shown of a file's bindings, from the sources alone.
use Rattle.std.specs.Prelude.{◌≡◌, ℕ, List, map, slice_get, Some}
use Rattle.jr_text.specs.declared.spans.Span.{Span}
use Rattle.jr_lex.specs.declared.items.Item.{Item}
use Rattle.jr_lex.specs.Lexes.{Lexes}
use Rattle.jr_ast.specs.MemberTree as syntax
use Rattle.jr_table.specs.Rows.{Row}
use Rattle.jr_table.specs.DeclaredItems.{declarations_of}
use Rattle.jr_table.specs.ProgramRows.{AreProgramRows}
use Rattle.jr_program_laws.specs.FileParts.{begins, BindsAt, BreaksAt, InFile}
use Rattle.jr_lines.specs.Lines.{Line, reference, broken, line_text, AreLines}
use Rattle.jr_program.specs.Tokens.{IsTokenText}
use Rattle.jr_sources.specs.Sources.{Source}
use Rattle.jr_sources.specs.FirstFault.{AreProgram}

-- ---- what has a line

module _ (units : List (syntax.Unit Span)) (rows : List Row) (file : ℕ) (text : List ℕ)
    (items : List Item) where
  abbrev pub HasLine : Line → Type 0
  HasLine (reference at name d) =
      InFile units file (λ k base part. BindsAt rows items k base part at d)
      × IsTokenText text items at name
  HasLine (broken at r) = InFile units file (λ k base part. BreaksAt rows items k base part at r)

-- ---- the lines of a show

-- exactly the lines of the file of this number, by place, where the sources have no fault
pub record AreLinesOf (sources : List Source) (file : ℕ) (lines : List Line) : Type 0 where
  pub units : List (syntax.Unit Span)
  pub words : List ℕ
  pub program : AreProgram sources units words
  pub rows : List Row
  pub are_rows : AreProgramRows (declarations_of begins units) rows
  pub source : Source
  pub stands : slice_get sources file ≡ Some source
  pub items : List Item
  pub lexes : Lexes source.text items
  pub are : AreLines (HasLine units rows file source.text items) lines

-- their texts
pub record AreLineTexts (sources : List Source) (file : ℕ) (texts : List (List ℕ)) : Type 0 where
  pub lines : List Line
  pub are : AreLinesOf sources file lines
  pub texts_are : texts ≡ map line_text lines
