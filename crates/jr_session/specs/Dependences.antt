-- What is shown of the dependences in a file, from the sources alone.
use Rattle.std.specs.Prelude.{◌≡◌, ℕ, List, slice_get, Some}
use Rattle.jr_text.specs.declared.spans.Span.{Span}
use Rattle.jr_lex.specs.declared.items.Item.{Item}
use Rattle.jr_lex.specs.Lexes.{Lexes}
use Rattle.jr_ast.specs.MemberTree as syntax
use Rattle.jr_table.specs.Decls.{MemberKey}
use Rattle.jr_table.specs.Rows.{Row}
use Rattle.jr_table.specs.DeclaredItems.{declarations_of}
use Rattle.jr_table.specs.ProgramRows.{AreProgramRows}
use Rattle.jr_members.specs.WrittenMembers.{WrittenMember, written_members}
use Rattle.jr_program_laws.specs.FileParts.{begins}
use Rattle.jr_dependence_lines.specs.Lines.{Line, texts_of}
use Rattle.jr_dependence_lines.specs.MemberLines.{HaveLines, IsFirstLarge, in_file}
use Rattle.jr_sources.specs.Sources.{Source}
use Rattle.jr_sources.specs.FirstFault.{AreProgram}

-- The sources have no fault: these are their rows, and of the file of this number the tokens and
-- the members, in text order.
pub record AreMembersOf (sources : List Source) (file : ℕ) (rows : List Row) (items : List Item)
    (members : List (WrittenMember Span)) : Type 0 where
  pub units : List (syntax.Unit Span)
  pub words : List ℕ
  pub program : AreProgram sources units words
  pub are_rows : AreProgramRows (declarations_of begins units) rows
  pub source : Source
  pub stands : slice_get sources file ≡ Some source
  pub lexes : Lexes source.text items
  pub written : members ≡ in_file file (written_members begins rows units)

-- the texts of exactly the lines of the file's members, one member behind the other
pub record AreDependenceTexts (sources : List Source) (file : ℕ) (texts : List (List ℕ))
    : Type 0 where
  pub rows : List Row
  pub items : List Item
  pub members : List (WrittenMember Span)
  pub of : AreMembersOf sources file rows items members
  pub lines : List Line
  pub have : HaveLines rows items members lines
  pub texts_are : texts ≡ texts_of lines

-- the first of the file's members that has too many sites, and how many it has
pub record IsLargeMember (sources : List Source) (file : ℕ) (member : MemberKey) (count : ℕ)
    : Type 0 where
  pub rows : List Row
  pub items : List Item
  pub members : List (WrittenMember Span)
  pub of : AreMembersOf sources file rows items members
  pub first : IsFirstLarge rows items members member count
