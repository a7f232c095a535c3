-- Laws on the texts of a program, as statements: its rows have identifiers for names; the changes
-- of a renamed file are edits that fit its text, and the new text reads as the new tree.
use Rattle.std.specs.Prelude.{◌≡◌, ℕ, List, Option, Some, None, slice_get, length}
use Rattle.std.specs.List.{position_or_len}
use Rattle.jr_text.specs.declared.spans.Span.{Span}
use Rattle.jr_lex.specs.Replacing.{IsName}
use Rattle.jr_ast.specs.MemberTree.{Unit as UnitTree}
use Rattle.jr_grammar.specs.Reads.{Reads, ReadsWithSpans}
use Rattle.jr_table.specs.Keys.{ClassKey}
use Rattle.jr_table.specs.Decls.{
  Decl,
  class_decl,
  field_decl,
  method_decl,
  constructor_decl,
  local_decl,
}
use Rattle.jr_table.specs.Rows.{Row}
use Rattle.jr_table.specs.Entries.{IsRowOf}
use Rattle.jr_table.specs.DeclaredItems.{DeclaredItem, declarations_of}
use Rattle.jr_table.specs.ProgramRows.{AreProgramRows}
use Rattle.jr_table.specs.Context.{Context}
use Rattle.jr_spell.specs.Binds.{is_dot}
use Rattle.jr_rewrite.specs.Rewritten.{Rewritten}
use Rattle.jr_rewrite.specs.Rewrites.{RewritesUnit}
use Rattle.jr_rewrite.specs.RewriteLaws.{IsRewritten}
use Rattle.jr_images.specs.Images.{Renaming}
use Rattle.jr_images.specs.Spelling.{spelling}
use Rattle.jr_images.specs.OneLocal.{HaveNoDots}

abbrev pub IsOuterName : Option (List ℕ) → Type 0
IsOuterName None = Unit {0}
IsOuterName (Some o) = IsName o

abbrev pub IsNamedClass : ClassKey → Type 0
IsNamedClass k = IsOuterName k.outer × IsName k.name

-- the words of a declaration's key are identifiers (JLS 3.8)
abbrev pub IsNamedDecl : Decl → Type 0
IsNamedDecl (class_decl k) = IsNamedClass k
IsNamedDecl (field_decl k) = IsNamedClass k.class × IsName k.name
IsNamedDecl (method_decl k) = IsNamedClass k.class × IsName k.name
IsNamedDecl (constructor_decl k) = IsNamedClass k.class
IsNamedDecl (local_decl k) = Unit {0}

abbrev pub AreNamed : List Row → Type 0
AreNamed rows = (d : Decl) (j : ℕ) → IsRowOf rows d j → IsNamedDecl d

abbrev pub NamesHaveNoDot : Type 0
NamesHaveNoDot = (name : List ℕ) → IsName name → position_or_len is_dot name ≡ length name

-- where each unit is what a text reads as, the names of the rows are identifiers, and so the
-- classes' have no dot
abbrev pub RowsAreNamed : Type 0 → Type 0
RowsAreNamed A = (begins : A → ℕ → ℕ) (rows : List Row) (units : List (UnitTree A))
    → ((file : ℕ) (unit : UnitTree A) → slice_get units file ≡ Some unit
    → (bytes : List ℕ) × Reads bytes unit)
    → AreProgramRows (declarations_of begins units) rows → AreNamed rows × HaveNoDots rows

abbrev pub RenamedTextsRead : Type 0 → Type 0
RenamedTextsRead A = (tells : A → ℕ → Span) (rows : List Row) (g : Renaming)
    (super_at : Context → ℕ) (declarations : List DeclaredItem) (bytes : List ℕ) (unit : UnitTree A)
    (o : Rewritten (UnitTree A)) → AreNamed rows → IsName g.name
    → ReadsWithSpans tells bytes unit
    → RewritesUnit tells (spelling (λ m b. (tells m b).from) rows g super_at) declarations unit o
    → IsRewritten bytes o
