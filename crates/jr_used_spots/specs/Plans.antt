-- What is among the changes of each plan of extract local and of inline local, as statements.
use Rattle.std.specs.Prelude.{◌≡◌, ℕ, List, [], Some, slice_get, Contains}
use Rattle.jr_text.specs.declared.spans.Span.{Span}
use Rattle.jr_ast.specs.MemberTree as syntax
use Rattle.jr_ast.specs.Marks.{stmt_mark}
use Rattle.jr_grammar.specs.Layout.{itself}
use Rattle.jr_bind.specs.Programs.{Program, IsProgram}
use Rattle.jr_rewrite.specs.Rewritten.{Rewritten, change}
use Rattle.jr_plan.specs.Transforms.{Transformed}
use Rattle.jr_local.specs.Selecting.{element}
use Rattle.jr_local.specs.Extracted as extracted
use Rattle.jr_local.specs.Inlined as inlined

-- a declaration is put in front of the statement
pub record PutsDeclaration (p : Program Span) (file from to : ℕ) (name : List ℕ)
    (f : extracted.Found p file from to name) (files : List (Rewritten (syntax.Unit Span)))
    : Type 0 where
  pub o : Rewritten (syntax.Unit Span)
  pub stands : slice_get files file ≡ Some o
  pub init : List ℕ
  pub gap : List ℕ
  pub puts : Contains o.changes (extracted.put_declaration name
      (stmt_mark (element f.selected).stmt) f.type.tree init gap)

-- the declaration goes
pub record TakesDeclaration (file : ℕ) (gone : Span) (files : List (Rewritten (syntax.Unit Span)))
    : Type 0 where
  pub o : Rewritten (syntax.Unit Span)
  pub stands : slice_get files file ≡ Some o
  pub goes : Contains o.changes (change gone [])

-- Whatever extract local makes of a program, it puts the declaration.
abbrev pub ExtractsPut : Type 0
ExtractsPut = (p : Program Span) → IsProgram itself (λ m b. Unit {0}) p → (file from to : ℕ)
    (name : List ℕ) (f : extracted.Found p file from to name)
    (made : Transformed p ((extracted.extract_local p file from to name).transform f))
    → PutsDeclaration p file from to name f made.files

-- Whatever inline local makes of one, it takes the declaration away.
abbrev pub InlinesTakeAway : Type 0
InlinesTakeAway = (p : Program Span) → IsProgram itself (λ m b. Unit {0}) p → (file at : ℕ)
    (f : inlined.Found p file at)
    (made : Transformed p ((inlined.inline_local p file at).transform f))
    → TakesDeclaration file f.gone made.files
