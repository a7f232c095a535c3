-- One answer for a rename's plan, as statements.
use Rattle.std.specs.Prelude.{◌≡◌, ◌↔◌, ℕ, List, Some, slice_get}
use Rattle.jr_text.specs.declared.spans.Span.{Span}
use Rattle.jr_text.specs.Edits.{Entry}
use Rattle.jr_lex.specs.Replacing.{IsName}
use Rattle.jr_ast.specs.MemberTree as syntax
use Rattle.jr_grammar.specs.Layout.{itself}
use Rattle.jr_table.specs.Decls.{Decl}
use Rattle.jr_table.specs.Rows.{Row}
use Rattle.jr_table.specs.Context.{Context}
use Rattle.jr_names.specs.Refusals.{Refusal}
use Rattle.jr_bind.specs.Programs.{File, Program, IsProgram, units_of}
use Rattle.jr_rewrite.specs.Rewritten.{Rewritten}
use Rattle.jr_images.specs.Families.{Among, AreRenamed}
use Rattle.jr_images.specs.Images.{Renaming, decl_to, rows_to, scope_to}
use Rattle.jr_images.specs.RenameLaws.{IsFair}
use Rattle.jr_images.specs.Renames.{pairs_of, Rewrite}
use Rattle.jr_plan.specs.Reasons.{IsPlanned, IsRefused, HasOnePlan}
use Rattle.jr_plan.specs.Renaming as rename

-- ---- renamings

-- the same declarations get the same name
pub record AreAlike (g h : Renaming) : Type 0 where
  pub members : (e : Decl) → Among g.decls e ↔ Among h.decls e
  pub name : g.name ≡ h.name

-- what is renamed with a declaration is one set
abbrev pub RenamedAreAlike : Type 0
RenamedAreAlike = (rows : List Row) (d : Decl) (g h : Renaming) → AreRenamed rows d g.decls
    → AreRenamed rows d h.decls → g.name ≡ h.name → AreAlike g h

-- in whatever order they stand, and however often, declarations, rows and scopes become the same
pub record BecomeTheSame (rows : List Row) (g h : Renaming) : Type 0 where
  pub decls : (d : Decl) → decl_to g d ≡ decl_to h d
  pub rows_are : rows_to g rows ≡ rows_to h rows
  pub scopes : (c : Context) → scope_to g c ≡ scope_to h c
  pub pairs : pairs_of rows g ≡ pairs_of rows h

abbrev pub AlikeBecomeTheSame : Type 0
AlikeBecomeTheSame = (rows : List Row) (g h : Renaming) → AreAlike g h → BecomeTheSame rows g h

-- ---- rewritings

-- a program is rewritten in one way, whatever else is known of its files
abbrev pub RewritingIsOne : Type 0
RewritingIsOne = (p q : Program Span) → IsProgram itself (λ m b. Unit {0}) p
    → IsProgram itself (λ m b. Unit {0}) q → p.files ≡ q.files → (g h : Renaming)
    → AreAlike g h → IsFair p.rows g → (files others : List (Rewritten (syntax.Unit Span)))
    → Rewrite itself p.rows p.super_at (units_of p) g files
    → Rewrite itself q.rows q.super_at (units_of q) h others → files ≡ others

-- ---- plans

module _ (text : List ℕ) (file at : ℕ) (new : List ℕ) (p : Program Span) where
  abbrev pub PlansSo : List (List Entry) → List (Decl × Decl) → (respelled : ℕ) → Type 0
  PlansSo edits renaming respelled =
      IsPlanned p (rename.renaming p text file at new) edits renaming respelled

  abbrev pub RefusesSo : Refusal → Type 0
  RefusesSo r = IsRefused p (rename.renaming p text file at new) r

-- Programs of the same files, where the new name is an identifier, plan a rename in the same way,
-- or refuse it for the same reason.
abbrev pub PlanIsOne : Type 0
PlanIsOne = (p q : Program Span) → IsProgram itself (λ m b. Unit {0}) p
    → IsProgram itself (λ m b. Unit {0}) q → p.files ≡ q.files → (file at : ℕ) (f : File Span)
    → slice_get p.files file ≡ Some f → (new : List ℕ) → IsName new
    → HasOnePlan p q (rename.renaming p f.text file at new)
    (rename.renaming q f.text file at new)
