-- What the files of a program become, by what becomes of its written members.
use Rattle.std.specs.Prelude.{◌≡◌, ℕ, List, Some, length, map, slice_get}
use Rattle.jr_text.specs.declared.spans.Span.{Span}
use Rattle.jr_ast.specs.MemberTree as syntax
use Rattle.jr_table.specs.Decls.{MemberKey}
use Rattle.jr_table.specs.Rows.{Row}
use Rattle.jr_table.specs.Context.{Context}
use Rattle.jr_table.specs.DeclaredItems.{declarations_of}
use Rattle.jr_table.specs.ProgramRows.{AreProgramRows}
use Rattle.jr_members.specs.WrittenMembers.{written_members}
use Rattle.jr_rewrite.specs.Rewritten.{Rewritten}
use Rattle.jr_rewrite.specs.Rewrites.{RewritesUnits}
use Rattle.jr_new_words.specs.Mappings.{Mapping}
use Rattle.jr_new_words.specs.Spelled.{spelling}
use Rattle.jr_new_bodies.specs.Effects.{Effect, effect_of}
use Rattle.jr_new_files.specs.Files.{AllGive}

module _ {A : Type 0} (tells : A → ℕ → Span) (rows : List Row) (super_at : MemberKey → ℕ)
    (units : List (syntax.Unit A)) (m : Mapping) where
  -- each of these is what the written members of the file of its number give, and there is one
  -- for each file
  pub record AreGathered (es : List Effect) : Type 0 where
    pub one_each : length es ≡ length units
    pub each : (file : ℕ) (e : Effect) → slice_get es file ≡ Some e
        → AllGive tells
        (spelling (λ x b. (tells x b).from) rows m (λ (c : Context). super_at c.member))
        file (written_members (λ x b. (tells x b).from) rows units) e

  abbrev pub AllRewritten : List (Rewritten (syntax.Unit A)) → Type 0
  AllRewritten files = RewritesUnits tells
      (spelling (λ x b. (tells x b).from) rows m (λ (c : Context). super_at c.member))
      (declarations_of (λ x b. (tells x b).from) units) units files

  -- the files are rewritten with these
  pub record AreRewritten (es : List Effect) : Type 0 where
    pub files : List (Rewritten (syntax.Unit A))
    pub are : AllRewritten files
    pub effects : map (λ (o : Rewritten (syntax.Unit A)). effect_of o) files ≡ es

abbrev pub FilesAreRewritten : Type 0 → Type 0
FilesAreRewritten A = (tells : A → ℕ → Span) (rows : List Row) (super_at : MemberKey → ℕ)
    (units : List (syntax.Unit A)) (m : Mapping) (es : List Effect)
    → AreProgramRows (declarations_of (λ x b. (tells x b).from) units) rows
    → AreGathered tells rows super_at units m es → AreRewritten tells rows super_at units m es
