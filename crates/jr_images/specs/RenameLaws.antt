-- The law of rename, as a statement: whatever is renamed, if no reference is lost then each is
-- bound, in the new trees and by the new rows, to the image of what it was bound to.
use Rattle.std.specs.Prelude.{◌≡◌, ℕ, List, [], map, Some, slice_get, codes, length}
use Rattle.std.specs.List.{position_or_len}
use Rattle.jr_text.specs.declared.spans.Span.{Span}
use Rattle.jr_ast.specs.MemberTree as syntax
use Rattle.jr_table.specs.Keys.{ClassKey}
use Rattle.jr_table.specs.Decls.{class_decl}
use Rattle.jr_table.specs.Rows.{Row}
use Rattle.jr_table.specs.Prelude.{top_key}
use Rattle.jr_table.specs.Entries.{IsRowOf}
use Rattle.jr_table.specs.Conditions.{AreRows}
use Rattle.jr_table.specs.DeclaredItems.{declarations_of}
use Rattle.jr_table.specs.Context.{Context}
use Rattle.jr_spell.specs.Binds.{is_dot}
use Rattle.jr_rewrite.specs.Rewritten.{Rewritten}
use Rattle.jr_rewrite.specs.Rewrites.{RewritesUnits}
use Rattle.jr_rewrite.specs.AlongMembers.{AlongUnits}
use Rattle.jr_images.specs.Images.{Renaming, class_to, member_to, rows_to}
use Rattle.jr_images.specs.Spelling.{spelling}
use Rattle.jr_images.specs.Keeping.{IsKept, IsWritten, IsSuperKept, IsParentKept}

-- what is asked of a renaming of a program with these rows
pub record IsFair (rows : List Row) (g : Renaming) : Type 0 where
  -- the new rows are those of a program
  pub are : AreRows (rows_to g rows)
  -- no class's name has a dot
  pub names : (k : ClassKey) (j : ℕ) → IsRowOf rows (class_decl k) j
      → position_or_len is_dot (class_to g k).name ≡ length (class_to g k).name
  -- the prelude's classes that literals have keep their names
  pub string : class_to g (top_key (codes "String")) ≡ top_key (codes "String")
  pub class : class_to g (top_key (codes "Class")) ≡ top_key (codes "Class")

-- nothing is lost in any file
abbrev pub KeepsAll : {T : Type 0} → List (Rewritten T) → Type 0
KeepsAll {T} files = (i : ℕ) (o : Rewritten T) → slice_get files i ≡ Some o → o.losses ≡ []

abbrev pub trees_of : {T : Type 0} → List (Rewritten T) → List T
trees_of {T} files = map (λ (o : Rewritten T). o.tree) files

abbrev pub ReferencesAreKept : Type 0 → Type 0
ReferencesAreKept A = (tells : A → ℕ → Span) (rows : List Row) (g : Renaming)
    (super_at : Context → ℕ) (units : List (syntax.Unit A))
    (files : List (Rewritten (syntax.Unit A)))
    → AreRows rows → IsFair rows g
    → RewritesUnits tells (spelling (λ m b. (tells m b).from) rows g super_at)
    (declarations_of (λ m b. (tells m b).from) units) units files
    → KeepsAll files
    → AlongUnits (λ m b. (tells m b).from) (λ m b. (tells m b).from)
    (IsKept (λ m b. (tells m b).from) (λ m b. (tells m b).from) g rows)
    (IsWritten (λ m b. (tells m b).from) (λ m b. (tells m b).from) g rows)
    (IsSuperKept g rows) (IsParentKept g rows) (member_to g)
    (declarations_of (λ m b. (tells m b).from) units) units (trees_of files)
