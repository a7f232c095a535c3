-- Where the references of a file of a renamed program stand, and what they are bound to there.
use Rattle.std.specs.Prelude.{◌≡◌, ℕ, List, [], Option, Some, slice_get}
use Rattle.jr_text.specs.declared.spans.Span.{Span}
use Rattle.jr_text.specs.Splices.{splice, IsUntouched, moved_to}
use Rattle.jr_ast.specs.MemberTree.{Unit as UnitTree}
use Rattle.jr_grammar.specs.Bare.{bare_unit}
use Rattle.jr_grammar.specs.Layout.{itself}
use Rattle.jr_grammar.specs.Reads.{ReadsWithSpans}
use Rattle.jr_table.specs.Decls.{MemberKey, Decl}
use Rattle.jr_table.specs.Rows.{Row}
use Rattle.jr_table.specs.Conditions.{AreRows}
use Rattle.jr_table.specs.Context.{Context}
use Rattle.jr_table.specs.DeclaredItems.{DeclaredItem, declarations_of}
use Rattle.jr_table.specs.Errors.{Binds, InClasses}
use Rattle.jr_table.specs.Faults.{PackageLine}
use Rattle.jr_table.specs.ProgramRows.{AreProgramRows}
use Rattle.jr_program_laws.specs.FileParts.{begins}
use Rattle.jr_rewrite.specs.Rewritten.{Rewritten}
use Rattle.jr_rewrite.specs.Edited.{entries_of}
use Rattle.jr_rewrite.specs.Rewrites.{RewritesUnit}
use Rattle.jr_images.specs.Images.{Renaming, decl_to, rows_to}
use Rattle.jr_images.specs.NamedImages.{AreNamedImages}
use Rattle.jr_images.specs.Regions.{images_of}
use Rattle.jr_images.specs.Spelling.{spelling}
use Rattle.jr_rename_laws.specs.ImageLaws.{AreImages}

-- a reference of the member of this key, which a file writes, is bound to the declaration
abbrev pub RefersInFile : (rows : List Row) → (super_at : MemberKey → ℕ) → List DeclaredItem
    → UnitTree Span → MemberKey → (at : ℕ) → Decl → Type 0
RefersInFile rows super_at declarations u k at x = InClasses begins declarations
    (λ k base part. Binds begins rows (super_at k) k base part at x) (begins u.mark 0) u.classes k

-- A program's declarations and those of another are images, a file of the first is rewritten by
-- that rename and loses nothing, and what its changes make of the text is read as the file of the
-- second. Each reference but a written `super(..)` whose first byte no change touches is bound,
-- where that byte has moved to, to the image of its declaration.
abbrev pub FileReferencesMove : Type 0
FileReferencesMove =
    (rows : List Row) (g : Renaming) (super_at : Context → ℕ) (packages : List (Option PackageLine))
    (units news : List (UnitTree Span))
    (old_at new_at : MemberKey → ℕ) (i : ℕ) (bytes : List ℕ) (u v : UnitTree Span)
    (o : Rewritten (UnitTree Span)) → AreRows rows → AreProgramRows (declarations_of begins units) rows
    → AreNamedImages rows (images_of rows g) → AreImages itself begins packages rows units g news
    → slice_get units i ≡ Some u → slice_get news i ≡ Some v → ReadsWithSpans itself bytes u
    → RewritesUnit itself (spelling begins rows g super_at) (declarations_of begins units) u o
    → o.losses ≡ [] → ReadsWithSpans itself (splice bytes (entries_of o.changes)) v
    → bare_unit v ≡ bare_unit o.tree → (k : MemberKey) (at : ℕ) (x : Decl)
    → RefersInFile rows old_at (declarations_of begins units) u k at x → (at ≡ old_at k → ⊥)
    → IsUntouched (entries_of o.changes) at
    → (j : MemberKey) × RefersInFile (rows_to g rows) new_at (declarations_of begins news) v j
    (moved_to (entries_of o.changes) at) (decl_to g x)
