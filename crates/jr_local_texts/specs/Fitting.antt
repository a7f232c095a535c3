-- What extract local and inline local owe the one form of refactorings, as statements.
use Rattle.std.specs.Prelude.{◌≡◌, ℕ, List, [], Some, None, slice_get}
use Rattle.jr_text.specs.declared.spans.Span.{Span}
use Rattle.jr_lex.specs.declared.items.Item.{Item}
use Rattle.jr_lex.specs.Lexes.{Lexes}
use Rattle.jr_lex.specs.Replacing.{IsName}
use Rattle.jr_ast.specs.Tree as tree
use Rattle.jr_grammar.specs.Layout.{itself}
use Rattle.jr_bind.specs.Programs.{File, Program, IsProgram}
use Rattle.jr_rewrite.specs.Spots.{SpotsAreApart}
use Rattle.jr_rewrite.specs.Woven.{Fronted, Weaves}
use Rattle.jr_rewrite.specs.SuitableSpots.{SpotsSuit}
use Rattle.jr_images.specs.Regions.{IsSound}
use Rattle.jr_images.specs.NamedImages.{AreNamedImages}
use Rattle.jr_plan.specs.Transforms.{Transform, choosing_of}
use Rattle.jr_local.specs.Extracted as extracted
use Rattle.jr_local.specs.Inlined as inlined

-- The words of a written type are identifiers (JLS 3.8).
abbrev pub IsNamedType : {A : Type 0} → tree.TypeName A → Type 0
IsNamedType (tree.int m) = Unit {0}
IsNamedType (tree.boolean m) = Unit {0}
IsNamedType (tree.named m None w) = IsName w.text
IsNamedType (tree.named m (Some o) w) = IsName o.text × IsName w.text

-- what a refactoring owes (`jr_plan: IsFit`)
pub record IsFitting (p : Program Span) (t : Transform) : Type 0 where
  pub sound : IsSound p.rows t.region
  pub named : AreNamedImages p.rows t.region.seen.images
  pub spots : (n : ℕ) (f : File Span) → slice_get p.files n ≡ Some f
      → SpotsSuit itself (choosing_of p t) (Weaves (t.fronts n) f.text) (t.spots n)
  pub fronted : (n : ℕ) (f : File Span) (items : List Item) → slice_get p.files n ≡ Some f
      → Lexes f.text items → Fronted (t.fronts n) items
  pub apart : (n : ℕ) → SpotsAreApart (t.spots n)

-- Extract local owes nothing more, where the new name is an identifier, and the type's class has a
-- spelling (16).
abbrev pub ExtractsFit : Type 0
ExtractsFit = (p : Program Span) → IsProgram itself (λ m b. Unit {0}) p → (file from to : ℕ)
    (name : List ℕ) → IsName name → (f : extracted.Found p file from to name)
    → f.type.losses ≡ []
    → IsFitting p ((extracted.extract_local p file from to name).transform f)

-- Inline local owes nothing more.
abbrev pub InlinesFit : Type 0
InlinesFit = (p : Program Span) → IsProgram itself (λ m b. Unit {0}) p → (file at : ℕ)
    (f : inlined.Found p file at) → IsFitting p ((inlined.inline_local p file at).transform f)
