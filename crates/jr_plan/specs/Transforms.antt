-- What a refactoring makes of a program, and what it owes, so that what holds of each holds of it.
use Rattle.std.specs.Prelude.{
  ◌≡◌,
  ℕ,
  suc,
  List,
  [],
  ◌∷◌,
  ◌++◌,
  map,
  Some,
  slice_get,
}
use Rattle.jr_text.specs.declared.spans.Span.{Span}
use Rattle.jr_text.specs.Edits.{Entry}
use Rattle.jr_lex.specs.declared.items.Item.{Item}
use Rattle.jr_lex.specs.Lexes.{Lexes}
use Rattle.jr_ast.specs.MemberTree as syntax
use Rattle.jr_grammar.specs.Layout.{itself}
use Rattle.jr_sync.specs.declared.sites.DepKind.{DepKind}
use Rattle.jr_table.specs.DeclaredItems.{DeclaredItem, declarations_of}
use Rattle.jr_table.specs.Context.{Context}
use Rattle.jr_names.specs.Refusals.{Refusal}
use Rattle.jr_names.specs.Sites.{SiteAt}
use Rattle.jr_bind.specs.Programs.{File, Program, units_of}
use Rattle.jr_rewrite.specs.Respellings.{Loss}
use Rattle.jr_rewrite.specs.Rewritten.{Rewritten}
use Rattle.jr_rewrite.specs.Edited.{entries_of}
use Rattle.jr_rewrite.specs.Spots.{Spotted, SpotsAreApart}
use Rattle.jr_rewrite.specs.Rewrites.{Choosing, TransformsUnit}
use Rattle.jr_rewrite.specs.Woven.{Fronts, Fronted, Weaves}
use Rattle.jr_rewrite.specs.SuitableSpots.{SpotsSuit}
use Rattle.jr_images.specs.Regions.{Region, IsSound}
use Rattle.jr_images.specs.NamedImages.{AreNamedImages}
use Rattle.jr_images.specs.Spelling.{choosing}

-- ---- references that are lost

-- A reference of the new trees was there and stays or moves; it is one more of one that was there;
-- or it comes with the refactoring, which says what it is to mean.
pub data Origin : Type 0 where
  kept : Origin
  copied : Origin
  made : Origin

-- It is lost: its origin's place, by the file, or for a made one the step's place; the old
-- declaration, or the stated one; and what it finds.
pub record Lost : Type 0 where
  pub origin : Origin
  pub file : ℕ
  pub loss : Loss

-- ---- files

-- each file of a program, from this number on, by the spots of its own
abbrev pub TransformsFiles : Choosing Span → List DeclaredItem → (spots : ℕ → Spotted Span)
    → List (syntax.Unit Span) → List (Rewritten (syntax.Unit Span)) → Type 0
TransformsFiles C ds spots [] os = os ≡ []
TransformsFiles C ds spots (u ∷ us) os = (o : Rewritten (syntax.Unit Span))
    × (ps : List (Rewritten (syntax.Unit Span))) × TransformsUnit itself C (spots 0) ds u o
    × TransformsFiles C ds (λ n. spots (suc n)) us ps × (os ≡ o ∷ ps)

-- ---- what a refactoring makes of a program

-- what is done, and where; what comes of a program by it is `Transformed`
pub record Transform : Type 1 where
  -- what becomes of keys, rows and places outside of spots
  pub region : Region Span
  -- the spots of each file, and which tokens may stand in front of a place of it
  pub spots : (file : ℕ) → Spotted Span
  pub fronts : (file : ℕ) → Fronts
  -- these are the copied and made references that are lost, in the text order of the new trees
  pub AlsoLost : List Lost → Type 0
  -- 18: the pair, if there is one
  pub Crosses : (kind : DepKind) → (first second : SiteAt) → Type 0

-- the choices outside of spots
abbrev pub choosing_of : Program Span → Transform → Choosing Span
choosing_of p t =
    choosing (λ (m : Span) b. m.from) p.rows t.region (λ (c : Context). p.super_at c.member)

-- what a refactoring owes
pub record IsFit (p : Program Span) (t : Transform) : Type 1 where
  -- old declarations have images among the new rows, and places what stands for them
  pub sound : IsSound p.rows t.region
  -- names of images are identifiers
  pub named : AreNamedImages p.rows t.region.seen.images
  -- the spots of a file suit its text, each token of which may stand in front of what follows it
  pub spots : (n : ℕ) (f : File Span) → slice_get p.files n ≡ Some f
      → SpotsSuit itself (choosing_of p t) (Weaves (t.fronts n) f.text) (t.spots n)
  pub fronted : (n : ℕ) (f : File Span) (items : List Item) → slice_get p.files n ≡ Some f
      → Lexes f.text items → Fronted (t.fronts n) items
  -- where a spot is, nothing stays: so each spot is used
  pub apart : (n : ℕ) → SpotsAreApart (t.spots n)

-- ---- what comes of a program

pub record Transformed (p : Program Span) (t : Transform) : Type 0 where
  -- what comes of each file; of losses these have those of kept references
  pub files : List (Rewritten (syntax.Unit Span))
  pub rewritten : TransformsFiles (choosing_of p t)
      (declarations_of (λ (m : Span) b. m.from) (units_of p)) t.spots (units_of p) files
  pub also_lost : List Lost
  pub also : t.AlsoLost also_lost

abbrev pub edits_of : List (Rewritten (syntax.Unit Span)) → List (List Entry)
edits_of files = map (λ (o : Rewritten (syntax.Unit Span)). entries_of o.changes) files

-- ---- a refactoring, as it is asked

-- Why it is refused by itself (5 to 14, and 24), the first reason that applies; what it finds where
-- none of these applies; and what it makes of a program where it finds that. Of what is refused by
-- 15 it isn't known that the files can be rewritten.
pub record Refactoring : Type 1 where
  pub Refuses : Refusal → Type 0
  pub Found : Type 0
  pub transform : Found → Transform

-- ---- all that is lost

abbrev pub kept_lost : (file : ℕ) → List Loss → List Lost
kept_lost n ls = map (λ (l : Loss). record { origin = kept; file = n; loss = l }) ls

-- of files from this number on
abbrev pub kept_from : (file : ℕ) → List (Rewritten (syntax.Unit Span)) → List Lost
kept_from n [] = []
kept_from n (o ∷ os) = kept_lost n o.losses ++ kept_from (suc n) os

abbrev pub all_lost : List (Rewritten (syntax.Unit Span)) → (also : List Lost) → List Lost
all_lost files also = kept_from 0 files ++ also
