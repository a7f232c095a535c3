-- Why a refactoring is refused by what the program is, and what is planned where it isn't. The
-- texts' lengths and what is wrong with the new program come behind (20, 17), and then a lost
-- dependence (18).
use Rattle.std.specs.Prelude.{
  ◌≡◌,
  ◌≢◌,
  ℕ,
  ◌<◌,
  ◌≤◌,
  ◌⊎◌,
  List,
  [],
  map,
  filter,
  not,
  Option,
  Some,
  None,
  slice_get,
  sum_by,
}
use Rattle.jr_text.specs.declared.spans.Span.{Span}
use Rattle.jr_text.specs.Edits.{Entry}
use Rattle.jr_ast.specs.MemberTree as syntax
use Rattle.jr_table.specs.Keys.{ClassKey, MethodKey}
use Rattle.jr_table.specs.Decls.{
  Decl,
  class_decl,
  field_decl,
  method_decl,
  constructor_decl,
  local_decl,
}
use Rattle.jr_table.specs.SameDecls.{same_decl}
use Rattle.jr_table.specs.Rows.{Row}
use Rattle.jr_table.specs.Entries.{IsRowOf}
use Rattle.jr_table.specs.Keyed.{DispatchesTo}
use Rattle.jr_sync.specs.declared.sites.DepKind.{DepKind}
use Rattle.jr_names.specs.Refusals.{Refusal, override_changed, lost_binding}
use Rattle.jr_names.specs.Sites.{SiteAt, DepPair}
use Rattle.jr_bind.specs.Programs.{Program}
use Rattle.jr_rewrite.specs.Rewritten.{Rewritten}
use Rattle.jr_images.specs.Regions.{Images, image_of_member}
use Rattle.jr_plan.specs.Transforms.{
  Origin,
  kept,
  copied,
  made,
  Lost,
  Transform,
  Transformed,
  Refactoring,
  edits_of,
  all_lost,
}

abbrev pub images_in : Transform → Images
images_in t = t.region.seen.images

-- ---- 15: dispatch

-- on an object of the class the method would be dispatched to another method than the old one's
-- image (JLS 15.12.4.4)
pub record ChangesDispatch (rows : List Row) (m : Images) (of : ClassKey) (k : MethodKey) : Type 0
  where
    pub was : MethodKey
    pub now : MethodKey
    pub old : DispatchesTo rows of k was
    pub new : DispatchesTo m.rows (m.class_to of) (m.method_to k) now
    pub changed : now ≢ m.method_to was

-- the first class, in file and text order, and then the first method
pub record IsFirstChange (rows : List Row) (m : Images) (of : ClassKey) (k : MethodKey) : Type 0
  where
    pub changes : ChangesDispatch rows m of k
    pub class_at : ℕ
    pub method_at : ℕ
    pub class_row : IsRowOf rows (class_decl of) class_at
    pub method_row : IsRowOf rows (method_decl k) method_at
    pub first_class : (o : ClassKey) (n : MethodKey) (i : ℕ) → ChangesDispatch rows m o n
        → IsRowOf rows (class_decl o) i → class_at ≤ i
    pub first_method : (n : MethodKey) (j : ℕ) → ChangesDispatch rows m of n
        → IsRowOf rows (method_decl n) j → method_at ≤ j

-- ---- 16: lost references

abbrev pub origin_rank : Origin → ℕ
origin_rank kept = 0
origin_rank copied = 1
origin_rank made = 2

-- it has a lesser place, or at one place it is kept before it is copied, copied before it is made
abbrev pub Precedes : Lost → Lost → Type 0
Precedes x y = (x.file < y.file) ⊎ ((x.file ≡ y.file)
    × ((x.loss.at < y.loss.at) ⊎ ((x.loss.at ≡ y.loss.at)
    × (origin_rank x.origin < origin_rank y.origin))))

-- none precedes it, and of those that it doesn't precede it stands first
pub record IsFirstLost (all : List Lost) (x : Lost) : Type 0 where
  pub number : ℕ
  pub stands : slice_get all number ≡ Some x
  pub least : (i : ℕ) (y : Lost) → slice_get all i ≡ Some y → Precedes y x → ⊥
  pub earlier : (i : ℕ) (y : Lost) → i < number → slice_get all i ≡ Some y → Precedes x y

abbrev pub OneFirstLoss : Type 0
OneFirstLoss = (all : List Lost) (x y : Lost) → IsFirstLost all x → IsFirstLost all y → x ≡ y

-- ---- 18: dependences

-- what a plan tells of what is crossed: the pair, or that there is none
abbrev pub TellsLost : (Crosses : DepKind → (first second : SiteAt) → Type 0) → Option DepPair
    → Type 0
TellsLost Crosses None =
    (kind : DepKind) (first second : SiteAt) → Crosses kind first second → ⊥
TellsLost Crosses (Some x) = Crosses x.kind x.first x.second

-- ---- in the order in which they are asked

module _ (p : Program Span) (t : Transform) where
  abbrev pub Overrides : Refusal → Type 0
  Overrides r = (k : ClassKey) × (m : MethodKey) × IsFirstChange p.rows (images_in t) k m
      × (r ≡ override_changed k m)

  abbrev pub KeepsDispatch : Type 0
  KeepsDispatch =
      (k : ClassKey) (m : MethodKey) → ChangesDispatch p.rows (images_in t) k m → ⊥

  abbrev pub Loses : Refusal → Type 0
  Loses r = (to : Transformed p t) × (x : Lost) × IsFirstLost (all_lost to.files to.also_lost) x
      × (r ≡ lost_binding
      (record { file = x.file; at = x.loss.at }) x.loss.declaration x.loss.found)

  -- the image of a declaration that has a row
  abbrev pub row_image : Decl → Decl
  row_image (class_decl k) = class_decl ((images_in t).class_to k)
  row_image (field_decl k) = field_decl ((images_in t).field_to k)
  row_image (method_decl k) = method_decl ((images_in t).method_to k)
  row_image (constructor_decl k) = constructor_decl ((images_in t).ctor_to k)
  row_image (local_decl k) = local_decl (record {
    member = image_of_member (images_in t) k.member;
    number = k.number;
  })

  -- each declaration that becomes another, with that one, in the order of the rows
  abbrev pub pairs_of : List (Decl × Decl)
  pairs_of = map (λ (r : Row). (r.decl, row_image r.decl))
      (filter (λ (r : Row). not (same_decl r.decl (row_image r.decl))) p.rows)

-- what is found says that none of its own reasons applies
module _ (p : Program Span) (f : Refactoring) where
  pub data IsRefused (r : Refusal) : Type 0 where
    by_itself : f.Refuses r → IsRefused r
    overrides : (x : f.Found) → Overrides p (f.transform x) r → IsRefused r
    loses : (x : f.Found) → KeepsDispatch p (f.transform x) → Loses p (f.transform x) r
        → IsRefused r

  -- what is planned, where it isn't refused
  pub record IsPlanned (edits : List (List Entry)) (renaming : List (Decl × Decl)) (respelled : ℕ)
      : Type 0 where
    pub found : f.Found
    pub dispatch : KeepsDispatch p (f.transform found)
    pub becomes : Transformed p (f.transform found)
    pub kept_all : all_lost becomes.files becomes.also_lost ≡ []
    pub edits_are : edits ≡ edits_of becomes.files
    pub renaming_is : renaming ≡ pairs_of p (f.transform found)
    pub respelled_is : respelled
        ≡ sum_by (λ (o : Rewritten (syntax.Unit Span)). o.respelled) becomes.files

-- ---- one answer

-- by each of two programs of the same files, in which it is asked so, a step is planned in the same
-- way, or refused for the same reason
pub record HasOnePlan (p q : Program Span) (f h : Refactoring) : Type 0 where
  pub plans : (edits others : List (List Entry)) (renaming pairs : List (Decl × Decl))
      (respelled count : ℕ) → IsPlanned p f edits renaming respelled
      → IsPlanned q h others pairs count
      → (edits ≡ others) × (renaming ≡ pairs) × (respelled ≡ count)
  pub refusals : (r s : Refusal) → IsRefused p f r → IsRefused q h s → r ≡ s
  pub apart : (edits : List (List Entry)) (renaming : List (Decl × Decl)) (respelled : ℕ)
      (r : Refusal) → IsPlanned p f edits renaming respelled → IsRefused q h r → ⊥
  -- and one pair of sites is lost
  pub crossings : (x : f.Found) (y : h.Found) (k l : DepKind) (i j m n : SiteAt)
      → (f.transform x).Crosses k i j → (h.transform y).Crosses l m n
      → (k ≡ l) × (i ≡ m) × (j ≡ n)
  pub crossed : (x : f.Found) (y : h.Found) (k : DepKind) (i j : SiteAt)
      → (f.transform x).Crosses k i j → (h.transform y).Crosses k i j
