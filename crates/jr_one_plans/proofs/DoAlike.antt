-- One step has one plan, or is refused for one reason: what a refactoring whose regions are alike
-- shows for that.
use Rattle.std.proofs.Common.{◌≡◌, ℕ, List, [], true, map, filter, not, sym, ap, subst}
use Rattle.jr_text.specs.declared.spans.Span.{Span}
use Rattle.jr_sync.specs.declared.sites.DepKind.{DepKind}
use Rattle.jr_table.specs.Decls.{MemberKey, Decl, class_decl, field_decl, method_decl, constructor_decl, local_decl}
use Rattle.jr_table.specs.SameDecls.{same_decl}
use Rattle.jr_table.specs.Rows.{Row}
use Rattle.jr_table.specs.DeclaredItems.{declarations_of}
use Rattle.jr_table.specs.LookupLaws.{KeysFound, OneAnswer}
use Rattle.jr_table.specs.BindingLaws.{AreBound}
use Rattle.jr_names.specs.Refusals.{Refusal}
use Rattle.jr_names.specs.Sites.{SiteAt}
use Rattle.jr_members.specs.WrittenLaws.{MembersAreWritten}
use Rattle.jr_bind.specs.Bounds.{Bound}
use Rattle.jr_bind.specs.Programs.{Program, units_of}
use Rattle.jr_bind.specs.SuperPlaces.{writes_super}
use Rattle.jr_program_laws.specs.FileParts.{begins}
use Rattle.jr_program_laws.proofs.MeansOnce.{declares_once}
use Rattle.jr_images.specs.Regions.{Images, image_of_member}
use Rattle.jr_plan.specs.Transforms.{Lost, Transform, Transformed, Refactoring, choosing_of}
use Rattle.jr_plan.specs.Reasons.{images_in, ChangesDispatch, KeepsDispatch, row_image, pairs_of, HasOnePlan}
use Rattle.jr_plan.proofs.Alone as alone
use Rattle.jr_one_plans.proofs.WordsOnce.{SeenOnce}
use Rattle.jr_one_plans.proofs.Like.{Made, AreLike}
use Rattle.jr_one_plans.proofs.RegionsAgree.{regions_agree}
use Rattle.jr_one_plans.proofs.OneSpot.{SpottedAgree}
use Rattle.jr_one_plans.proofs.OneFile.{files_one}
use Rattle.jr_one_plans.proofs.OneDispatch.{one_change}
use Rattle.jr_one_plans.proofs.Beside.{beside, IsWhole, super_same}

-- what two transforms make alike
pub record MakeAlike (t u : Transform) : Type 0 where
  pub regions : AreLike t.region u.region
  pub seen : SeenOnce t.region.seen
  pub spots : (n : ℕ) → SpottedAgree (t.spots n) (u.spots n)
  pub lost : (a b : List Lost) → t.AlsoLost a → u.AlsoLost b → a ≡ b

-- what is found alike, and refused alike
pub record FindAlike (f h : Refactoring) : Type 0 where
  pub own : (r s : Refusal) → f.Refuses r → h.Refuses s → r ≡ s
  pub found_there : (r : Refusal) → f.Refuses r → h.Found → ⊥
  pub found_here : (r : Refusal) → h.Refuses r → f.Found → ⊥
  pub make : (x : f.Found) (y : h.Found) → MakeAlike (f.transform x) (h.transform y)
  pub crossings : (x : f.Found) (y : h.Found) (k l : DepKind) (i j m n : SiteAt) → (f.transform x).Crosses k i j → (h.transform y).Crosses l m n → (k ≡ l) × (i ≡ m) × (j ≡ n)
  pub crossed : (x : f.Found) (y : h.Found) (k : DepKind) (i j : SiteAt) → (f.transform x).Crosses k i j → (h.transform y).Crosses k i j

module _ (p : Program Span) (s : MemberKey → ℕ) (bs : List Bound) (t u : Transform) (made : images_in t ≡ images_in u) where
  -- ---- what becomes of rows

  member_same : (k : MemberKey) → image_of_member (images_in t) k ≡ image_of_member (images_in u) k
  member_same k = ap (λ (m : Images). image_of_member m k) made

  row_same : (d : Decl) → row_image p t d ≡ row_image (beside p s bs) u d
  row_same (class_decl k) = λ i. class_decl ((made i).class_to k)
  row_same (field_decl k) = λ i. field_decl ((made i).field_to k)
  row_same (method_decl k) = λ i. method_decl ((made i).method_to k)
  row_same (constructor_decl k) = λ i. constructor_decl ((made i).ctor_to k)
  row_same (local_decl k) = λ i. local_decl (record { member = member_same k.member i; number = k.number })

  pub pairs_same : pairs_of p t ≡ pairs_of (beside p s bs) u
  pairs_same = ap (λ (f : Decl → Decl). map (λ (r : Row). (r.decl, f r.decl)) (filter (λ (r : Row). not (same_decl r.decl (f r.decl))) p.rows)) (λ i d. row_same d i)

  -- ---- dispatch

  pub keep_same : KeepsDispatch p t → KeepsDispatch (beside p s bs) u
  keep_same keeps k m c = keeps k m (subst (λ (z : Images). ChangesDispatch p.rows z k m) (sym made) c)

module _ (keys : KeysFound) (one : OneAnswer) (bindings : AreBound Span) (written : MembersAreWritten Span) (p : Program Span) (s : MemberKey → ℕ) (bs : List Bound) (is : IsWhole p) (also : IsWhole (beside p s bs)) where
  -- ---- files

  pub files_same : (t u : Transform) → MakeAlike t u → (a : Transformed p t) (b : Transformed (beside p s bs) u) → a.files ≡ b.files
  files_same t u alike a b =
      files_one (λ k part. writes_super part ≡ true → p.super_at k ≡ s k) (choosing_of p t) (choosing_of (beside p s bs) u)
      (regions_agree p.rows is.are_rows (one p.rows is.are_rows) (bindings p.rows is.are_rows (keys p.rows is.are_rows)) t.region alike.seen u.region alike.regions p.super_at s)
      (declarations_of begins (units_of p)) (declares_once [] (declarations_of begins (units_of p)) is.clean) (units_of p) t.spots u.spots alike.spots
      (λ n v stands k base part writes. super_same written p s bs is also n k base part (record { unit = v; stands = stands; writes = writes })) a.files b.files a.rewritten b.rewritten

  -- ---- so there is one plan

  module _ (f h : Refactoring) (alike : FindAlike f h) where
    images : (x : f.Found) (y : h.Found) → images_in (f.transform x) ≡ images_in (h.transform y)
    images x y = ap (λ (m : Made Span). m.images) (alike.make x y).regions.made

    do_alike : alone.DoAlike p (beside p s bs) f h
    do_alike = record {
      own = alike.own;
      found_there = alike.found_there;
      found_here = alike.found_here;
      first = λ x y k l m n a b. one_change p.rows (images_in (f.transform x)) (images_in (h.transform y)) (images x y) k l m n a b;
      keep_there = λ x y keeps. keep_same p s bs (f.transform x) (h.transform y) (images x y) keeps;
      keep_here = λ x y keeps k m c. keeps k m (subst (λ (z : Images). ChangesDispatch p.rows z k m) (images x y) c);
      files = λ x y a b. files_same (f.transform x) (h.transform y) (alike.make x y) a b;
      lost = λ x y a b. (alike.make x y).lost a.also_lost b.also_lost a.also b.also;
      pairs = λ x y. pairs_same p s bs (f.transform x) (h.transform y) (images x y);
      crossings = alike.crossings;
      crossed = alike.crossed;
    }

    pub one_plan : HasOnePlan p (beside p s bs) f h
    one_plan = alone.one_plan p (beside p s bs) f h do_alike
