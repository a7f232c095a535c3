-- One step has one plan, or is refused for one reason: what a refactoring shows for that.
use Rattle.std.proofs.Common.{◌≡◌, ℕ, List, [], Some, refl, sym, ap, ◌∙◌, subst, sum_by}
use Rattle.std.specs.Prelude.{slice_get}
use Rattle.jr_text.specs.declared.spans.Span.{Span}
use Rattle.jr_text.specs.Edits.{Entry}
use Rattle.jr_ast.specs.MemberTree as syntax
use Rattle.jr_sync.specs.declared.sites.DepKind.{DepKind}
use Rattle.jr_table.specs.Keys.{ClassKey, MethodKey}
use Rattle.jr_table.specs.Decls.{Decl}
use Rattle.jr_names.specs.Refusals.{Refusal, override_changed, lost_binding}
use Rattle.jr_names.specs.Sites.{SiteAt}
use Rattle.jr_bind.specs.Programs.{Program}
use Rattle.jr_rewrite.specs.Rewritten.{Rewritten}
use Rattle.jr_plan.specs.Transforms.{Lost, Transformed, Refactoring, edits_of, all_lost}
use Rattle.jr_plan.specs.Reasons.{images_in, IsFirstChange, IsFirstLost, Overrides, KeepsDispatch, Loses, pairs_of, IsRefused, by_itself, overrides, loses, IsPlanned, HasOnePlan}
use Rattle.jr_plan.proofs.FirstLoss.{one_first}

nothing_stands : (n : ℕ) (x : Lost) → (let none : List Lost = [] in slice_get none n ≡ Some x) → ⊥
nothing_stands n x e = cc

-- by two programs the same is refused by the refactoring's own reasons, and what is found makes the
-- same of both
pub record DoAlike (p q : Program Span) (f h : Refactoring) : Type 0 where
  pub own : (r s : Refusal) → f.Refuses r → h.Refuses s → r ≡ s
  pub found_there : (r : Refusal) → f.Refuses r → h.Found → ⊥
  pub found_here : (r : Refusal) → h.Refuses r → f.Found → ⊥
  pub first : (x : f.Found) (y : h.Found) (k l : ClassKey) (m n : MethodKey) → IsFirstChange p.rows (images_in (f.transform x)) k m → IsFirstChange q.rows (images_in (h.transform y)) l n → (k ≡ l) × (m ≡ n)
  pub keep_there : (x : f.Found) (y : h.Found) → KeepsDispatch p (f.transform x) → KeepsDispatch q (h.transform y)
  pub keep_here : (x : f.Found) (y : h.Found) → KeepsDispatch q (h.transform y) → KeepsDispatch p (f.transform x)
  pub files : (x : f.Found) (y : h.Found) (a : Transformed p (f.transform x)) (b : Transformed q (h.transform y)) → a.files ≡ b.files
  pub lost : (x : f.Found) (y : h.Found) (a : Transformed p (f.transform x)) (b : Transformed q (h.transform y)) → a.also_lost ≡ b.also_lost
  pub pairs : (x : f.Found) (y : h.Found) → pairs_of p (f.transform x) ≡ pairs_of q (h.transform y)
  pub crossings : (x : f.Found) (y : h.Found) (k l : DepKind) (i j m n : SiteAt) → (f.transform x).Crosses k i j → (h.transform y).Crosses l m n → (k ≡ l) × (i ≡ m) × (j ≡ n)
  pub crossed : (x : f.Found) (y : h.Found) (k : DepKind) (i j : SiteAt) → (f.transform x).Crosses k i j → (h.transform y).Crosses k i j

module _ (p q : Program Span) (f h : Refactoring) (alike : DoAlike p q f h) where
  all_same : (x : f.Found) (y : h.Found) (a : Transformed p (f.transform x)) (b : Transformed q (h.transform y)) → all_lost a.files a.also_lost ≡ all_lost b.files b.also_lost
  all_same x y a b =
      let files = alike.files x y a b in
      let also = alike.lost x y a b in
      λ i. all_lost (files i) (also i)

  plans : (edits others : List (List Entry)) (renaming pairs : List (Decl × Decl)) (respelled count : ℕ) → IsPlanned p f edits renaming respelled → IsPlanned q h others pairs count → (edits ≡ others) × (renaming ≡ pairs) × (respelled ≡ count)
  plans edits others renaming pairs respelled count a b =
      let files = alike.files a.found b.found a.becomes b.becomes in (
        a.edits_are ∙ ap edits_of files ∙ sym b.edits_are,
        a.renaming_is ∙ alike.pairs a.found b.found ∙ sym b.renaming_is,
        a.respelled_is ∙ ap (sum_by (λ (o : Rewritten (syntax.Unit Span)). o.respelled)) files ∙ sym b.respelled_is,
      )

  changes_none : (x : f.Found) (r : Refusal) → Overrides p (f.transform x) r → KeepsDispatch p (f.transform x) → ⊥
  changes_none x r a keeps = keeps a.0 a.1 a.2.changes

  changes_no_more : (y : h.Found) (r : Refusal) → Overrides q (h.transform y) r → KeepsDispatch q (h.transform y) → ⊥
  changes_no_more y r a keeps = keeps a.0 a.1 a.2.changes

  one_lost : (x : f.Found) (y : h.Found) (r s : Refusal) → Loses p (f.transform x) r → Loses q (h.transform y) s → r ≡ s
  one_lost x y r s a b =
      let same : a.1 ≡ b.1 = one_first (all_lost b.0.files b.0.also_lost) a.1 b.1 (subst (λ all. IsFirstLost all a.1) (all_same x y a.0 b.0) a.2) b.2 in
      a.3 ∙ ap (λ (z : Lost). lost_binding (record { file = z.file; at = z.loss.at }) z.loss.declaration z.loss.found) same ∙ sym b.3

  refusals : (r s : Refusal) → IsRefused p f r → IsRefused q h s → r ≡ s
  refusals r s (by_itself a) (by_itself b) = alike.own r s a b
  refusals r s (by_itself a) (overrides y b) = absurd (alike.found_there r a y)
  refusals r s (by_itself a) (loses y keeps b) = absurd (alike.found_there r a y)
  refusals r s (overrides x a) (by_itself b) = absurd (alike.found_here s b x)
  refusals r s (overrides x a) (overrides y b) =
      let same = alike.first x y a.0 b.0 a.1 b.1 a.2 b.2 in
      a.3 ∙ (λ i. override_changed (same.0 i) (same.1 i)) ∙ sym b.3
  refusals r s (overrides x a) (loses y keeps b) = absurd (changes_none x r a (alike.keep_here x y keeps))
  refusals r s (loses x keeps a) (by_itself b) = absurd (alike.found_here s b x)
  refusals r s (loses x keeps a) (overrides y b) = absurd (changes_no_more y s b (alike.keep_there x y keeps))
  refusals r s (loses x keeps a) (loses y also b) = one_lost x y r s a b

  apart : (edits : List (List Entry)) (renaming : List (Decl × Decl)) (respelled : ℕ) (r : Refusal) → IsPlanned p f edits renaming respelled → IsRefused q h r → ⊥
  apart edits renaming respelled r a (by_itself b) = alike.found_here r b a.found
  apart edits renaming respelled r a (overrides y b) = changes_no_more y r b (alike.keep_there a.found y a.dispatch)
  apart edits renaming respelled r a (loses y keeps b) =
      nothing_stands b.2.number b.1 (subst (λ xs. slice_get xs b.2.number ≡ Some b.1) (sym (all_same a.found y a.becomes b.0) ∙ a.kept_all) b.2.stands)

  pub one_plan : HasOnePlan p q f h
  one_plan = record { plans = plans; refusals = refusals; apart = apart; crossings = alike.crossings; crossed = alike.crossed }
