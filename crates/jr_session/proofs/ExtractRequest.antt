-- An extraction of a local as a request: it is planned in one way, and tells places in files of the
-- session.
use Rattle.std.proofs.Common.{◌≡◌, ◌⊎◌, ◌<◌, ℕ, zero, suc, ◌+◌, List, [], ◌∷◌, ◌++◌, length, map, sym, ap, subst, ◌∙◌, inl, inr, arith}
use Rattle.std.specs.Prelude.{Some, slice_get}
use Rattle.std.proofs.lemmas.Option.{none-some, same_Some}
use Rattle.jr_text.specs.declared.spans.Span.{Span}
use Rattle.jr_text.specs.Edits.{Entry}
use Rattle.jr_ast.specs.MemberTree as syntax
use Rattle.jr_sync.specs.declared.sites.DepKind.{DepKind}
use Rattle.jr_names.specs.Refusals.{Refusal}
use Rattle.jr_names.specs.Sites.{SiteAt}
use Rattle.jr_bind.specs.Programs.{File, Program, units_of}
use Rattle.jr_rewrite.specs.Rewritten.{Rewritten}
use Rattle.jr_local.specs.Extracted.{extract_local}
use Rattle.jr_local_plans.specs.OnePlan.{ExtractIsOne}
use Rattle.jr_plan.specs.Reasons.{IsRefused, by_itself, overrides, loses}
use Rattle.jr_plan.specs.Transforms.{Lost, made, kept_from}
use Rattle.jr_plan.proofs.RenameLost.{lost_file}
use Rattle.jr_rewrite.specs.Respellings.{Loss}
use Rattle.jr_session.specs.Asked.{extract}
use Rattle.jr_session.specs.Refactored.{IsPosed, IsPlan, transform_of}
use Rattle.jr_session.specs.States.{State}
use Rattle.jr_session.proofs.OneRefactoring.{IsPlannedOnce}
use Rattle.jr_session.proofs.RefactoredFiles.{TellsItsOwn, in_files, of_program}
use Rattle.jr_session.proofs.NewTrees.{many_units}
use Rattle.jr_session.proofs.Telling.{TellsIn}

pub extract_once : ExtractIsOne → (file : List ℕ) (from to : ℕ) (new : List ℕ) → IsPlannedOnce (extract file from to new)
extract_once law file from to new p q is also same number f stands name = law p q is also same number from to new

split_at : (xs ys : List Lost) (i : ℕ) (x : Lost) → slice_get (xs ++ ys) i ≡ Some x → ((j : ℕ) × (slice_get xs j ≡ Some x)) ⊎ ((j : ℕ) × (slice_get ys j ≡ Some x))
split_at [] ys i x e = inr (i, e)
split_at (z ∷ xs) ys zero x e = inl (zero, e)
split_at (z ∷ xs) ys (suc i) x e = elim (split_at xs ys i x e) [
  | inl h ↦ inl (suc h.0, h.1)
  | inr h ↦ inr h
]

made_file : (number : ℕ) (ls : List Loss) (i : ℕ) (x : Lost) → slice_get (map (λ (l : Loss). record { origin = made; file = number; loss = l }) ls) i ≡ Some x → x.file ≡ number
made_file number [] i x e = absurd (none-some x e)
made_file number (l ∷ ls) zero x e = sym (ap (λ (y : Lost). y.file) (same_Some (record { origin = made; file = number; loss = l }) x e))
made_file number (l ∷ ls) (suc i) x e = made_file number ls i x e

module _ (s : State) (file : List ℕ) (from to : ℕ) (new : List ℕ) where
  planned_places : (p : Program Span) (number : ℕ) (text : List ℕ) (r : Refusal) → IsPosed s (extract file from to new) p number text → IsRefused p (extract_local p number from to new) r → TellsIn (length s.files) r
  planned_places p number text r posed (by_itself (inl h)) =
      let own : number < length s.files = in_files s.files number file text posed.asked.stands in subst (TellsIn (length s.files)) (sym h.1) own
  planned_places p number text r posed (by_itself (inr (inl (x, at, bar, e)))) =
      let own : number < length s.files = in_files s.files number file text posed.asked.stands in subst (TellsIn (length s.files)) (sym e) own
  planned_places p number text r posed (by_itself (inr (inr (x, none, k, first, e)))) = subst (TellsIn (length s.files)) (sym e) tt
  planned_places p number text r posed (overrides x h) = subst (TellsIn (length s.files)) (sym h.3) tt
  planned_places p number text r posed (loses x keeps h) =
      let mine : number < length s.files = in_files s.files number file text posed.asked.stands in
      let many = many_units _ _ _ (units_of p) h.0.files h.0.rewritten in
      let few = of_program s.files p posed.program in
      let own : h.1.file < length s.files = elim (split_at (kept_from 0 h.0.files) h.0.also_lost h.2.number h.1 h.2.stands) [
        | inl g ↦ (let there = lost_file h.0.files g.0 h.1 g.1 in omega (arith, there, many, few))
        | inr g ↦ (let is = made_file number x.type.losses g.0 h.1 (subst (λ (all : List Lost). slice_get all g.0 ≡ Some h.1) h.0.also g.1) in omega (arith, is, mine))
      ] in
      subst (TellsIn (length s.files)) (sym h.3) own

  -- each is in the file of the step
  crossed_places : (edits : List (List Entry)) (respelled : ℕ) (plan : IsPlan s (extract file from to new) edits respelled) (kind : DepKind) (first second : SiteAt) → (transform_of s (extract file from to new) plan).Crosses kind first second
      → (first.place.file < length s.files) × (second.place.file < length s.files)
  crossed_places edits respelled plan kind first second pair =
      let own : plan.number < length s.files = in_files s.files plan.number file plan.text plan.posed.asked.stands in
      (subst (λ (x : SiteAt). x.place.file < length s.files) pair.first_is own, subst (λ (x : SiteAt). x.place.file < length s.files) pair.second_is own)

  pub extract_tells : TellsItsOwn s (extract file from to new)
  extract_tells = record {
    refused = λ p number text r posed h. planned_places p number text r posed h;
    crossed = λ edits respelled plan kind first second pair. crossed_places edits respelled plan kind first second pair;
  }
