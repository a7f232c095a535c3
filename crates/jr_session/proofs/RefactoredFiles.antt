-- A refactoring stays in the files of its session: the names, and the places that its refusals tell.
use Rattle.std.proofs.Common.{◌≡◌, ◌∙◌, ◌<◌, ◌≤◌, ℕ, ap, arith, refl, sym, subst, inl, inr, List, [], ◌∷◌, length}
use Rattle.std.specs.Prelude.{Some, slice_get}
use Rattle.std.proofs.lemmas.List.{length-map}
use Rattle.std.proofs.lemmas.Option.{slice_get_within}
use Rattle.jr_text.specs.declared.spans.Span.{Span}
use Rattle.jr_text.specs.Edits.{Entry}
use Rattle.jr_ast.specs.MemberTree as syntax
use Rattle.jr_ast.specs.MemberTree.{Unit as UnitTree}
use Rattle.jr_bind.specs.Programs.{File, Program, units_of}
use Rattle.jr_rewrite.specs.Rewrites.{Choosing, RewritesUnits}
use Rattle.jr_rewrite.specs.Rewritten.{Rewritten}
use Rattle.jr_table.specs.DeclaredItems.{DeclaredItem}
use Rattle.jr_sync.specs.declared.sites.DepKind.{DepKind}
use Rattle.jr_names.specs.Refusals.{Refusal}
use Rattle.jr_names.specs.Sites.{SiteAt}
use Rattle.jr_plan.specs.Reasons.{IsRefused, by_itself, overrides, loses}
use Rattle.jr_plan.specs.Renaming.{renaming}
use Rattle.jr_plan.specs.Transforms.{Lost}
use Rattle.jr_sources.specs.Sources.{Source, IsFile, HasName, names_of}
use Rattle.jr_sources.specs.Whole.{files_of, IsProgramOf}
use Rattle.jr_session.specs.NewTexts.{with_edits}
use Rattle.jr_session.proofs.Telling.{TellsIn}
use Rattle.jr_plan.proofs.Rename.{rewrite_back, all_kept_lost}
use Rattle.jr_plan.proofs.RenameLost.{lost_file}
use Rattle.jr_session.specs.Asked.{rename}
use Rattle.jr_session.specs.Refactored as why
use Rattle.jr_session.specs.Refactored.{IsPosed, IsPlan, transform_of, RefusesRefactoring, Refactors}
use Rattle.jr_session.specs.Requests.{Request}
use Rattle.jr_session.specs.States.{State}

with_edits_names : (sources : List Source) (edits : List (List Entry)) → names_of (with_edits sources edits) ≡ names_of sources
with_edits_names [] edits = refl
with_edits_names (s ∷ ss) [] = refl
with_edits_names (s ∷ ss) (e ∷ es) = ap (λ ns. s.name ∷ ns) (with_edits_names ss es)

few_files : (sources : List Source) (units : List (UnitTree Span)) → length (files_of sources units) ≤ length sources
few_files [] us = omega arith
few_files (s ∷ ss) [] = omega arith
few_files (s ∷ ss) (u ∷ us) = let few = few_files ss us in omega (arith, few)

as_many : {A : Type 0} (tells : A → ℕ → Span) (C : Choosing A) (declarations : List DeclaredItem) (us : List (syntax.Unit A)) (os : List (Rewritten (syntax.Unit A))) → RewritesUnits tells C declarations us os → length os ≡ length us
as_many tells C declarations [] os h = ap length h
as_many tells C declarations (u ∷ us) os h = let rest = as_many tells C declarations us h.1 h.3 in let all = ap length h.4 in omega (arith, rest, all)

named : (sources : List Source) (number : ℕ) (name : List ℕ) → HasName sources number name → number < length sources
named sources number name has = let within = slice_get_within (names_of sources) number name has in let all = length-map sources (λ (s : Source). s.name) in omega (arith, within, all)

pub in_files : (sources : List Source) (number : ℕ) (name text : List ℕ) → IsFile sources number name text → number < length sources
in_files sources number name text is = slice_get_within sources number (record { name = name; text = text }) is

pub of_program : (sources : List Source) (p : Program Span) → IsProgramOf sources p → length (units_of p) ≤ length sources
of_program sources p is =
    let few = few_files sources is.units in
    let files = ap length is.files in
    let units = length-map p.files (λ (f : File Span). f.unit) in
    omega (arith, few, files, units)

-- ---- of any refactoring

-- its own refusals, and the sites that it crosses, are in files of the session
pub record TellsItsOwn (s : State) (ask : Request) : Type 0 where
  pub refused : (p : Program Span) (number : ℕ) (text : List ℕ) (r : Refusal) → IsPosed s ask p number text → IsRefused p (ask.refactoring p text number) r → TellsIn (length s.files) r
  pub crossed : (edits : List (List Entry)) (respelled : ℕ) (plan : IsPlan s ask edits respelled) (kind : DepKind) (first second : SiteAt) → (transform_of s ask plan).Crosses kind first second
      → (first.place.file < length s.files) × (second.place.file < length s.files)

module _ (s : State) (ask : Request) where
  pub refactored_names : (names : List (List ℕ)) (respelled : ℕ) (t : State) → Refactors s ask names respelled t → names_of t.files ≡ names_of s.files
  refactored_names names respelled t is = ap (λ (u : State). names_of u.files) is.becomes ∙ with_edits_names s.files is.edits

  pub refused_places : TellsItsOwn s ask → (r : Refusal) → RefusesRefactoring s ask r → TellsIn (length s.files) r
  refused_places own r (why.no_file lacks is) = subst (TellsIn (length s.files)) (sym is) tt
  refused_places own r (why.at_no_place number at text stands bad is) = subst (TellsIn (length s.files)) (sym is) tt
  refused_places own r (why.no_name number text name stands can bad is) = subst (TellsIn (length s.files)) (sym is) tt
  refused_places own r (why.wrong number text name place kind asked wrong is) = subst (TellsIn (length s.files)) (sym is) tt
  refused_places own r (why.by_plan p number text posed h) = own.refused p number text r posed h
  refused_places own r (why.long edits respelled len plan h is) = subst (TellsIn (length s.files)) (sym is) tt
  refused_places own r (why.breaks edits respelled number place name kind short has wrong is) =
      let here = named s.files number name has in subst (TellsIn (length s.files)) (sym is) here
  refused_places own r (why.crosses edits respelled whole kind first second pair is) =
      subst (TellsIn (length s.files)) (sym is) (own.crossed edits respelled whole.short.plan kind first second pair)

-- ---- of a rename

module _ (s : State) (file : List ℕ) (at : ℕ) (new : List ℕ) where
  planned_places : (p : Program Span) (number : ℕ) (text : List ℕ) (r : Refusal) → IsPosed s (rename file at new) p number text → IsRefused p (renaming p text number at new) r → TellsIn (length s.files) r
  planned_places p number text r posed (by_itself (inl h)) =
      let own : number < length s.files = in_files s.files number file text posed.asked.stands in subst (TellsIn (length s.files)) (sym h.1) own
  planned_places p number text r posed (by_itself (inr (d, g, of, inl h))) = subst (TellsIn (length s.files)) (sym h.2) tt
  planned_places p number text r posed (by_itself (inr (d, g, of, inr (none, h)))) = subst (TellsIn (length s.files)) (sym h.2) tt
  planned_places p number text r posed (overrides x h) = subst (TellsIn (length s.files)) (sym h.3) tt
  planned_places p number text r posed (loses x keeps h) =
      let there = lost_file h.0.files h.2.number h.1 (subst (λ (all : List Lost). slice_get all h.2.number ≡ Some h.1) (all_kept_lost p x.g h.0) h.2.stands) in
      let many = as_many _ _ _ (units_of p) h.0.files (rewrite_back p x.g h.0) in
      let few = of_program s.files p posed.program in
      let own : h.1.file < length s.files = omega (arith, there, many, few) in
      subst (TellsIn (length s.files)) (sym h.3) own

  pub rename_tells : TellsItsOwn s (rename file at new)
  rename_tells = record {
    refused = λ p number text r posed h. planned_places p number text r posed h;
    crossed = λ edits respelled plan kind first second pair. absurd pair;
  }
