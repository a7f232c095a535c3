-- What the edits of a plan make of the texts of a program, of each refactoring.
use Rattle.std.proofs.Common.{◌≡◌, ℕ, List, [], ◌∷◌, ◌++◌, map, Some, refl, sym, ap, ◌∙◌, arith}
use Rattle.std.specs.Prelude.{option_map, slice_get}
use Rattle.std.proofs.lemmas.List.{length-map}
use Rattle.std.proofs.lemmas.Option.{slice_get-map, slice_get_within}
use Rattle.jr_text.specs.declared.spans.Span.{Span}
use Rattle.jr_text.specs.Edits.{Entry}
use Rattle.jr_ast.specs.MemberTree.{Unit as UnitTree}
use Rattle.jr_table.specs.Decls.{Decl}
use Rattle.jr_bind.specs.Programs.{File, Program, IsProgram, units_of}
use Rattle.jr_grammar.specs.Layout.{itself}
use Rattle.jr_local.specs.Extracted.{Found, extract_local}
use Rattle.jr_local_texts.specs.Fitting.{ExtractsFit}
use Rattle.jr_plan.specs.Reasons.{IsPlanned}
use Rattle.jr_plan.specs.Transforms.{IsFit, Lost, made, kept_from}
use Rattle.jr_plan.proofs.Planned.{plans_read}
use Rattle.jr_rename_laws.specs.PlanLaws.{NewTextsRead}
use Rattle.jr_rewrite.specs.Edited.{entries_of}
use Rattle.jr_rewrite.specs.Respellings.{Loss}
use Rattle.jr_rewrite.specs.RewriteLaws.{IsRewritten}
use Rattle.jr_rewrite.specs.Rewritten.{Rewritten}
use Rattle.jr_sources.proofs.AllRead.{element}
use Rattle.jr_sources.specs.Whole.{Anywhere}
use Rattle.jr_session.specs.Asked.{rename, extract}
use Rattle.jr_session.specs.PlansRead.{ReadsSo, PlansRead}
use Rattle.jr_session.specs.Requests.{IsGoodName}
use Rattle.jr_session.proofs.NewTrees.{many_units}

pub rename_reads : NewTextsRead → (file : List ℕ) (at : ℕ) (new : List ℕ) → ReadsSo (rename file at new)
rename_reads read file at new p text number edits renaming respelled program name is i f there = read p text number at new edits renaming respelled (record { program = program; name = name; planned = is }) i f there

-- ---- extract local

last_none : {X : Type 0} (xs ys : List X) → xs ++ ys ≡ [] → ys ≡ []
last_none [] ys e = e
last_none (x ∷ xs) ys e = absurd cc

none_of : {X Y : Type 0} (f : X → Y) (xs : List X) → map f xs ≡ [] → xs ≡ []
none_of f [] e = refl
none_of f (x ∷ xs) e = absurd cc

module _ (fit : ExtractsFit) (file : List ℕ) (from to : ℕ) (new : List ℕ) (p : Program Span) (text : List ℕ) (number : ℕ) (edits : List (List Entry)) (renaming : List (Decl × Decl)) (respelled : ℕ)
    (program : IsProgram itself Anywhere p) (name : IsGoodName (extract file from to new).name) (is : IsPlanned p (extract_local p number from to new) edits renaming respelled)
  where
    abbrev found : Found p number from to new
    found = is.found

    -- the type's class isn't lost
    spelled : found.type.losses ≡ []
    spelled = none_of (λ (l : Loss). record { origin = made; file = number; loss = l }) found.type.losses (sym is.becomes.also ∙ last_none (kept_from 0 is.becomes.files) is.becomes.also_lost is.kept_all)

    is_fit : IsFit p ((extract_local p number from to new).transform found)
    is_fit =
        let f = fit p program number from to new name found spelled in
        record { sound = f.sound; named = f.named; spots = f.spots; fronted = f.fronted; apart = f.apart }

pub extract_reads : ExtractsFit → (file : List ℕ) (from to : ℕ) (new : List ℕ) → ReadsSo (extract file from to new)
extract_reads fit file from to new p text number edits renaming respelled program name is i f there =
    let many = many_units _ _ _ (units_of p) is.becomes.files is.becomes.rewritten ∙ length-map p.files (λ (x : File Span). x.unit) in
    let lt = slice_get_within p.files i f there in
    let o = element is.becomes.files i (omega (arith, lt, many)) in
    let fits = is_fit fit file from to new p text number edits renaming respelled program name is in
    let r : IsRewritten f.text o.0 = plans_read p ((extract_local p number from to new).transform is.found) fits is.becomes i f o.0 there o.1 (program.reads i f there) in
    let edit : slice_get edits i ≡ Some (entries_of o.0.changes) = ap (λ (l : List (List Entry)). slice_get l i) is.edits_are
    ∙ slice_get-map (λ (x : Rewritten (UnitTree Span)). entries_of x.changes) is.becomes.files i ∙ ap (option_map (λ (x : Rewritten (UnitTree Span)). entries_of x.changes)) o.1 in (
      o.0,
      entries_of o.0.changes,
      o.1,
      edit,
      record { are = r.edits; fits = r.fits; reads = r.reads },
    )

pub reads : NewTextsRead → ExtractsFit → PlansRead
reads read fit = record { renames = rename_reads read; extracts = extract_reads fit }
