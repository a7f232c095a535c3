-- What is answered, put together from what the calls below answer.
use Rattle.std.proofs.Common.{◌≡◌, ℕ, ◌<◌, List, Option, Some, None, refl, sym, ap, subst, ◌∙◌, inl, inr, length, arith}
use Rattle.std.specs.Prelude.{slice_get, option_map}
use Rattle.std.proofs.lemmas.List.{append-nil}
use Rattle.std.proofs.lemmas.Option.{slice_get-map, slice_get_cases}
use Rattle.jr_text.specs.declared.spans.Span.{Span}
use Rattle.jr_text.specs.Edits.{Entry}
use Rattle.jr_ast.specs.MemberTree as syntax
use Rattle.jr_grammar.specs.Reads.{Reads}
use Rattle.jr_table.specs.Keys.{ClassKey, MethodKey}
use Rattle.jr_table.specs.Decls.{Decl}
use Rattle.jr_table.specs.Rows.{Row}
use Rattle.jr_table.specs.Context.{Context}
use Rattle.jr_table.specs.DeclaredItems.{declarations_of}
use Rattle.jr_names.specs.Refusals.{Refusal, prelude_method, override_changed, lost_binding}
use Rattle.jr_names.specs.Replies.{Outcome, planned, not_planned}
use Rattle.jr_images.proofs.Imaging.{map_some}
use Rattle.jr_bind.specs.Programs.{File, Program, IsProgram, units_of}
use Rattle.jr_program_laws.specs.FileParts.{begins}
use Rattle.jr_rewrite.specs.Respellings.{Loss}
use Rattle.jr_rewrite.specs.Rewritten.{Rewritten}
use Rattle.jr_rewrite.specs.Rewrites.{RewritesUnits}
use Rattle.jr_images.specs.Images.{Renaming}
use Rattle.jr_images.specs.Refusals.{HasPreludeMethod, ChangesPrelude}
use Rattle.jr_images.specs.Renames.{Renames, Rewrite, pairs_of, OfPrelude, Clashes}
use Rattle.jr_images.specs.Regions.{Region, images_of}
use Rattle.jr_images.specs.Spelling.{choosing}
use Rattle.jr_new_words.specs.Mappings as mappings
use Rattle.jr_new_words.specs.Mappings.{Mapping}
use Rattle.jr_new_words.proofs.Images.{region_is}
use Rattle.jr_grammar.specs.Layout.{itself}
use Rattle.jr_plan.specs.Transforms.{Lost, kept_from}
use Rattle.jr_plan.specs.Reasons.{IsFirstChange, IsFirstLost, Overrides, IsRefused, by_itself, overrides, loses as loses_one}
use Rattle.jr_plan.specs.Renaming.{rename_of, renaming}
use Rattle.jr_plan.proofs.Rename.{rewrite_to, none_lost, same_pairs}
use Rattle.jr_plan.proofs.RenameLost.{lost_in, first_lost}
use Rattle.jr_new_files.specs.FileLaws.{AllRewritten}
use Rattle.jr_new_files.specs.Rewritings.{IsRewriting}
use Rattle.jr_cursor.specs.ProgramTargets.{HasTargetAt}
use Rattle.jr_rename.specs.Afters.{PlansRows, AnswersRows}
use Rattle.jr_rename.specs.Answers.{Gives, SparesPrelude, AnswersKeeping, AnswersOf, Answers}
use Rattle.jr_rename.specs.Plans.{Plans}

pub there : {X : Type 0} (xs : List X) (i : ℕ) → i < length xs → (x : X) × (slice_get xs i ≡ Some x)
there xs i h =
    elim (slice_get_cases xs i).1 [
      | inl found ↦ (found.0, found.2)
      | inr past ↦ absurd (omega (arith, h, past.0))
    ]

-- with the pairs of the same rows
pub pairs_along : (n : Renaming) (rs qs : List Row) (o : Outcome) (edits : List (List Entry)) (respelled : ℕ) → o ≡ planned edits (pairs_of rs n) respelled None → rs ≡ qs
    → o ≡ planned edits (pairs_of qs n) respelled None
pairs_along n rs qs o edits respelled e same = e ∙ ap (λ (rows : List Row). planned edits (pairs_of rows n) respelled None) same

module _ (p : Program Span) where
  -- ---- what comes of a renaming

  module _ (g : Renaming) (m : Mapping) (by : m.keys ≡ mappings.renamed g) (stay : m.locals ≡ mappings.all_stay) (edits : List (List Entry)) (respelled : ℕ) (lost : Option (ℕ × Loss)) where
    -- what the mapping of a rename makes, the rename makes
    rewritten : (files : List (Rewritten (syntax.Unit Span))) → AllRewritten itself p.rows p.super_at (units_of p) m files → Rewrite itself p.rows p.super_at (units_of p) g files
    rewritten files are =
        let same : m ≡ record { keys = mappings.renamed g; locals = mappings.all_stay; new = m.new } = (λ i. record { keys = by i; locals = stay i; new = m.new }) in
        subst (λ (r : Region Span). RewritesUnits itself (choosing begins p.rows r (λ (c : Context). p.super_at c.member)) (declarations_of begins (units_of p)) (units_of p) files) (region_is p.rows g m.new)
        (subst (λ (x : Mapping). AllRewritten itself p.rows p.super_at (units_of p) x files) same are)

    pub loses : IsRewriting p m edits respelled lost → (file : ℕ) (l : Loss) → lost ≡ Some (file, l) → AnswersKeeping p g (not_planned (lost_binding (record { file = file; at = l.at }) l.declaration l.found))
    loses w file l e = (
      rewrite_to p g w.files (rewritten w.files w.are),
      lost_in file l,
      subst (λ (all : List Lost). IsFirstLost all (lost_in file l)) (sym (append-nil (kept_from 0 w.files))) (first_lost w.files file l (w.first file l e)),
      refl,
    )

    pub loses_nothing : IsRewriting p m edits respelled lost → lost ≡ None → AnswersKeeping p g (planned edits (pairs_of p.rows g) respelled None)
    loses_nothing w e = (record { files = w.files; rewrite = rewritten w.files w.are; kept = w.none e; edits_are = w.edits_are; respelled_is = w.respelled_is }, refl, refl)

  pub overridden : (g : Renaming) (k : ClassKey) (m : MethodKey) → IsFirstChange p.rows (images_of p.rows g) k m → AnswersOf p g (not_planned (override_changed k m))
  overridden g k m h = inl (override_changed k m, refl, (k, m, h, refl))

  -- ---- what comes of a target

  pub told : (d : Decl) (new : List ℕ) (g : Renaming) (text : List ℕ) → Gives p d new g → ChangesPrelude p.rows d new text → Answers p d new (not_planned (prelude_method text))
  told d new g text gives h = (g, gives, inl (prelude_method text, refl, (text, h, refl)))

  pub spares : (d : Decl) (new : List ℕ) → ((text : List ℕ) → ChangesPrelude p.rows d new text → ⊥) → SparesPrelude p d new
  spares d new none q (text, change, is) = none text change

  pub no_method : (d : Decl) (new : List ℕ) → SparesPrelude p d new → (text : List ℕ) → HasPreludeMethod p.rows d text → ⊥
  no_method d new none text h = none (prelude_method text) (text, inl h, refl)

  pub reads : {tells : Span → ℕ → Span} {Fits : Span → ℕ → Type 0} → IsProgram tells Fits p → (file : ℕ) (unit : syntax.Unit Span) → slice_get (units_of p) file ≡ Some unit → (bytes : List ℕ) × Reads bytes unit
  reads h file unit e =
      let f = map_some (λ (x : File Span). x.unit) (slice_get p.files file) unit (sym (slice_get-map (λ (x : File Span). x.unit) p.files file) ∙ e) in
      let r = h.reads file f.0 f.1 in
      (f.0.text, subst (Reads f.0.text) f.2 (record { items = r.items; lexes = r.lexes; is = r.is }))

  -- ---- what is planned

  module _ (file at : ℕ) (new : List ℕ) (d : Decl) (has : HasTargetAt p file at d) where
    named : (g : Renaming) → Gives p d new g → (f : File Span) → slice_get p.files file ≡ Some f → Renames itself p.rows p.super_at (units_of p) f.text file at new d g
    named g gives f s = record { target = has f s; renamed = gives.renamed; name = gives.name }

    refused : (r : Refusal) → Answers p d new (not_planned r) → (f : File Span) → slice_get p.files file ≡ Some f → IsRefused p (renaming p f.text file at new) r
    refused r (g, gives, inl (q, e, h)) f s =
        let same : q ≡ r = cc in by_itself (inr (d, g, named g gives f s, inl (subst (λ (x : Refusal). OfPrelude itself p.rows p.super_at (units_of p) d new x) same h)))
    refused r (g, gives, inr (none, inl (q, e, h))) f s =
        let same : q ≡ r = cc in by_itself (inr (d, g, named g gives f s, inr (none, subst (λ (x : Refusal). Clashes itself p.rows p.super_at (units_of p) d new x) same h)))
    refused r (g, gives, inr (none, inr (clear, inl (q, e, h)))) f s =
        let same : q ≡ r = cc in overrides (record { target = d; g = g; renames = named g gives f s; no_prelude = none; clear = clear }) (subst (λ (x : Refusal). Overrides p (rename_of p g) x) same h)
    refused r (g, gives, inr (none, inr (clear, inr (keeps, h)))) f s = loses_one (record { target = d; g = g; renames = named g gives f s; no_prelude = none; clear = clear }) keeps h

    pub plans : (o : Outcome) → Answers p d new o → Plans p file at new o
    plans (planned edits renaming respelled lost) (g, gives, inl (q, e, h)) = absurd cc
    plans (planned edits renaming respelled lost) (g, gives, inr (none, inl (q, e, h))) = absurd cc
    plans (planned edits renaming respelled lost) (g, gives, inr (none, inr (clear, inl (q, e, h)))) = absurd cc
    plans (planned edits renaming respelled lost) (g, gives, inr (none, inr (clear, inr (keeps, (w, pairs, nothing))))) = (
      nothing,
      λ f s. record {
        found = record { target = d; g = g; renames = named g gives f s; no_prelude = none; clear = clear };
        dispatch = keeps;
        becomes = rewrite_to p g w.files w.rewrite;
        kept_all = append-nil (kept_from 0 w.files) ∙ none_lost 0 w.files w.kept;
        edits_are = w.edits_are;
        renaming_is = pairs ∙ sym (same_pairs p g);
        respelled_is = w.respelled_is;
      },
    )
    plans (not_planned r) h = refused r h

    -- its new rows have the property
    pub plans_rows : (o : Outcome) (P : List Row → Type 0) → AnswersRows p d new o P → PlansRows p file at new o P
    unfolding plans
    plans_rows (planned edits renaming respelled lost) P ((g, gives, inl (q, e, h)), kept, is) = absurd cc
    plans_rows (planned edits renaming respelled lost) P ((g, gives, inr (none, inl (q, e, h))), kept, is) = absurd cc
    plans_rows (planned edits renaming respelled lost) P ((g, gives, inr (none, inr (clear, inl (q, e, h)))), kept, is) = absurd cc
    plans_rows (planned edits renaming respelled lost) P ((g, gives, inr (none, inr (clear, inr (keeps, (w, pairs, nothing))))), kept, is) =
        λ f s. ((plans (planned edits renaming respelled lost) (g, gives, inr (none, inr (clear, inr (keeps, (w, pairs, nothing)))))).1 f s, kept, is)
    plans_rows (not_planned r) P h = tt
