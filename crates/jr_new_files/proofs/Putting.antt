-- What one written member adds to what is gathered of the files.
use Rattle.std.proofs.Common.{◌≡◌, ◌≢◌, ℕ, zero, suc, ◌+◌, ◌<◌, ◌≤◌, ◌==◌, List, [], ◌∷◌, ◌++◌, Option, Some, length, get_or, take, refl, sym, ap, subst, ◌∙◌, inl, inr, arith, eqb-true, eq-eqb}
use Rattle.std.proofs.Math.ListN.{set}
use Rattle.std.proofs.Math.Seq.{take-suc}
use Rattle.std.specs.Prelude.{slice_get, option_map, MatchOption}
use Rattle.std.proofs.lemmas.Bool.{cases_Bool}
use Rattle.std.proofs.lemmas.List.{length-map, length-set}
use Rattle.std.proofs.lemmas.Option.{slice_get-map, slice_get_within, slice_get_cases}
use Rattle.jr_text.specs.declared.spans.Span.{Span}
use Rattle.jr_index.proofs.Setting.{set_here, set_there}
use Rattle.jr_table.specs.Context.{Context}
use Rattle.jr_members.specs.Fitting.{begins_by}
use Rattle.jr_members.specs.WrittenMembers.{WrittenMember, written_members}
use Rattle.jr_table.specs.Decls.{MemberKey}
use Rattle.jr_table.specs.Rows.{Row}
use Rattle.jr_bind.specs.Bounds.{Bound}
use Rattle.jr_bind.specs.Programs.{Program, IsProgram, AreBound, units_of}
use Rattle.jr_program_laws.specs.FileParts.{begins}
use Rattle.jr_new_words.specs.Mappings.{Mapping}
use Rattle.jr_new_words.specs.Spelled.{spelling}
use Rattle.jr_new_bodies.specs.declared.outputs.Output as raw
use Rattle.jr_new_bodies.specs.OutputView.{gathered}
use Rattle.jr_new_bodies.specs.Effects.{Effect, no_effect, both}
use Rattle.jr_new_files.specs.Files.{OneGives, AllGive}
use Rattle.jr_grammar.specs.Layout.{itself}
use Rattle.jr_new_files.specs.Parts.{PartAdds}
use Rattle.jr_new_files.specs.FileEffects.{effects_of, members_of, IsPut, AreNext, AreSoFar}
use Rattle.jr_new_files.proofs.Gathering.{both_nothing, all_join}

same_effect : (a b : Effect) → Some a ≡ Some b → a ≡ b
same_effect a b e = cc

module _ (p : Program Span) (g : Mapping) (w : WrittenMember Span) where
  -- where it is of another file, nothing comes
  other : (file : ℕ) → (w.file ≡ file → ⊥) → (old : List Effect) (e : Effect) → slice_get old file ≡ Some e
      → (d : Effect) × (f : Effect) × (slice_get old file ≡ Some d) × OneGives itself (spelling begins p.rows g (λ (c : Context). p.super_at c.member)) file w f × (e ≡ both d f)
  other file n old e s = (e, no_effect, s, inr (n, refl), sym (both_nothing e))

  -- there is no such file
  pub put_nowhere : (os : List raw.Output) → length os ≤ w.file → IsPut p g w (effects_of os) (effects_of os)
  put_nowhere os past = record {
    as_many = refl;
    each = λ file e s. other file (λ same. absurd (omega (arith, past, same, slice_get_within (effects_of os) file e s, length-map os gathered))) (effects_of os) e s;
  }

  pub put_there : (os : List raw.Output) (old new : raw.Output) → w.file < length os → old ≡ get_or os w.file old → PartAdds p g w (gathered old) (gathered new) → IsPut p g w (effects_of os) (effects_of (set os w.file new))
  put_there os old new inside is (f, gives, adds) = record {
    as_many = length-map (set os w.file new) gathered ∙ length-set os w.file new ∙ sym (length-map os gathered);
    each = λ file e s.
        elim (cases_Bool (file == w.file)) [
          | inl same ↦ (let at : file ≡ w.file = eqb-true file w.file same in
              let both_are = set_here os w.file old new inside is in
              let now : gathered new ≡ e =
              same_effect (gathered new) e (sym (ap (option_map gathered) both_are.0) ∙ sym (slice_get-map gathered (set os w.file new) w.file) ∙ ap (slice_get (effects_of (set os w.file new))) (sym at) ∙ s) in (
                gathered old,
                f,
                ap (slice_get (effects_of os)) at ∙ slice_get-map gathered os w.file ∙ ap (option_map gathered) both_are.1,
                inl (sym at, gives),
                sym now ∙ adds,
              ))
          | inr apart ↦ (let n : file ≢ w.file = (λ at. let t = eq-eqb file w.file at in absurd cc) in
              let there : slice_get (effects_of os) file ≡ Some e =
              slice_get-map gathered os file ∙ ap (option_map gathered) (sym (set_there os w.file file new n)) ∙ sym (slice_get-map gathered (set os w.file new) file) ∙ s in
              other file (λ at. n (sym at)) (effects_of os) e there)
        ];
  }

module _ (p : Program Span) (g : Mapping) where
  -- one more member is put
  pub put_next : (ws : List (WrittenMember Span)) (w : WrittenMember Span) (old new : List Effect) → AreSoFar p g ws old → IsPut p g w old new → AreSoFar p g (ws ++ w ∷ []) new
  put_next ws w old new so put = record {
    as_many = put.as_many ∙ so.as_many;
    each = λ file e s.
        let d = put.each file e s in
        subst (λ (x : Effect). AllGive itself (spelling begins p.rows g (λ (c : Context). p.super_at c.member)) file (ws ++ w ∷ []) x) (sym d.4)
        (all_join (spelling begins p.rows g (λ (c : Context). p.super_at c.member)) itself file ws w d.0 d.1 (so.each file d.0 d.2) d.3);
  }

  -- the first n members are put, and then the one of the number n
  pub put_turn : (n : ℕ) (old new : List Effect) → n < length (members_of p) → AreSoFar p g (take n (members_of p)) old → AreNext p g n old new → AreSoFar p g (take (n + 1) (members_of p)) new
  put_turn n old new inside so next =
      elim (slice_get_cases (members_of p) n).1 [
        | inl found ↦ (let put = subst (λ (o : Option (WrittenMember Span)). MatchOption o (new ≡ old) (λ w. IsPut p g w old new)) found.2 next in
            let more : take (n + 1) (members_of p) ≡ take n (members_of p) ++ found.0 ∷ [] =
            ap (λ k. take k (members_of p)) (let h : n + 1 ≡ suc n = omega arith in h) ∙ take-suc (members_of p) n found.0 inside ∙ ap (λ (x : WrittenMember Span). take n (members_of p) ++ x ∷ []) found.3 in
            subst (λ (ws : List (WrittenMember Span)). AreSoFar p g ws new) (sym more) (put_next (take n (members_of p)) found.0 old new so put))
        | inr past ↦ absurd (omega (arith, inside, past.0))
      ]

  -- nothing is put yet
  pub put_none : (es : List Effect) → length es ≡ length p.files → ((file : ℕ) (e : Effect) → slice_get es file ≡ Some e → e ≡ no_effect) → AreSoFar p g (take 0 (members_of p)) es
  put_none es many each = record { as_many = many; each = each }

-- as many written members as bounds
as_many_bounds : {A : Type 0} (tells : A → ℕ → Span) (Fits : A → ℕ → Type 0) (rows : List Row) (super_at : MemberKey → ℕ) (ws : List (WrittenMember A)) (bs : List Bound) → AreBound tells Fits rows super_at ws bs → length ws ≡ length bs
as_many_bounds tells Fits rows super_at [] [] h = refl
as_many_bounds tells Fits rows super_at [] (b ∷ bs) h = absurd h
as_many_bounds tells Fits rows super_at (w ∷ ws) [] h = absurd h
as_many_bounds tells Fits rows super_at (w ∷ ws) (b ∷ bs) h = ap suc (as_many_bounds tells Fits rows super_at ws bs h.1)

pub as_many : (p : Program Span) {tells : Span → ℕ → Span} {Fits : Span → ℕ → Type 0} → IsProgram tells Fits p → length (written_members (begins_by tells) p.rows (units_of p)) ≡ length p.bounds
as_many p {tells} {Fits} h = as_many_bounds tells Fits p.rows p.super_at (written_members (begins_by tells) p.rows (units_of p)) p.bounds h.bound
