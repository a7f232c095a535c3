-- The local that is asked for at a byte of a file.
use Rattle.std.proofs.Common.{◌≡◌, ◌⊎◌, inl, inr, ℕ, ◌<◌, ◌≤◌, length, get_or, Option, Some, None, refl, sym, ap, subst, ◌∙◌, arith}
use Rattle.std.specs.Prelude.{slice_get, option_map, MatchOption}
use Rattle.std.proofs.lemmas.Option.{slice_get_cases}
use Rattle.jr_text.specs.declared.spans.Span.{Span}
use Rattle.jr_grammar.specs.Layout.{itself}
use Rattle.jr_table.specs.Decls.{Decl, LocalKey, local_decl}
use Rattle.jr_bind.specs.Programs.{File, Program, IsProgram, units_of}
use Rattle.jr_images.specs.Targets.{HoldsIdentifier, IsTarget}
use Rattle.jr_cursor.specs.ProgramTargets.{HasTargetAt, LacksTargetAt}
use Rattle.jr_cursor.specs.TargetLaws.{OneIsTarget}
use Rattle.jr_local_asked.proofs.Foreign.{local_foreign}
use Rattle.jr_bodies.specs.Bodies.{begins}
use Rattle.jr_local.specs.Inlining.{IsAsked, Asked}
use Rattle.jr_local_asked.specs.Declaring.{IsThere, IsNowhere}
use Rattle.jr_local_asked.specs.declared.declarations.DeclaredLocal as raw_declared
use Rattle.jr_local_asked.specs.declared.asked.AskedLocal as raw
use Rattle.jr_local_asked.specs.DeclaredView.{declared_of}
use Rattle.jr_local_asked.specs.AskedView.{asked_of}
use Rattle.jr_local_asked.specs.Asking.{AskedLocal, with_key, LacksLocal, HasLocal, LacksTarget, HasTarget, LacksAsked, HasAsked}

same_local_decl : (j k : LocalKey) → local_decl j ≡ local_decl k → j ≡ k
same_local_decl j k e = cc

no_asked : (x : AskedLocal) → (let n : Option AskedLocal = None in n ≡ Some x) → ⊥
no_asked x e = cc

same_asked : (x y : AskedLocal) → (let o : Option AskedLocal = Some x in o ≡ Some y) → x ≡ y
same_asked x y e = cc

module _ (p : Program Span) (file : ℕ) where
  pub of_key : (k : LocalKey) (o : Option raw_declared.DeclaredLocal) → MatchOption o (IsNowhere p file k) (λ x. IsThere p file k (declared_of x))
      → (r : Option raw.AskedLocal) → option_map asked_of r ≡ with_key k (option_map declared_of o) → MatchOption r (LacksLocal p file k) (λ x. HasLocal p file k (asked_of x))
  of_key k None h None e = h
  of_key k None h (Some y) e = absurd (no_asked (asked_of y) (sym e))
  of_key k (Some x) h None e = absurd (no_asked (record { key = k; declared = declared_of x }) e)
  of_key k (Some x) h (Some y) e =
      let same = same_asked (asked_of y) (record { key = k; declared = declared_of x }) e in
      subst (λ (z : AskedLocal). HasLocal p file k z) (sym same) (refl, h)

  pub of_local_decl : (d : Decl) (k : LocalKey) → d ≡ local_decl k → (r : Option raw.AskedLocal) → MatchOption r (LacksLocal p file k) (λ x. HasLocal p file k (asked_of x))
      → MatchOption r (LacksTarget p file d) (λ x. HasTarget p file d (asked_of x))
  of_local_decl d k is None h = λ j e. subst (IsNowhere p file) (same_local_decl k j (sym is ∙ e)) h
  of_local_decl d k is (Some x) h = (is ∙ ap local_decl (sym h.0), h.1)

  module _ (program : IsProgram itself (λ m b. Unit {0}) p) (at : ℕ) where
    -- what is asked for is a target
    target_of : (a : Asked p file at) → IsTarget begins p.rows p.super_at (units_of p) a.asked.is_text.0.text file at (local_decl a.key)
    target_of a = record {
      from = a.asked.from;
      holds = subst (λ text. HoldsIdentifier text at a.asked.from) (sym a.asked.is_text.2) a.asked.holds;
      names = a.asked.names;
      own = local_foreign p.rows program.are_rows a.key;
    }

    pub lacks_target : LacksTargetAt p file at → LacksAsked p file at
    lacks_target lacks a = lacks a.asked.is_text.0 a.asked.is_text.1 (local_decl a.key) (target_of a)

    -- and it is the one
    same_key : OneIsTarget → (d : Decl) → HasTargetAt p file at d → (a : Asked p file at) → d ≡ local_decl a.key
    same_key one d has a =
        let f = a.asked.is_text.0 in
        one p program file at f a.asked.is_text.1 d (local_decl a.key) (has f a.asked.is_text.1) (target_of a)

    is_asked : file < length p.files → (k : LocalKey) → HasTargetAt p file at (local_decl k) → IsAsked p file at k
    is_asked lt k has = by (slice_get_cases p.files file).1
      where
        by : ((f : File Span) × (file < length p.files) × (slice_get p.files file ≡ Some f) × (get_or p.files file f ≡ f)) ⊎ ((length p.files ≤ file) × (let n : Option (File Span) = None in slice_get p.files file ≡ n)) → IsAsked p file at k
        by (inl (f, in_it, e, g)) =
            let t = has f e in
            record { text = f.text; from = t.from; is_text = (f, e, refl); holds = t.holds; names = t.names }
        by (inr (past, e)) = absurd (omega (arith, lt, past))

    pub of_declaration : OneIsTarget → file < length p.files → (d : Decl) → HasTargetAt p file at d → (r : Option raw.AskedLocal) → MatchOption r (LacksTarget p file d) (λ x. HasTarget p file d (asked_of x))
        → MatchOption r (LacksAsked p file at) (λ x. HasAsked p file at (asked_of x))
    of_declaration one lt d has None h = λ a. h a.key (same_key one d has a) a.declared.body a.declared.has a.declared.member a.declared.init a.declared.declares.way a.declared.body.at refl a.declared.declares.mark a.declared.declares.is_final a.declared.declares.type a.declared.declares.word a.declared.declares.is a.declared.declares.number
    of_declaration one lt d has (Some x) h = record { asked = is_asked lt (asked_of x).key (subst (HasTargetAt p file at) h.0 has); there = h.1 }
