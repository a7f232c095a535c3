-- What the member of a local tells is what the whole program does.
use Rattle.std.proofs.Common.{◌≡◌, ℕ, List, Option, Some, None, Bool, true, false, refl, sym, ap, subst, ◌∙◌, inl, inr, arith, true≢false}
use Rattle.std.specs.Prelude.{Contains, option_map, if◌then◌else◌}
use Rattle.jr_ast.specs.MemberTree as syntax
use Rattle.jr_table.specs.Decls.{MemberKey, LocalKey, Decl, local_decl}
use Rattle.jr_table.specs.Rows.{Row}
use Rattle.jr_table.specs.Errors.{Part}
use Rattle.jr_members.specs.WrittenMembers.{WrittenMember}
use Rattle.jr_members.specs.WrittenLaws.{AreWritten, IsWritten}
use Rattle.jr_members.proofs.Anywhere.{member_written, written_member}
use Rattle.jr_images.specs.Clashes.{HasLocal, IsUnder, IsLocalNamed, Under, LocalClashes, HasPlace}
use Rattle.jr_rename.specs.LocalAnswers.{asked_local, part_walk, told}
use Rattle.jr_rename.specs.Answered.{Tells}
use Rattle.jr_rename.proofs.Least.{numbered, LeastOf}
use Rattle.jr_rename.proofs.Parts.{PartMeets, part_of, under_has, over_has, part_named, part_names, part_least}

module _ {A : Type 0} (begins : A → ℕ → ℕ) (rows : List Row) (units : List (syntax.Unit A)) (ws : List (WrittenMember A)) (are : AreWritten begins units rows ws) (k : LocalKey) (new : List ℕ) where
  abbrev target : Decl
  target = local_decl k

  -- ---- no member has the key

  pub none_told : ((w : WrittenMember A) → Contains ws w → w.key ≡ k.member → ⊥) → Tells begins rows units target new None
  none_told lacks = record {
    other = λ h. unnamed new h;
    alone = λ d h. unnamed h.1.old h.1.named;
  }
    where
      unnamed : (name : List ℕ) → IsLocalNamed begins rows units k name → ⊥
      unnamed name h =
          let r = member_written begins units (λ i base part. HasLocal begins k name i base part) h.0 h.1 in
          let w = are.all r.0 h.0 r.1 r.2 r.3 in
          lacks w.0 w.1 (w.3 ∙ sym (part_of begins k name h.0 r.1 r.2 r.4))

  -- ---- one has it

  module _ (w : WrittenMember A) (has : Contains ws w) (key : w.key ≡ k.member) where
    -- a part of the local's member is its own
    its_part : (P : (base : ℕ) → Part A → Type 0) (file : ℕ) (i : MemberKey) (base : ℕ) (part : Part A) → IsWritten begins units file i base part → k.member ≡ i → P base part → P w.base w.part
    its_part P file i base part is of p =
        let v = are.all file i base part is in
        let same : v.0 ≡ w = are.one v.0 w v.1 has (v.3 ∙ sym of ∙ sym key) in
        let b : base ≡ w.base = sym v.4 ∙ ap (λ (x : WrittenMember A). x.base) same in
        let q : part ≡ w.part = sym v.5 ∙ ap (λ (x : WrittenMember A). x.part) same in
        subst (λ (x : Part A). P w.base x) q (subst (λ (x : ℕ). P x part) b p)

    written : IsWritten begins units w.file k.member w.base w.part
    written = subst (λ (i : MemberKey). IsWritten begins units w.file i w.base w.part) key (are.each w has)

    named_here : (name : List ℕ) → IsLocalNamed begins rows units k name → HasLocal begins k name k.member w.base w.part
    named_here name h =
        let r = member_written begins units (λ i base part. HasLocal begins k name i base part) h.0 h.1 in
        let of = part_of begins k name h.0 r.1 r.2 r.4 in
        its_part (λ base part. HasLocal begins k name k.member base part) r.0 h.0 r.1 r.2 r.3 of (subst (λ (i : MemberKey). HasLocal begins k name i r.1 r.2) (sym of) r.4)

    here_named : (name : List ℕ) → HasLocal begins k name k.member w.base w.part → IsLocalNamed begins rows units k name
    here_named name h = (k.member, written_member begins units (λ i base part. HasLocal begins k name i base part) w.file k.member w.base w.part written h)

    here_under : (i j : LocalKey) (x y : List ℕ) → IsUnder begins i x j y k.member w.base w.part → Under begins rows units i x j y
    here_under i j x y h = (k.member, written_member begins units (λ m base part. IsUnder begins i x j y m base part) w.file k.member w.base w.part written h)

    under_here : (j : LocalKey) (old : List ℕ) → Under begins rows units k old j new → IsUnder begins k old j new k.member w.base w.part
    under_here j old h =
        let r = member_written begins units (λ m base part. IsUnder begins k old j new m base part) h.0 h.1 in
        let of = part_of begins k old h.0 r.1 r.2 (under_has begins k old j new h.0 r.1 r.2 r.4) in
        its_part (λ base part. IsUnder begins k old j new k.member base part) r.0 h.0 r.1 r.2 r.3 of (subst (λ (i : MemberKey). IsUnder begins k old j new i r.1 r.2) (sym of) r.4)

    over_here : (j : LocalKey) (old : List ℕ) → Under begins rows units j new k old → IsUnder begins j new k old k.member w.base w.part
    over_here j old h =
        let r = member_written begins units (λ m base part. IsUnder begins j new k old m base part) h.0 h.1 in
        let of = part_of begins k old h.0 r.1 r.2 (over_has begins j new k old h.0 r.1 r.2 r.4) in
        its_part (λ base part. IsUnder begins j new k old k.member base part) r.0 h.0 r.1 r.2 r.3 of (subst (λ (i : MemberKey). IsUnder begins j new k old i r.1 r.2) (sym of) r.4)

    clashes_meets : (j : LocalKey) → LocalClashes begins rows units k new j → PartMeets begins k new w.base w.part j
    clashes_meets j h = elim h.meets [ inl u ↦ (h.other, (h.old, inl (under_here j h.old u))) | inr u ↦ (h.other, (h.old, inr (over_here j h.old u))) ]

    meets_clashes : (j : LocalKey) → PartMeets begins k new w.base w.part j → LocalClashes begins rows units k new j
    meets_clashes j (other, (old, inl u)) =
        record { old = old; named = here_named old (under_has begins k old j new k.member w.base w.part u); other = other; meets = inl (here_under k j old new u) }
    meets_clashes j (other, (old, inr u)) =
        record { old = old; named = here_named old (over_has begins j new k old k.member w.base w.part u); other = other; meets = inr (here_under j k new old u) }

    by_least : (IsLocalNamed begins rows units k new → ⊥) → (o : Option ℕ) → LeastOf k.member (PartMeets begins k new w.base w.part) o
        → Tells begins rows units target new (option_map (λ (n : ℕ). local_decl (record { member = k.member; number = n })) o)
    by_least lacks None h = record { other = lacks; alone = λ d c. h c.0 (clashes_meets c.0 c.1) }
    by_least lacks (Some n) h = inr (
      lacks,
      record {
        collides = (numbered k.member n, meets_clashes (numbered k.member n) h.0, refl);
        place = n;
        stands = refl;
        first = λ e m c at. (
            let p = subst (λ (x : Decl). HasPlace begins rows units x m) c.2 at in
            let le = h.1 c.0 (clashes_meets c.0 c.1) in
            omega (arith, le, p)
            );
      },
    )

    pub told_walk : Tells begins rows units target new (told k (part_walk (asked_local k new) k.member w.part))
    told_walk = by (part_walk (asked_local k new) k.member w.part).is_named refl
      where
        by : (b : Bool) → (part_walk (asked_local k new) k.member w.part).is_named ≡ b
            → Tells begins rows units target new (if b then Some (local_decl k) else option_map (λ (n : ℕ). local_decl (record { member = k.member; number = n })) (part_walk (asked_local k new) k.member w.part).least)
        by true is = inl (here_named new (part_names begins k new w.base w.part is), refl)
        by false is = by_least (λ h. let t = part_named begins k new w.base w.part (named_here new h) in absurd (true≢false (sym t ∙ is))) (part_walk (asked_local k new) k.member w.part).least (part_least begins k new w.base w.part)

    -- the same with the member's own key
    pub told_here : (o : Option Decl) → o ≡ told k (part_walk (asked_local k new) w.key w.part) → Tells begins rows units target new o
    told_here o e =
        let same : told k (part_walk (asked_local k new) k.member w.part) ≡ o = ap (λ (i : MemberKey). told k (part_walk (asked_local k new) i w.part)) (sym key) ∙ sym e in
        subst (λ (x : Option Decl). Tells begins rows units target new x) same told_walk
