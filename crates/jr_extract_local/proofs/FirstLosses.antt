-- The first loss of one file, as a step has it: those that are kept, and one behind them that is made, if it is lost.
-- A kept one goes by its place, the first among those of one place; the made one goes before all where it begins in
-- front of them, and behind them where it begins at the same byte.
use Rattle.std.proofs.Common.{◌≡◌, ◌⊎◌, inl, inr, ℕ, zero, suc, ◌+◌, ◌<◌, ◌≤◌, Bool, true, false, List, [], ◌∷◌, ◌++◌, length, map, Option, Some, None, refl, sym, ap, subst, ◌∙◌, arith}
use Rattle.std.specs.Prelude.{nat_lt, slice_get, option_map, option_to_list, if◌then◌else◌}
use Rattle.std.proofs.lemmas.Bool.{ltb-true, ltb-false}
use Rattle.std.proofs.lemmas.List.{append-nil}
use Rattle.std.proofs.lemmas.Option.{slice_get_within, none-some, same_Some}
use Rattle.jr_rewrite.specs.Respellings.{Loss}
use Rattle.jr_plan.specs.Transforms.{Lost, kept, made, kept_lost}
use Rattle.jr_plan.specs.Reasons.{origin_rank, Precedes, IsFirstLost}
use Rattle.jr_new_files.specs.Lost.{IsLeast}
use Rattle.jr_local_parts.specs.Answers.{with_other, earlier_of, IsFirst}

module _ (file : ℕ) where
  abbrev pub made_lost : Loss → Lost
  made_lost l = record { origin = made; file = file; loss = l }

  abbrev kept_one : Loss → Lost
  kept_one l = record { origin = kept; file = file; loss = l }

  -- ---- which precedes

  behind_self : (l : Loss) → Precedes (made_lost l) (made_lost l) → ⊥
  behind_self l (inl lt) = omega (arith, lt)
  behind_self l (inr (e, inl lt)) = omega (arith, lt)
  behind_self l (inr (e, inr (same, lt))) = omega (arith, lt)

  -- one that is kept, or made, and begins no earlier than a kept one
  not_before : (k m : Loss) → k.at ≤ m.at → Precedes (kept_one m) (kept_one k) → ⊥
  not_before k m le (inl lt) = omega (arith, lt)
  not_before k m le (inr (e, inl lt)) = omega (arith, lt, le)
  not_before k m le (inr (e, inr (same, lt))) = omega (arith, lt)

  not_made_before : (k m : Loss) → k.at ≤ m.at → Precedes (made_lost m) (kept_one k) → ⊥
  not_made_before k m le (inl lt) = omega (arith, lt)
  not_made_before k m le (inr (e, inl lt)) = omega (arith, lt, le)
  not_made_before k m le (inr (e, inr (same, lt))) = omega (arith, lt)

  not_kept_before : (k m : Loss) → k.at < m.at → Precedes (kept_one m) (made_lost k) → ⊥
  not_kept_before k m lt (inl h) = omega (arith, h)
  not_kept_before k m lt (inr (e, inl h)) = omega (arith, h, lt)
  not_kept_before k m lt (inr (e, inr (same, h))) = omega (arith, same, lt)

  -- ---- what stands in the list of all

  at_end : (ks : List Loss) (l : Loss) → slice_get (kept_lost file ks ++ made_lost l ∷ []) (length ks) ≡ Some (made_lost l)
  at_end [] l = refl
  at_end (k ∷ ks) l = at_end ks l

  in_front : (ks : List Loss) (rest : List Lost) (i : ℕ) (k : Loss) → slice_get ks i ≡ Some k → slice_get (kept_lost file ks ++ rest) i ≡ Some (kept_one k)
  in_front [] rest i k e = absurd (none-some k e)
  in_front (x ∷ ks) rest zero k e = ap (option_map kept_one) e
  in_front (x ∷ ks) rest (suc i) k e = in_front ks rest i k e

  -- one of the kept ones, or what stands behind them
  record IsKept (ks : List Loss) (i : ℕ) (y : Lost) : Type 0 where
    loss : Loss
    stands : slice_get ks i ≡ Some loss
    is : y ≡ kept_one loss

  one_of : (ks : List Loss) (l : Loss) (i : ℕ) (y : Lost) → slice_get (kept_lost file ks ++ made_lost l ∷ []) i ≡ Some y → IsKept ks i y ⊎ ((i ≡ length ks) × (y ≡ made_lost l))
  one_of [] l zero y e = inr (refl, sym (same_Some (made_lost l) y e))
  one_of [] l (suc i) y e = absurd (none-some y e)
  one_of (k ∷ ks) l zero y e = inl (record { loss = k; stands = refl; is = sym (same_Some (kept_one k) y e) })
  one_of (k ∷ ks) l (suc i) y e =
      elim (one_of ks l i y e) [
        | inl h ↦ inl (record { loss = h.loss; stands = h.stands; is = h.is })
        | inr h ↦ inr (ap suc h.0, h.1)
      ]

  kept_of : (ks : List Loss) (i : ℕ) (y : Lost) → slice_get (kept_lost file ks) i ≡ Some y → IsKept ks i y
  kept_of [] i y e = absurd (none-some y e)
  kept_of (k ∷ ks) zero y e = record { loss = k; stands = refl; is = sym (same_Some (kept_one k) y e) }
  kept_of (k ∷ ks) (suc i) y e = let h = kept_of ks i y e in record { loss = h.loss; stands = h.stands; is = h.is }

  -- ---- the first one

  module _ (ks : List Loss) (n : ℕ) (k : Loss) (least : IsLeast ks n k) where
    -- no other is made
    alone : IsFirstLost (kept_lost file ks) (kept_one k)
    alone = record {
      number = n;
      stands = subst (λ (l : List Lost). slice_get l n ≡ Some (kept_one k)) (append-nil (kept_lost file ks)) (in_front ks [] n k least.stands);
      least = λ i y e lt. let h = kept_of ks i y e in not_before k h.loss (least.behind i h.loss h.stands) (subst (λ (z : Lost). Precedes z (kept_one k)) h.is lt);
      earlier = λ i y lt e. let h = kept_of ks i y e in subst (λ (z : Lost). Precedes (kept_one k) z) (sym h.is) (inr (refl, inl (least.before i h.loss lt h.stands)));
    }

    inside : n < length ks
    inside = slice_get_within ks n k least.stands

    -- the made one begins no earlier
    in_front_of : (l : Loss) → k.at ≤ l.at → IsFirstLost (kept_lost file ks ++ made_lost l ∷ []) (kept_one k)
    in_front_of l le = record {
      number = n;
      stands = in_front ks (made_lost l ∷ []) n k least.stands;
      least = λ i y e lt.
          elim (one_of ks l i y e) [
            | inl h ↦ not_before k h.loss (least.behind i h.loss h.stands) (subst (λ (z : Lost). Precedes z (kept_one k)) h.is lt)
            | inr h ↦ not_made_before k l le (subst (λ (z : Lost). Precedes z (kept_one k)) h.1 lt)
          ];
      earlier = λ i y lt e.
          elim (one_of ks l i y e) [
            | inl h ↦ subst (λ (z : Lost). Precedes (kept_one k) z) (sym h.is) (inr (refl, inl (least.before i h.loss lt h.stands)))
            | inr h ↦ absurd (let within = inside in let at = h.0 in omega (arith, within, at, lt))
          ];
    }

    -- it begins in front of all
    behind : (l : Loss) → l.at < k.at → IsFirstLost (kept_lost file ks ++ made_lost l ∷ []) (made_lost l)
    behind l lt = record {
      number = length ks;
      stands = at_end ks l;
      least = λ i y e h.
          elim (one_of ks l i y e) [
            | inl o ↦ not_kept_before l o.loss (let le = least.behind i o.loss o.stands in omega (arith, lt, le)) (subst (λ (z : Lost). Precedes z (made_lost l)) o.is h)
            | inr o ↦ behind_self l (subst (λ (z : Lost). Precedes z (made_lost l)) o.1 h)
          ];
      earlier = λ i y low e.
          elim (one_of ks l i y e) [
            | inl o ↦ subst (λ (z : Lost). Precedes (made_lost l) z) (sym o.is) (inr (refl, inl (let le = least.behind i o.loss o.stands in omega (arith, lt, le))))
            | inr o ↦ absurd (let at = o.0 in omega (arith, at, low))
          ];
    }

  made_alone : (l : Loss) → IsFirstLost (made_lost l ∷ []) (made_lost l)
  made_alone l = record {
    number = 0;
    stands = refl;
    least = λ i y e h. go i y e h;
    earlier = λ i y low e. absurd (omega (arith, low));
  }
    where
      go : (i : ℕ) (y : Lost) → slice_get (made_lost l ∷ []) i ≡ Some y → Precedes y (made_lost l) → ⊥
      go zero y e h = behind_self l (subst (λ (z : Lost). Precedes z (made_lost l)) (sym (same_Some (made_lost l) y e)) h)
      go (suc i) y e h = none-some y e

  -- ---- as it is told

  abbrev all_of : (ks : List Loss) → Option Loss → List Lost
  all_of ks other = kept_lost file ks ++ map made_lost (option_to_list other)

  -- the one that is told
  pub record Told (ks : List Loss) (other : Option Loss) (x : Loss) : Type 0 where
    pub lost : Lost
    pub first : IsFirstLost (all_of ks other) lost
    pub in_file : lost.file ≡ file
    pub loss_is : lost.loss ≡ x

  by_places : (ks : List Loss) (n : ℕ) (k : Loss) → IsLeast ks n k → (l : Loss) (b : Bool) → nat_lt l.at k.at ≡ b → Told ks (Some l) (if b then l else k)
  by_places ks n k least l true e = record { lost = made_lost l; first = behind ks n k least l (ltb-true l.at k.at e); in_file = refl; loss_is = refl }
  by_places ks n k least l false e = record { lost = kept_one k; first = in_front_of ks n k least l (ltb-false l.at k.at e); in_file = refl; loss_is = refl }

  of_least : (ks : List Loss) (other : Option Loss) (n : ℕ) (k : Loss) → IsLeast ks n k → Told ks other (with_other k other)
  of_least ks None n k least = record {
    lost = kept_one k;
    first = subst (λ (l : List Lost). IsFirstLost l (kept_one k)) (sym (append-nil (kept_lost file ks))) (alone ks n k least);
    in_file = refl;
    loss_is = refl;
  }
  of_least ks (Some l) n k least = by_places ks n k least l (nat_lt l.at k.at) refl

  -- none is kept
  of_made : (ks : List Loss) (other : Option Loss) (x : Loss) → ks ≡ [] → other ≡ Some x → Told ks other x
  of_made ks other x none is =
      subst (λ (l : List Loss). Told l other x) (sym none)
      (subst (λ (o : Option Loss). Told [] o x) (sym is) (record { lost = made_lost x; first = made_alone x; in_file = refl; loss_is = refl }))

  pub told : (ks : List Loss) (other : Option Loss) (x : Loss) → IsFirst ks other (Some x) → Told ks other x
  told ks other x (inl (none, is)) = of_made ks other x none is
  told ks other x (inr (n, k, least, is)) = subst (Told ks other) (sym is) (of_least ks other n k least)
