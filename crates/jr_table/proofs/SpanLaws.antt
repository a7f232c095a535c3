-- The tree of classes, numbered on entry and exit.
use Rattle.std.proofs.Common.{◌≡◌, ◌≢◌, ℕ, zero, suc, ◌+◌, ◌<◌, ◌≤◌, List, [], ◌∷◌, length, Option, Some, None, refl, sym, ap, subst, ◌∙◌, inl, inr, arith}
use Rattle.std.specs.Prelude.{slice_get, unwrap_or, ◌⊎◌, ◌↔◌}
use Rattle.std.proofs.lemmas.Option.{slice_get_within}
use Rattle.jr_table.specs.declared.entries.Entry.{Entry}
use Rattle.jr_table.specs.declared.numbered.Numbered.{Numbered}
use Rattle.jr_table.specs.Chains.{parent_of, GoesUp, IsChain, In, IsSubclassAt, IsAcyclic}
use Rattle.jr_table.specs.Spans.{ParentsStand, enter_of, exit_of, before_of, Fits, AreNumbered}
use Rattle.jr_table.proofs.RowLaws.{some_inside}
use Rattle.jr_table.proofs.StepsUp.{itself, further}

three : (a b : ℕ) → (a < b) ⊎ ((a ≡ b) ⊎ (b < a))
three a b = grind arith

two : (a b : ℕ) → a ≤ b → (a ≡ b) ⊎ (a < b)
two a b h = grind arith

module _ (rows : List Entry) (stand : ParentsStand rows) (acyclic : IsAcyclic rows) (x : Numbered) (all : AreNumbered rows x) where
  abbrev Within : ℕ → ℕ → Type 0
  Within c d = (enter_of x d ≤ enter_of x c) × (exit_of x c ≤ exit_of x d)

  -- a class is within each of its superclasses
  nested : (chain : List ℕ) (c d : ℕ) → c < length rows → IsChain rows c chain → In chain d → Within c d
  nested [] c d lt k i = absurd k
  nested (a ∷ cs) c d lt k (inl e) = let s : c ≡ d = k.0 ∙ e in (let h = ap (enter_of x) s in omega (arith, h), let h = ap (exit_of x) s in omega (arith, h))
  nested (a ∷ cs) c d lt k (inr i) = by (parent_of rows c) refl k.1 (λ p l h. nested cs p d l h i)
    where
      by : (o : Option ℕ) → parent_of rows c ≡ o → GoesUp o cs (λ p. IsChain rows p cs) → ((p : ℕ) → p < length rows → IsChain rows p cs → Within p d) → Within c d
      by None up none more = absurd (subst (λ (ds : List ℕ). In ds d) none i)
      by (Some p) up h more =
          let w = more p (stand c p up) h in
          let f = (all.each c lt).inside p up in
          let a = w.0 in
          let b = w.1 in
          let g = f.0 in
          let l = f.1 in
          (omega (arith, a, g), omega (arith, b, l))

  within : (c d : ℕ) → c < length rows → IsSubclassAt rows c d → Within c d
  within c d lt s = nested s.chain c d lt s.goes_up s.among

  -- one row is entered at a number
  one_place : (c d : ℕ) → c < length rows → d < length rows → enter_of x c ≡ enter_of x d → c ≡ d
  one_place c d l m e = some_inside (slice_get x.order.items (enter_of x d)) c d (ap (slice_get x.order.items) (sym e) ∙ (all.each c l).placed) (all.each d m).placed

  abbrev IsBelow : ℕ → Type 0
  IsBelow m = (c d : ℕ) → c < length rows → d < length rows → enter_of x c < m → enter_of x d ≤ enter_of x c → enter_of x c < exit_of x d → IsSubclassAt rows c d

  abbrev Above : ℕ → ℕ → Type 0
  Above c d = (p : ℕ) × (parent_of rows c ≡ Some p) × (enter_of x d ≤ enter_of x p)

  abbrev GoesAbove : ℕ → Type 0
  GoesAbove m = (c d : ℕ) → c < length rows → d < length rows → enter_of x c < m → enter_of x d < enter_of x c → enter_of x c < exit_of x d → Above c d

  above_more : (m : ℕ) → IsBelow m → GoesAbove m → GoesAbove (suc m)
  above_more m below above c d l k lt before inside = by (before_of x c) refl
    where
      f : Fits rows x c
      f = all.each c l

      root : (o : Option ℕ) → parent_of rows c ≡ o → before_of x c ≡ None → Above c d
      root None up none = let e = f.root none up in absurd (omega (arith, e, before))
      root (Some p) up none = let e = f.first none p up in (p, up, omega (arith, e, before))

      behind : (s : ℕ) → before_of x c ≡ Some s → ((enter_of x d < enter_of x s) ⊎ ((enter_of x d ≡ enter_of x s) ⊎ (enter_of x s < enter_of x d))) → Above c d
      behind s e (inl less) =
          let b = f.behind s e in
          let left = b.2 in
          let opens = (all.each s b.0).opens in
          let a = above s d b.0 k (omega (arith, left, opens, lt)) less (omega (arith, left, opens, inside)) in
          (a.0, sym b.1 ∙ a.1, a.2)
      behind s e (inr (inl same)) =
          let b = f.behind s e in
          let left = b.2 in
          let is = ap (exit_of x) (one_place d s k b.0 same) in
          absurd (omega (arith, left, is, inside))
      behind s e (inr (inr more)) =
          let b = f.behind s e in
          let left = b.2 in
          let under = (within d s k (below d s k b.0 (omega (arith, before, lt)) (omega (arith, more)) (omega (arith, before, left)))).1 in
          absurd (omega (arith, left, under, inside))

      by : (o : Option ℕ) → before_of x c ≡ o → Above c d
      by None e = root (parent_of rows c) refl e
      by (Some s) e = behind s e (three (enter_of x d) (enter_of x s))

  below_more : (m : ℕ) → IsBelow m → GoesAbove (suc m) → IsBelow (suc m)
  below_more m below above c d l k lt from to = by (two (enter_of x d) (enter_of x c) from)
    where
      by : ((enter_of x d ≡ enter_of x c) ⊎ (enter_of x d < enter_of x c)) → IsSubclassAt rows c d
      by (inl e) = itself rows acyclic c d (one_place c d l k (sym e))
      by (inr before) =
          let a = above c d l k lt before to in
          let i = ((all.each c l).inside a.0 a.1).0 in
          let le = a.2 in
          (further rows acyclic c a.0 d a.1 (λ s. let e = ap (enter_of x) s in omega (arith, e, before))).1
          (below a.0 d (stand c a.0 a.1) k (omega (arith, i, lt)) le (omega (arith, i, to)))

  both : (m : ℕ) → IsBelow m × GoesAbove m
  both zero = (λ c d l k lt. absurd (omega (arith, lt)), λ c d l k lt. absurd (omega (arith, lt)))
  both (suc m) = let h = both m in let a = above_more m h.0 h.1 in (below_more m h.0 a, a)

  pub are_spans : (c d a b e : ℕ) → slice_get x.enter.items c ≡ Some a → slice_get x.enter.items d ≡ Some b → slice_get x.exit.items d ≡ Some e → ((b ≤ a) × (a < e)) ↔ IsSubclassAt rows c d
  are_spans c d a b e at bt et = (λ h. let f = h.0 in let t = h.1 in (both (suc a)).0 c d l k (omega (arith, is_a)) (omega (arith, is_a, is_b, f)) (omega (arith, is_a, is_e, t)), λ s. from (within c d l s) (all.each c l).opens)
    where
      l : c < length rows
      l = subst (λ (n : ℕ). c < n) all.entered (slice_get_within x.enter.items c a at)

      k : d < length rows
      k = subst (λ (n : ℕ). d < n) all.entered (slice_get_within x.enter.items d b bt)

      is_a : enter_of x c ≡ a
      is_a = ap (λ o. unwrap_or o 0) at

      is_b : enter_of x d ≡ b
      is_b = ap (λ o. unwrap_or o 0) bt

      is_e : exit_of x d ≡ e
      is_e = ap (λ o. unwrap_or o 0) et

      from : Within c d → enter_of x c < exit_of x c → (b ≤ a) × (a < e)
      from w o = let f = w.0 in let t = w.1 in (omega (arith, is_a, is_b, f), omega (arith, is_a, is_e, t, o))
