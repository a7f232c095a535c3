-- The tests of assignability decide it, and types that are assignable both ways are the same.
use Rattle.std.proofs.Common.{◌≡◌, ℕ, ◌<◌, List, [], ◌∷◌, length, Option, Some, None, Bool, true, false, refl, sym, ap, subst, ◌∙◌, inl, inr, arith, eq-eqb, eqb-true}
use Rattle.std.specs.Prelude.{◌⊎◌, ◌↔◌, ◌&&◌, ◌||◌, ◌==◌, slice_get, IsTrue}
use Rattle.std.specs.List.{list_any}
use Rattle.jr_table.specs.declared.entries.Kind.{Kind}
use Rattle.jr_table.specs.declared.entries.Kind.TheVariants.{Int, Boolean, Void, Null, Class}
use Rattle.jr_table.specs.declared.entries.Entry.{Entry}
use Rattle.jr_table.specs.Chains.{IsChain, GoesUp, IsAcyclic, In, IsSubclassAt, chain_of, parent_of}
use Rattle.jr_table.specs.Looking.{same_kind}
use Rattle.jr_table.specs.Calls.{WidensAt, IsAssignableAt, Fit, HasParams, IsAsSpecific, widens, assignable, fits, params_in, params_at, as_specific}
use Rattle.jr_table.proofs.Chaining.{one_chain, chain_step, chain_top, shorter}
use Rattle.jr_table.proofs.Testing.{kind_same, and_both, and_true}

pub any_in : (p : ℕ → Bool) (xs : List ℕ) → list_any p xs ≡ true → (j : ℕ) × In xs j × (p j ≡ true)
any_in p [] h = absurd cc
any_in p (x ∷ xs) h = by (p x) refl h (any_in p xs)
  where
    by : (b : Bool) → p x ≡ b → (b || list_any p xs) ≡ true → (list_any p xs ≡ true → (j : ℕ) × In xs j × (p j ≡ true)) → (j : ℕ) × In (x ∷ xs) j × (p j ≡ true)
    by true e h more = (x, inl refl, e)
    by false e h more = let m = more h in (m.0, inr m.1, m.2)

pub in_any : (p : ℕ → Bool) (xs : List ℕ) (j : ℕ) → In xs j → p j ≡ true → list_any p xs ≡ true
in_any p [] j i h = absurd i
in_any p (x ∷ xs) j (inl s) h = ap (λ b. b || list_any p xs) (ap p s ∙ h)
in_any p (x ∷ xs) j (inr i) h = by (p x) (in_any p xs j i h)
  where
    by : (b : Bool) → list_any p xs ≡ true → (b || list_any p xs) ≡ true
    by true h = refl
    by false h = h

-- one of two tests holds
pub either_is : (a b : Bool) → (a || b) ≡ true → (a ≡ true) ⊎ (b ≡ true)
either_is true b h = inl refl
either_is false b h = inr h

pub left_is : (a b : Bool) → a ≡ true → (a || b) ≡ true
left_is true b h = refl
left_is false b h = absurd cc

pub right_is : (a b : Bool) → b ≡ true → (a || b) ≡ true
right_is true b h = refl
right_is false b h = h

one_number : (a b : ℕ) → Class a ≡ Class b → a ≡ b
one_number a b e = cc

module _ (rows : List Entry) (acyclic : IsAcyclic rows) where
  -- a class above has a shorter way up
  above_is : (c d : ℕ) (chain : List ℕ) → IsChain rows c chain → In chain d → (c ≡ d) ⊎ (length (chain_of rows d) < length (chain_of rows c))
  above_is c d [] h i = absurd h
  above_is c d (x ∷ xs) h (inl e) = inl (h.0 ∙ e)
  above_is c d (x ∷ xs) h (inr i) = up (parent_of rows c) refl h.1 (λ p k. above_is p d xs k i)
    where
      none : In [] d → ⊥
      none i = i

      less : (p : ℕ) → parent_of rows c ≡ Some p → ((p ≡ d) ⊎ (length (chain_of rows d) < length (chain_of rows p))) → (c ≡ d) ⊎ (length (chain_of rows d) < length (chain_of rows c))
      less p is (inl e) = inr (subst (λ (x : ℕ). length (chain_of rows x) < length (chain_of rows c)) e (shorter rows acyclic c p is))
      less p is (inr l) = let m = shorter rows acyclic c p is in inr (omega (arith, l, m))

      up : (o : Option ℕ) → parent_of rows c ≡ o → GoesUp o xs (λ p. IsChain rows p xs) → ((p : ℕ) → IsChain rows p xs → (p ≡ d) ⊎ (length (chain_of rows d) < length (chain_of rows p)))
          → (c ≡ d) ⊎ (length (chain_of rows d) < length (chain_of rows c))
      up None is e more = absurd (none (subst (λ (ys : List ℕ). In ys d) e i))
      up (Some p) is k more = less p is (more p k)

  pub no_two_below : (c d : ℕ) → IsSubclassAt rows c d → IsSubclassAt rows d c → c ≡ d
  no_two_below c d s t = by (above_is c d s.chain s.goes_up s.among) (above_is d c t.chain t.goes_up t.among)
    where
      by : ((c ≡ d) ⊎ (length (chain_of rows d) < length (chain_of rows c))) → ((d ≡ c) ⊎ (length (chain_of rows c) < length (chain_of rows d))) → c ≡ d
      by (inl e) k = e
      by (inr l) (inl e) = sym e
      by (inr l) (inr m) = absurd (omega (arith, l, m))

  widens_is : (s t : Kind) → (widens rows s t ≡ true) ↔ WidensAt rows s t
  widens_is Null (Class d) = (λ h. tt, λ h. refl)
  widens_is (Class c) (Class d) = (to, back)
    where
      to : list_any (λ x. x == d) (chain_of rows c) ≡ true → IsSubclassAt rows c d
      to h = let m = any_in (λ x. x == d) (chain_of rows c) h in record { chain = chain_of rows c; goes_up = acyclic c; among = subst (In (chain_of rows c)) (eqb-true m.0 d m.2) m.1 }

      back : IsSubclassAt rows c d → list_any (λ x. x == d) (chain_of rows c) ≡ true
      back s = in_any (λ x. x == d) (chain_of rows c) d (subst (λ (cs : List ℕ). In cs d) (one_chain rows c s.chain (chain_of rows c) s.goes_up (acyclic c)) s.among) (eq-eqb d d refl)
  widens_is _ _ = (λ h. absurd cc, λ h. absurd h)

  -- a test that decides it is the exact one
  pub widens_by : (c d : ℕ) (b : Bool) → (IsTrue b ↔ IsSubclassAt rows c d) → b ≡ widens rows (Class c) (Class d)
  widens_by c d true h = sym ((widens_is (Class c) (Class d)).1 (h.0 refl))
  widens_by c d false h = by (widens rows (Class c) (Class d)) refl
    where
      by : (x : Bool) → widens rows (Class c) (Class d) ≡ x → false ≡ x
      by true e = let t = h.1 ((widens_is (Class c) (Class d)).0 e) in absurd cc
      by false e = refl

  pub assignable_is : (s t : Kind) → (assignable rows s t ≡ true) ↔ IsAssignableAt rows s t
  unfolding assignable
  assignable_is s t = (λ h. to (either_is (same_kind s t) (widens rows s t) h), back)
    where
      to : ((same_kind s t ≡ true) ⊎ (widens rows s t ≡ true)) → (s ≡ t) ⊎ WidensAt rows s t
      to (inl h) = inl ((kind_same s t).0 h)
      to (inr h) = inr ((widens_is s t).0 h)

      back : ((s ≡ t) ⊎ WidensAt rows s t) → (same_kind s t || widens rows s t) ≡ true
      back (inl e) = left_is (same_kind s t) (widens rows s t) ((kind_same s t).1 e)
      back (inr w) = right_is (same_kind s t) (widens rows s t) ((widens_is s t).1 w)

  pub fits_is : (ss ts : List Kind) → (fits rows ss ts ≡ true) ↔ Fit rows ss ts
  fits_is [] [] = (λ h. tt, λ h. refl)
  fits_is [] (t ∷ ts) = (λ h. absurd cc, λ h. absurd h)
  fits_is (s ∷ ss) [] = (λ h. absurd cc, λ h. absurd h)
  fits_is (s ∷ ss) (t ∷ ts) = (
    λ h. let b = and_both (assignable rows s t) (fits rows ss ts) h in ((assignable_is s t).0 b.0, (fits_is ss ts).0 b.1),
    λ h. and_true (assignable rows s t) (fits rows ss ts) ((assignable_is s t).1 h.0) ((fits_is ss ts).1 h.1),
  )

  same_both : (s t : Kind) → WidensAt rows s t → WidensAt rows t s → s ≡ t
  same_both Null (Class d) h k = absurd k
  same_both (Class c) Null h k = absurd h
  same_both (Class c) (Class d) h k = ap Class (no_two_below c d h k)
  same_both _ _ h k = absurd h

  same_types : (s t : Kind) → IsAssignableAt rows s t → IsAssignableAt rows t s → s ≡ t
  same_types s t (inl e) k = e
  same_types s t (inr w) (inl e) = sym e
  same_types s t (inr w) (inr v) = same_both s t w v

  pub both_fit : (ss ts : List Kind) → Fit rows ss ts → Fit rows ts ss → ss ≡ ts
  both_fit [] [] h k = refl
  both_fit [] (t ∷ ts) h k = absurd h
  both_fit (s ∷ ss) [] h k = absurd h
  both_fit (s ∷ ss) (t ∷ ts) h k = λ i. same_types s t h.0 k.0 i ∷ both_fit ss ts h.1 k.1 i

  pub params_are : (j : ℕ) (params : List Kind) → HasParams rows j params → params_at rows j ≡ params
  params_are j params h = ap params_in h.stands ∙ h.takes

  pub has_params : (j : ℕ) (e : Entry) → slice_get rows j ≡ Some e → HasParams rows j (params_at rows j)
  has_params j e at = record { row = e; stands = at; takes = sym (ap params_in at) }

  pub specific_is : (j k : ℕ) → HasParams rows j (params_at rows j) → HasParams rows k (params_at rows k) → (as_specific rows j k ≡ true) ↔ IsAsSpecific rows j k
  unfolding as_specific
  specific_is j k a b = (
    λ h. record { left = params_at rows j; right = params_at rows k; has_left = a; has_right = b; fit = (fits_is (params_at rows j) (params_at rows k)).0 h },
    λ h. (λ i. fits rows (params_are j h.left h.has_left i) (params_are k h.right h.has_right i)) ∙ (fits_is h.left h.right).1 h.fit,
  )

  -- two of which each is as specific as the other have the same parameter types
  pub same_params : (j k : ℕ) → IsAsSpecific rows j k → IsAsSpecific rows k j → params_at rows j ≡ params_at rows k
  same_params j k h g =
      let a = params_are j h.left h.has_left in
      let b = params_are k h.right h.has_right in
      let c = params_are k g.left g.has_left in
      let d = params_are j g.right g.has_right in
      let back : Fit rows h.right h.left = subst (λ (xs : List Kind). Fit rows xs h.left) (sym c ∙ b) (subst (Fit rows g.left) (sym d ∙ a) g.fit) in
      a ∙ both_fit h.left h.right h.fit back ∙ sym b
