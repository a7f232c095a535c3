-- The numbers that pass, in order, and lists that ascend.
use Rattle.std.proofs.Common.{◌≡◌, ℕ, zero, suc, ◌+◌, ◌<◌, ◌≤◌, List, [], ◌∷◌, ◌++◌, Bool, true, false, cond, refl, sym, ap, subst, ◌∙◌, inl, inr, arith}
use Rattle.std.specs.Prelude.{◌⊎◌, ◌↔◌, filter}
use Rattle.jr_table.specs.Chains.{In}
use Rattle.jr_table.specs.Choice.{IsLeast, AreTwoLeast}
use Rattle.jr_table.specs.Calls.{passing}

-- each is at least n, and more than the one before
abbrev pub Ascends : ℕ → List ℕ → Type 0
Ascends n [] = Unit {0}
Ascends n (x ∷ xs) = (n ≤ x) × Ascends (suc x) xs

weaker : (m n : ℕ) (xs : List ℕ) → m ≤ n → Ascends n xs → Ascends m xs
weaker m n [] le h = tt
weaker m n (x ∷ xs) le h = let l = h.0 in (omega (arith, le, l), h.1)

pub kept_ascend : (test : ℕ → Bool) (n : ℕ) (xs : List ℕ) → Ascends n xs → Ascends n (filter test xs)
kept_ascend test n [] h = tt
kept_ascend test n (x ∷ xs) h = by (test x) (kept_ascend test (suc x) xs h.1)
  where
    by : (b : Bool) → Ascends (suc x) (filter test xs) → Ascends n (cond b (x ∷ filter test xs) (filter test xs))
    by true more = (h.0, more)
    by false more = let l = h.0 in weaker n (suc x) (filter test xs) (omega (arith, l)) more

pub at_least : (n : ℕ) (xs : List ℕ) (j : ℕ) → Ascends n xs → In xs j → n ≤ j
at_least n [] j h i = absurd i
at_least n (x ∷ xs) j h (inl s) = subst (λ (y : ℕ). n ≤ y) s h.0
at_least n (x ∷ xs) j h (inr i) = let l = h.0 in let m = at_least (suc x) xs j h.1 i in omega (arith, l, m)

pub in_left : (xs ys : List ℕ) (j : ℕ) → In xs j → In (xs ++ ys) j
in_left [] ys j h = absurd h
in_left (x ∷ xs) ys j (inl e) = inl e
in_left (x ∷ xs) ys j (inr h) = inr (in_left xs ys j h)

pub in_right : (xs ys : List ℕ) (j : ℕ) → In ys j → In (xs ++ ys) j
in_right [] ys j h = h
in_right (x ∷ xs) ys j h = inr (in_right xs ys j h)

pub in_either : (xs ys : List ℕ) (j : ℕ) → In (xs ++ ys) j → In xs j ⊎ In ys j
in_either [] ys j h = inr h
in_either (x ∷ xs) ys j (inl e) = inl (inl e)
in_either (x ∷ xs) ys j (inr h) = first (in_either xs ys j h)
  where
    first : (In xs j ⊎ In ys j) → In (x ∷ xs) j ⊎ In ys j
    first (inl h) = inl (inr h)
    first (inr h) = inr h

-- one more, above all others
one_more : (m n : ℕ) (xs : List ℕ) → Ascends m xs → ((j : ℕ) → In xs j → j < n) → m ≤ n → Ascends m (xs ++ n ∷ [])
one_more m n [] h below le = (le, tt)
one_more m n (x ∷ xs) h below le = let l = below x (inl refl) in (h.0, one_more (suc x) n xs h.1 (λ j i. below j (inr i)) (omega (arith, l)))

module _ (test : ℕ → Bool) where
  split : (a b : ℕ) → a < suc b → (a < b) ⊎ (a ≡ b)
  split a b h = grind arith

  pub passing_is : (n j : ℕ) → In (passing test n) j ↔ ((j < n) × (test j ≡ true))
  passing_is zero j = (λ h. absurd h, λ h. let l = h.0 in absurd (omega (arith, l)))
  passing_is (suc n) j = by (test n) refl (passing_is n j)
    where
      by : (b : Bool) → test n ≡ b → (In (passing test n) j ↔ ((j < n) × (test j ≡ true))) → In (passing test n ++ cond b (n ∷ []) []) j ↔ ((j < suc n) × (test j ≡ true))
      by true e more = (λ h. to (in_either (passing test n) (n ∷ []) j h), λ h. back (split j n h.0) h.1)
        where
          to : (In (passing test n) j ⊎ In (n ∷ []) j) → (j < suc n) × (test j ≡ true)
          to (inl i) = let m = more.0 i in let l = m.0 in (omega (arith, l), m.1)
          to (inr (inl s)) = (omega (arith, s), ap test (sym s) ∙ e)
          to (inr (inr i)) = absurd i

          back : ((j < n) ⊎ (j ≡ n)) → test j ≡ true → In (passing test n ++ n ∷ []) j
          back (inl l) t = in_left (passing test n) (n ∷ []) j (more.1 (l, t))
          back (inr s) t = in_right (passing test n) (n ∷ []) j (inl (sym s))
      by false e more = (λ h. to (in_either (passing test n) [] j h), λ h. back (split j n h.0) h.1)
        where
          to : (In (passing test n) j ⊎ In [] j) → (j < suc n) × (test j ≡ true)
          to (inl i) = let m = more.0 i in let l = m.0 in (omega (arith, l), m.1)
          to (inr i) = absurd i

          back : ((j < n) ⊎ (j ≡ n)) → test j ≡ true → In (passing test n ++ []) j
          back (inl l) t = in_left (passing test n) [] j (more.1 (l, t))
          back (inr s) t = let f : test n ≡ true = ap test (sym s) ∙ t in absurd cc

  pub passing_ascends : (n : ℕ) → Ascends 0 (passing test n)
  passing_ascends zero = tt
  passing_ascends (suc n) = by (test n) (passing_ascends n)
    where
      all : (xs : List ℕ) (k : ℕ) → Ascends k xs → Ascends k (xs ++ [])
      all [] k h = tt
      all (x ∷ xs) k h = (h.0, all xs (suc x) h.1)

      by : (b : Bool) → Ascends 0 (passing test n) → Ascends 0 (passing test n ++ cond b (n ∷ []) [])
      by true h = one_more 0 n (passing test n) h (λ j i. ((passing_is n j).0 i).0) (omega arith)
      by false h = all (passing test n) 0 h

-- the first two of a list that ascends
pub begins : (n a b : ℕ) (xs : List ℕ) → Ascends n (a ∷ b ∷ xs) → AreTwoLeast (In (a ∷ b ∷ xs)) a b
begins n a b xs h = (inl refl, inr (inl refl), less h.1.0, each)
  where
    less : suc a ≤ b → a < b
    less l = omega (arith, l)

    each : (i : ℕ) → In (a ∷ b ∷ xs) i → (i ≡ a) ⊎ (b ≤ i)
    each i (inl s) = inl (sym s)
    each i (inr (inl s)) = inr (omega (arith, s))
    each i (inr (inr m)) = let l = at_least (suc b) xs i h.1.1 m in inr (omega (arith, l))

-- there is one answer
pub first_is_one : (P : ℕ → Type 0) (a b c d : ℕ) → AreTwoLeast P a b → AreTwoLeast P c d → a ≡ c
first_is_one P a b c d h k = by (h.3 c k.0) (k.3 a h.0)
  where
    less : a < b
    less = h.2

    lower : c < d
    lower = k.2

    by : (c ≡ a) ⊎ (b ≤ c) → (a ≡ c) ⊎ (d ≤ a) → a ≡ c
    by (inl s) _ = sym s
    by (inr l) (inl s) = s
    by (inr l) (inr m) = absurd (omega (arith, l, m, less, lower))

pub second_is_one : (P : ℕ → Type 0) (a b c d : ℕ) → AreTwoLeast P a b → AreTwoLeast P c d → a ≡ c → b ≡ d
second_is_one P a b c d h k same = by (h.3 d k.1) (k.3 b h.1)
  where
    less : a < b
    less = h.2

    lower : c < d
    lower = k.2

    by : (d ≡ a) ⊎ (b ≤ d) → (b ≡ c) ⊎ (d ≤ b) → b ≡ d
    by (inl s) _ = absurd (omega (arith, s, same, lower))
    by (inr l) (inl s) = absurd (omega (arith, s, same, less))
    by (inr l) (inr m) = omega (arith, l, m)

pub least_is_one : (P : ℕ → Type 0) (a b : ℕ) → IsLeast P a → IsLeast P b → a ≡ b
least_is_one P a b h k = let l = h.1 b k.0 in let m = k.1 a h.0 in omega (arith, l, m)
