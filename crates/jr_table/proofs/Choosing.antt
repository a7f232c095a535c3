-- What is chosen is what the relation says, for any tests that decide the properties.
use Rattle.std.proofs.Common.{◌≡◌, ℕ, suc, ◌≤◌, List, [], ◌∷◌, Option, Some, None, Bool, true, false, cond, refl, sym, ap, subst, ◌∙◌, inl, inr, eq-eqb, eqb-true, arith}
use Rattle.std.specs.Prelude.{◌⊎◌, ◌↔◌, ◌&&◌, ◌||◌, ◌==◌, filter}
use Rattle.std.specs.List.{list_all}
use Rattle.jr_table.specs.declared.answers.Answer.{Answer}
use Rattle.jr_table.specs.declared.answers.Answer.TheVariants.{One, Nothing, Many, NotAccessible, FromStatic}
use Rattle.jr_table.specs.Chains.{In}
use Rattle.jr_table.specs.Choice.{IsLeast, AreTwoLeast, IsBest, IsChosen, Chooses, winner, is_best, choose_open, choose, second_of}
use Rattle.jr_table.proofs.Assigning.{either_is, left_is, right_is}
use Rattle.jr_table.proofs.Ascending.{Ascends, at_least, begins, first_is_one, second_is_one, least_is_one}

pub all_in : (p : ℕ → Bool) (xs : List ℕ) → list_all p xs ≡ true → (j : ℕ) → In xs j → p j ≡ true
all_in p [] h j i = absurd i
all_in p (x ∷ xs) h j i = by (p x) refl h i (λ h. all_in p xs h j)
  where
    by : (b : Bool) → p x ≡ b → (b && list_all p xs) ≡ true → ((x ≡ j) ⊎ In xs j) → (list_all p xs ≡ true → In xs j → p j ≡ true) → p j ≡ true
    by true e h (inl s) more = ap p (sym s) ∙ e
    by true e h (inr i) more = more h i
    by false e h i more = absurd cc

pub in_all : (p : ℕ → Bool) (xs : List ℕ) → ((j : ℕ) → In xs j → p j ≡ true) → list_all p xs ≡ true
in_all p [] h = refl
in_all p (x ∷ xs) h = ap (λ b. b && list_all p xs) (h x (inl refl)) ∙ in_all p xs (λ j i. h j (inr i))

pub kept_in : (p : ℕ → Bool) (xs : List ℕ) (j : ℕ) → In (filter p xs) j → In xs j × (p j ≡ true)
kept_in p [] j h = absurd h
kept_in p (x ∷ xs) j h = by (p x) refl h (kept_in p xs j)
  where
    by : (b : Bool) → p x ≡ b → In (cond b (x ∷ filter p xs) (filter p xs)) j → (In (filter p xs) j → In xs j × (p j ≡ true)) → In (x ∷ xs) j × (p j ≡ true)
    by true e (inl s) more = (inl s, ap p (sym s) ∙ e)
    by true e (inr i) more = let m = more i in (inr m.0, m.1)
    by false e i more = let m = more i in (inr m.0, m.1)

pub in_kept : (p : ℕ → Bool) (xs : List ℕ) (j : ℕ) → In xs j → p j ≡ true → In (filter p xs) j
in_kept p [] j i h = absurd i
in_kept p (x ∷ xs) j i h = by (p x) refl i (λ i. in_kept p xs j i h)
  where
    by : (b : Bool) → p x ≡ b → ((x ≡ j) ⊎ In xs j) → (In xs j → In (filter p xs) j) → In (cond b (x ∷ filter p xs) (filter p xs)) j
    by true e (inl s) more = inl s
    by true e (inr i) more = inr (more i)
    by false e (inl s) more = let t : p x ≡ true = ap p s ∙ h in absurd cc
    by false e (inr i) more = more i

-- what is left is among them
winner_in : (before : ℕ → ℕ → Bool) (d : ℕ) (ks : List ℕ) → In (d ∷ ks) (winner before d ks)
winner_in before d [] = inl refl
winner_in before d (k ∷ ks) = by (before d k) (λ x. winner_in before x ks)
  where
    by : (b : Bool) → ((x : ℕ) → In (x ∷ ks) (winner before x ks)) → In (d ∷ k ∷ ks) (winner before (cond b d k) ks)
    by true more = first (more d)
      where
        first : In (d ∷ ks) (winner before d ks) → In (d ∷ k ∷ ks) (winner before d ks)
        first (inl s) = inl s
        first (inr m) = inr (inr m)
    by false more = inr (more k)

-- No two that are accessible are each as specific as the other.
module _ (Candidate Open : ℕ → Type 0) (Before : ℕ → ℕ → Type 0) (before : ℕ → ℕ → Bool) (candidates opens : List ℕ)
    (cand : (j : ℕ) → In candidates j ↔ Candidate j) (open_is : (j : ℕ) → In opens j ↔ Open j) (before_is : (j k : ℕ) → Open j → Open k → (before j k ≡ true) ↔ Before j k)
    (apart : (j k : ℕ) → Open j → Open k → Before j k → Before k j → j ≡ k)
    (candidates_ascend : Ascends 0 candidates) (opens_ascend : Ascends 0 opens) where
  best_to : (j : ℕ) → In opens j → is_best before opens j ≡ true → IsBest Candidate Open Before j
  best_to j i h = record { own = mine; each = λ k o. goes k o (either_is (k == j) (before j k) (all_in (λ x. (x == j) || before j x) opens h k ((open_is k).1 o))) }
    where
      mine : Open j
      mine = (open_is j).0 i

      goes : (k : ℕ) → Open k → ((k == j) ≡ true) ⊎ (before j k ≡ true) → (k ≡ j) ⊎ Before j k
      goes k o (inl e) = inl (eqb-true k j e)
      goes k o (inr b) = inr ((before_is j k mine o).0 b)

  to_best : (j : ℕ) → IsBest Candidate Open Before j → is_best before opens j ≡ true
  to_best j b = in_all (λ x. (x == j) || before j x) opens (λ k m. comes k ((open_is k).0 m) (b.each k ((open_is k).0 m)))
    where
      comes : (k : ℕ) → Open k → ((k ≡ j) ⊎ Before j k) → ((k == j) || before j k) ≡ true
      comes k o (inl e) = left_is (k == j) (before j k) (eq-eqb k j e)
      comes k o (inr h) = right_is (k == j) (before j k) ((before_is j k b.own o).1 h)

  -- the best is the only one
  best_chosen : (j : ℕ) → IsBest Candidate Open Before j → IsChosen Candidate Open Before j
  best_chosen j b = record { best = b; only = λ k c. by k c (b.each k c.own) (c.each j b.own) }
    where
      by : (k : ℕ) → IsBest Candidate Open Before k → ((k ≡ j) ⊎ Before j k) → ((j ≡ k) ⊎ Before k j) → k ≡ j
      by k c (inl e) _ = e
      by k c (inr h) (inl e) = sym e
      by k c (inr h) (inr g) = sym (apart j k b.own c.own h g)

  abbrev Wins : ℕ → ℕ → List ℕ → Type 0
  Wins i d ks = ((j : ℕ) → In (d ∷ ks) j → Open j) → In (d ∷ ks) i → ((k : ℕ) → In (d ∷ ks) k → (k ≡ i) ⊎ Before i k) → winner before d ks ≡ i

  -- one that is as specific as every other is left
  wins : (i d : ℕ) (ks : List ℕ) → Wins i d ks
  wins i d [] all (inl s) best = s
  wins i d [] all (inr m) best = absurd m
  wins i d (k ∷ ks) all at best = by (before d k) refl (λ x. wins i x ks)
    where
      -- the first two, by their places
      skip : (j : ℕ) → In (d ∷ ks) j → In (d ∷ k ∷ ks) j
      skip j (inl s) = inl s
      skip j (inr m) = inr (inr m)

      stays : Before d k → In (d ∷ k ∷ ks) i → In (d ∷ ks) i
      stays b (inl s) = inl s
      stays b (inr (inl s)) = first (best d (inl refl))
        where
          first : ((d ≡ i) ⊎ Before i d) → In (d ∷ ks) i
          first (inl e) = inl e
          first (inr h) = inl (apart d i (all d (inl refl)) (all i at) (subst (Before d) s b) h)
      stays b (inr (inr m)) = inr m

      moves : (before d k ≡ false) → In (d ∷ k ∷ ks) i → In (k ∷ ks) i
      moves f (inl s) = next (best k (inr (inl refl)))
        where
          next : ((k ≡ i) ⊎ Before i k) → In (k ∷ ks) i
          next (inl e) = inl e
          next (inr h) = let t = (before_is d k (all d (inl refl)) (all k (inr (inl refl)))).1 (subst (λ (x : ℕ). Before x k) (sym s) h) in absurd cc
      moves f (inr m) = m

      by : (b : Bool) → before d k ≡ b → ((x : ℕ) → Wins i x ks) → winner before (cond b d k) ks ≡ i
      by true e more = more d (λ j m. all j (skip j m)) (stays ((before_is d k (all d (inl refl)) (all k (inr (inl refl)))).0 e) at) (λ j m. best j (skip j m))
      by false e more = more k (λ j m. all j (inr m)) (moves e at) (λ j m. best j (inr m))

  two_are : (d b : ℕ) (es : List ℕ) → opens ≡ d ∷ b ∷ es → AreTwoLeast Open d b
  two_are d b es e =
      let h = begins 0 d b es (subst (λ (ys : List ℕ). Ascends 0 ys) e opens_ascend) in
      ((open_is d).0 (subst (λ (ys : List ℕ). In ys d) (sym e) h.0), (open_is b).0 (subst (λ (ys : List ℕ). In ys b) (sym e) h.1), h.2, λ i o. h.3 i (subst (λ (ys : List ℕ). In ys i) e ((open_is i).1 o)))

  least_is : (c : ℕ) (cs : List ℕ) → candidates ≡ c ∷ cs → IsLeast Candidate c
  least_is c cs e = ((cand c).0 (subst (λ (ys : List ℕ). In ys c) (sym e) (inl refl)), λ i o. by i (subst (λ (ys : List ℕ). In ys i) e ((cand i).1 o)))
    where
      up : Ascends 0 (c ∷ cs)
      up = subst (λ (ys : List ℕ). Ascends 0 ys) e candidates_ascend

      by : (i : ℕ) → In (c ∷ cs) i → c ≤ i
      by i (inl s) = omega (arith, s)
      by i (inr m) = let l = at_least (suc c) cs i up.1 m in omega (arith, l)

  module _ (d : ℕ) (ds : List ℕ) (e : opens ≡ d ∷ ds) where
    all_open : (j : ℕ) → In (d ∷ ds) j → Open j
    all_open j m = (open_is j).0 (subst (λ (ys : List ℕ). In ys j) (sym e) m)

    in_list : (j : ℕ) → Open j → In (d ∷ ds) j
    in_list j o = subst (λ (ys : List ℕ). In ys j) e ((open_is j).1 o)

    left_best : is_best before (d ∷ ds) (winner before d ds) ≡ true → IsBest Candidate Open Before (winner before d ds)
    left_best h =
        best_to (winner before d ds) (subst (λ (ys : List ℕ). In ys (winner before d ds)) (sym e) (winner_in before d ds))
        (ap (λ ys. is_best before ys (winner before d ds)) e ∙ h)

    -- the one that is chosen is left
    chosen_left : (i : ℕ) → IsChosen Candidate Open Before i → is_best before (d ∷ ds) (winner before d ds) ≡ true
    chosen_left i c =
        let same = wins i d ds all_open (in_list i c.best.own) (λ k m. c.best.each k (all_open k m)) in
        ap (is_best before (d ∷ ds)) same ∙ sym (ap (λ ys. is_best before ys i) e) ∙ to_best i c.best

    none_chosen : is_best before (d ∷ ds) (winner before d ds) ≡ false → (i : ℕ) → IsChosen Candidate Open Before i → ⊥
    none_chosen h i c = let t = chosen_left i c in absurd cc

  -- the one that is open is chosen
  alone : (d : ℕ) → opens ≡ d ∷ [] → IsChosen Candidate Open Before d
  alone d e = record { best = record { own = mine; each = λ k o. inl (same k o) }; only = λ k b. same k b.own }
    where
      is : (k : ℕ) → In (d ∷ []) k → k ≡ d
      is k (inl s) = sym s
      is k (inr m) = absurd m

      same : (k : ℕ) → Open k → k ≡ d
      same k o = is k (subst (λ (ys : List ℕ). In ys k) e ((open_is k).1 o))

      mine : Open d
      mine = (open_is d).0 (subst (λ (ys : List ℕ). In ys d) (sym e) (inl refl))

  pub chooses : Chooses Candidate Open Before (choose before candidates opens)
  chooses = of candidates refl
    where
      tested : (d : ℕ) (ds : List ℕ) → opens ≡ d ∷ ds → (b : Bool) → is_best before (d ∷ ds) (winner before d ds) ≡ b → Chooses Candidate Open Before (cond b (One (winner before d ds)) (Many d (second_of d ds)))
      tested d ds e true h = best_chosen (winner before d ds) (left_best d ds e h)
      tested d [] e false h = absurd (none_chosen d [] e h d (alone d e))
      tested d (b ∷ es) e false h = (two_are d b es e, none_chosen d (b ∷ es) e h)

      opens_say : (c : ℕ) → IsLeast Candidate c → (xs : List ℕ) → opens ≡ xs → Chooses Candidate Open Before (choose_open before c xs)
      opens_say c h [] e = (h, λ k o. let I : List ℕ → Type 0 = λ ys. In ys k in subst I e ((open_is k).1 o))
      opens_say c h (d ∷ ds) e = tested d ds e (is_best before (d ∷ ds) (winner before d ds)) refl

      of : (cs : List ℕ) → candidates ≡ cs → Chooses Candidate Open Before (choose before cs opens)
      of [] e = λ j h. subst (λ (ys : List ℕ). In ys j) e ((cand j).1 h)
      of (c ∷ cs) e = opens_say c (least_is c cs e) opens refl

-- the relation allows one answer
module _ (Candidate Open : ℕ → Type 0) (Before : ℕ → ℕ → Type 0) (open_candidate : (j : ℕ) → Open j → Candidate j) where
  pub one_answer : (f g : Answer) → Chooses Candidate Open Before f → Chooses Candidate Open Before g → f ≡ g
  one_answer Nothing Nothing h c = refl
  one_answer Nothing (One k) h c = absurd (h k (open_candidate k c.best.own))
  one_answer Nothing (NotAccessible k) h c = absurd (h k c.0.0)
  one_answer Nothing (Many k l) h c = absurd (h k (open_candidate k c.0.0))
  one_answer Nothing (FromStatic k) h c = absurd c
  one_answer (One i) Nothing h c = absurd (c i (open_candidate i h.best.own))
  one_answer (One i) (One k) h c = ap One (c.only i h.best)
  one_answer (One i) (NotAccessible k) h c = absurd (c.1 i h.best.own)
  one_answer (One i) (Many k l) h c = absurd (c.1 i h)
  one_answer (One i) (FromStatic k) h c = absurd c
  one_answer (NotAccessible i) Nothing h c = absurd (c i h.0.0)
  one_answer (NotAccessible i) (One k) h c = absurd (h.1 k c.best.own)
  one_answer (NotAccessible i) (NotAccessible k) h c = ap NotAccessible (least_is_one Candidate i k h.0 c.0)
  one_answer (NotAccessible i) (Many k l) h c = absurd (h.1 k c.0.0)
  one_answer (NotAccessible i) (FromStatic k) h c = absurd c
  one_answer (Many i j) Nothing h c = absurd (c i (open_candidate i h.0.0))
  one_answer (Many i j) (One k) h c = absurd (h.1 k c)
  one_answer (Many i j) (NotAccessible k) h c = absurd (c.1 i h.0.0)
  one_answer (Many i j) (Many k l) h c = let f = first_is_one Open i j k l h.0 c.0 in let s = second_is_one Open i j k l h.0 c.0 f in (λ t. Many (f t) (s t))
  one_answer (Many i j) (FromStatic k) h c = absurd c
  one_answer (FromStatic i) g h c = absurd h
