-- Laws of ways.
use Rattle.std.proofs.Common.{◌≡◌, ◌⊎◌, ◌≤◌, ◌<◌, ℕ, zero, suc, ◌+◌, refl, sym, subst, inl, inr, ⊎_elim, arith}
use Rattle.std.proofs.lemmas.Bool.{cases_eq, cases_lt}
use Rattle.jr_cover.specs.Paths.{Path, edge, onward}
use Rattle.jr_cover.specs.Ways.{Way, pass, one, row, fork, leave, turns, inside, size, Passes, LeavesAtOnce, First, Ends, Last, Leaves, Again, Edge, Straight}

pub joined : {E : ℕ → ℕ → Type 0} (a b c : ℕ) → Path E a b → Path E b c → Path E a c
joined a b c (edge _ _ e) q = onward a b c e q
joined a b c (onward _ d _ e p) q = onward a d c e (joined d b c p q)

-- the site is the other, or a path leads there
abbrev pub To : (ℕ → ℕ → Type 0) → ℕ → ℕ → Type 0
To E a b = (a ≡ b) ⊎ Path E a b

pub from_to : {E : ℕ → ℕ → Type 0} (a b c : ℕ) → Path E a b → To E b c → Path E a c
from_to {E = E} a b c p h = ⊎_elim (λ (e : b ≡ c). subst (λ x. Path E a x) e p) (λ q. joined a b c p q) h

pub to_edge : {E : ℕ → ℕ → Type 0} (a b c : ℕ) → To E a b → E b c → Path E a c
to_edge {E = E} a b c h e = ⊎_elim (λ (i : a ≡ b). edge a c (subst (λ x. E x c) (sym i) e)) (λ p. joined a b c p (edge b c e)) h

abbrev pub Within : {S : Type 0} → ℕ → Way S → ℕ → Type 0
Within n w i = (n ≤ i) × (i < n + size w)

same : (i n : ℕ) → (i ≡ n) ⊎ (i ≡ n → ⊥)
same i n = cases_eq i n

less : (i n : ℕ) → (i < n) ⊎ (i < n → ⊥)
less i n = ⊎_elim (λ (e : i < n). inl e) (λ (e : n ≤ i). inr (λ (k : i < n). omega (arith, e, k))) (cases_lt i n)

-- each way begins
pub starts : {S : Type 0} (n : ℕ) (w : Way S) → ((f : ℕ) × First n w f) ⊎ Passes w ⊎ LeavesAtOnce w
starts n pass = inr (inl tt)
starts n (one s) = inl (n, refl)
starts n (row a b) = ⊎_elim
    (λ h. inl (h.0, inl h.1))
    (λ h. ⊎_elim
    (λ p. ⊎_elim (λ g. inl (g.0, inr (p, g.1))) (λ g. ⊎_elim (λ q. inr (inl (p, q))) (λ l. inr (inr (inr (p, l)))) g) (starts (n + size a) b))
    (λ l. inr (inr (inl l))) h)
    (starts n a)
starts n (fork a b) = ⊎_elim
    (λ h. inl (h.0, inl h.1))
    (λ h. ⊎_elim (λ p. inr (inl (inl p))) (λ l. inr (inr (inl l))) h)
    (starts n a)
starts n leave = inr (inr tt)
starts n (turns s c b) = inl (n, refl)
starts n (inside e b x) = inl (n, refl)

pub first_within : {S : Type 0} (n : ℕ) (w : Way S) (i : ℕ) → First n w i → Within n w i
first_within n pass i h = absurd h
first_within n (one s) i h = (omega (arith, h), omega (arith, h))
first_within n (row a b) i h = ⊎_elim
    (λ g. let k = first_within n a i g in (k.0, omega (arith, k.1)))
    (λ g. let k = first_within (n + size a) b i g.1 in (omega (arith, k.0), omega (arith, k.1))) h
first_within n (fork a b) i h = ⊎_elim
    (λ g. let k = first_within n a i g in (k.0, omega (arith, k.1)))
    (λ g. let k = first_within (n + size a) b i g in (omega (arith, k.0), omega (arith, k.1))) h
first_within n leave i h = absurd h
first_within n (turns s c b) i h = (omega (arith, h), omega (arith, h))
first_within n (inside e b x) i h = (omega (arith, h), omega (arith, h))

-- a straight way has no way to the member's end
pub straight_stays : {S : Type 0} (w : Way S) → Straight w → LeavesAtOnce w → ⊥
straight_stays pass s h = h
straight_stays (one x) s h = h
straight_stays (row a b) s h = ⊎_elim (λ g. straight_stays a s.0 g) (λ g. straight_stays b s.1 g.1) h
straight_stays (fork a b) s h = ⊎_elim (λ g. straight_stays a s.0 g) (λ g. straight_stays b s.1 g) h
straight_stays leave s h = s
straight_stays (turns x c b) s h = s
straight_stays (inside e b x) s h = s

pub straight_goes_on : {S : Type 0} (n : ℕ) (w : Way S) (i : ℕ) → Straight w → Leaves n w i → ⊥
straight_goes_on n pass i s h = h
straight_goes_on n (one x) i s h = h
straight_goes_on n (row a b) i s h = ⊎_elim (λ g. straight_goes_on n a i s.0 g) (λ k. ⊎_elim (λ g. straight_goes_on (n + size a) b i s.1 g) (λ g. straight_stays b s.1 g.0) k) h
straight_goes_on n (fork a b) i s h = ⊎_elim (λ g. straight_goes_on n a i s.0 g) (λ g. straight_goes_on (n + size a) b i s.1 g) h
straight_goes_on n leave i s h = s
straight_goes_on n (turns x c b) i s h = s
straight_goes_on n (inside e b x) i s h = s

-- The conditions of a way's loops are straight.
abbrev pub Fair : {S : Type 0} → Way S → Type 0
Fair pass = Unit {0}
Fair (one s) = Unit {0}
Fair (row a b) = Fair a × Fair b
Fair (fork a b) = Fair a × Fair b
Fair leave = Unit {0}
Fair (turns s c b) = Straight c × Fair c × Fair b
Fair (inside e b x) = Fair b

-- from a site a way leads out of the piece: behind it (P), or to the member's end (Q)
abbrev pub Out : (ℕ → ℕ → Type 0) → (P Q : ℕ → Type 0) → ℕ → Type 0
Out E P Q i = ((l : ℕ) × P l × To E i l) ⊎ ((l : ℕ) × Q l × To E i l)

abbrev pub Holds : {S : Type 0} → (ℕ → ℕ → Type 0) → ℕ → Way S → Type 0
Holds E n w = (i j : ℕ) → Edge n w i j → E i j

out_by : {E : ℕ → ℕ → Type 0} (P Q P' Q' : ℕ → Type 0) (i : ℕ) → ((l : ℕ) → P l → To E i l → Out E P' Q' i) → ((l : ℕ) → Q l → To E i l → Out E P' Q' i) → Out E P Q i → Out E P' Q' i
out_by P Q P' Q' i f g h = ⊎_elim (λ k. f k.0 k.1 k.2) (λ k. g k.0 k.1 k.2) h

-- a way leads out from what comes behind
out_behind : {E : ℕ → ℕ → Type 0} (P Q : ℕ → Type 0) (i j : ℕ) → Path E i j → Out E P Q j → Out E P Q i
out_behind P Q i j p h = ⊎_elim (λ k. inl (k.0, k.1, inr (from_to i j k.0 p k.2))) (λ k. inr (k.0, k.1, inr (from_to i j k.0 p k.2))) h

module _ {S : Type 0} (E : ℕ → ℕ → Type 0) where
  -- from its entry or a site of its block a monitor's exit is reached
  pub exits : (n : ℕ) (b : Way S) (e x : S) → Holds E n (inside e b x) → ((i : ℕ) → Within (suc n) b i → Out E (λ l. Last (suc n) b l) (λ l. Leaves (suc n) b l) i)
      → (i : ℕ) → (i ≡ n) ⊎ Within (suc n) b i → Path E i (suc n + size b)
  exits n b e x holds ih i h = ⊎_elim
      (λ (q : i ≡ n). subst (λ k. Path E k (suc n + size b)) (sym q) entry)
      (λ w. within i w) h
    where
      within : (j : ℕ) → Within (suc n) b j → Path E j (suc n + size b)
      within j w = ⊎_elim
          (λ k. to_edge j k.0 (suc n + size b) k.2 (holds k.0 (suc n + size b) (inr (inr (inl (k.1, refl))))))
          (λ k. to_edge j k.0 (suc n + size b) k.2 (holds k.0 (suc n + size b) (inr (inr (inr (inl (k.1, refl)))))))
          (ih j w)

      entry : Path E n (suc n + size b)
      entry = ⊎_elim
          (λ f. joined n f.0 (suc n + size b) (edge n f.0 (holds n f.0 (inr (inl (refl, f.1))))) (within f.0 (first_within (suc n) b f.0 f.1)))
          (λ g. edge n (suc n + size b) (holds n (suc n + size b) (inr (inr (inr (inr (g, refl, refl)))))))
          (starts (suc n) b)

  -- out of the first of two pieces, and so out of both
  through_row : (n : ℕ) (a b : Way S) → Holds E n (row a b) → ((f : ℕ) → First (n + size a) b f → Out E (λ l. Last (n + size a) b l) (λ l. Leaves (n + size a) b l) f)
      → (i : ℕ) → Out E (λ l. Last n a l) (λ l. Leaves n a l) i → Out E (λ l. Last n (row a b) l) (λ l. Leaves n (row a b) l) i
  through_row n a b holds ih i h = out_by (λ l. Last n a l) (λ l. Leaves n a l) (λ l. Last n (row a b) l) (λ l. Leaves n (row a b) l) i on (λ l q t. inr (l, inl q, t)) h
    where
      on : (l : ℕ) → Last n a l → To E i l → Out E (λ k. Last n (row a b) k) (λ k. Leaves n (row a b) k) i
      on l q t = ⊎_elim
          (λ f. let p : Path E i f.0 = to_edge i l f.0 t (holds l f.0 (inr (inr (q, f.1)))) in
          ⊎_elim (λ k. inl (k.0, inl k.1, inr (from_to i f.0 k.0 p k.2))) (λ k. inr (k.0, inr (inl k.1), inr (from_to i f.0 k.0 p k.2))) (ih f.0 f.1))
          (λ g. ⊎_elim (λ (z : Passes b). inl (l, inr (z, q), t)) (λ (z : LeavesAtOnce b). inr (l, inr (inr (z, q)), t)) g)
          (starts (n + size a) b)

  -- the parts of a piece
  pub row_first : (n : ℕ) (a b : Way S) → Holds E n (row a b) → Holds E n a
  row_first n a b h i j e = h i j (inl e)

  pub row_second : (n : ℕ) (a b : Way S) → Holds E n (row a b) → Holds E (n + size a) b
  row_second n a b h i j e = h i j (inr (inl e))

  pub fork_first : (n : ℕ) (a b : Way S) → Holds E n (fork a b) → Holds E n a
  fork_first n a b h i j e = h i j (inl e)

  pub fork_second : (n : ℕ) (a b : Way S) → Holds E n (fork a b) → Holds E (n + size a) b
  fork_second n a b h i j e = h i j (inr e)

  pub turns_condition : (n : ℕ) (x : S) (c b : Way S) → Holds E n (turns x c b) → Holds E (suc n) c
  turns_condition n x c b h i j e = h i j (inl e)

  pub turns_body : (n : ℕ) (x : S) (c b : Way S) → Holds E n (turns x c b) → Holds E (suc n + size c) b
  turns_body n x c b h i j e = h i j (inr (inl e))

  pub inside_body : (n : ℕ) (e x : S) (b : Way S) → Holds E n (inside e b x) → Holds E (suc n) b
  inside_body n e x b h i j q = h i j (inl q)

  last_ends : (m n i : ℕ) (c : Way S) (body : Type 0) → (m ≡ size c) → Within (suc n) c i → Last (suc n) c i → Ends m n i (Passes c) (Last (suc n) c i) body
  last_ends zero n i c body e w l = absurd (omega (arith, e, w.0, w.1))
  last_ends (suc k) n i c body e w l = inl l

  pub last_within : (n : ℕ) (w : Way S) (i : ℕ) → Last n w i → Within n w i
  last_within n pass i h = absurd h
  last_within n (one s) i h = (omega (arith, h), omega (arith, h))
  last_within n (row a b) i h = ⊎_elim
      (λ g. let k = last_within (n + size a) b i g in (omega (arith, k.0), omega (arith, k.1)))
      (λ g. let k = last_within n a i g.1 in (k.0, omega (arith, k.1))) h
  last_within n (fork a b) i h = ⊎_elim
      (λ g. let k = last_within n a i g in (k.0, omega (arith, k.1)))
      (λ g. let k = last_within (n + size a) b i g in (omega (arith, k.0), omega (arith, k.1))) h
  last_within n leave i h = absurd h
  last_within n (turns s c b) i h = ends (size c) (λ l. last_within (suc n) c i l) (λ l. last_within (suc n + size c) b i l) h
    where
      ends : (m : ℕ) → (Last (suc n) c i → Within (suc n) c i) → (Last (suc n + size c) b i → Within (suc n + size c) b i) → Ends m n i (Passes c) (Last (suc n) c i) (Last (suc n + size c) b i) → Within n (turns s c b) i
      ends zero f g q = (omega (arith, q), omega (arith, q))
      ends (suc k) f g q = ⊎_elim
          (λ l. let d = f l in (omega (arith, d.0), omega (arith, d.1)))
          (λ z. ⊎_elim (λ (y : i ≡ n). (omega (arith, y), omega (arith, y))) (λ l. let d = g l in (omega (arith, d.0), omega (arith, d.1))) z.1) q
  last_within n (inside e b x) i h = (omega (arith, h.0), omega (arith, h.0))

  -- From each site of a piece a way leads out.
  module _ where
    abbrev OutOf : ℕ → Way S → ℕ → Type 0
    OutOf n w i = Out E (λ l. Last n w l) (λ l. Leaves n w l) i

    out_of_loop : (n : ℕ) (x : S) (c b : Way S) → Straight c → Holds E n (turns x c b)
        → ((i : ℕ) → Within (suc n) c i → OutOf (suc n) c i) → ((i : ℕ) → Within (suc n + size c) b i → OutOf (suc n + size c) b i)
        → (i : ℕ) → Within n (turns x c b) i → OutOf n (turns x c b) i
    out_of_loop n x c b s holds ic ib i w = ⊎_elim
        (λ (e : i ≡ n). subst (λ k. OutOf n (turns x c b) k) (sym e) at_start)
        (λ (d : i ≡ n → ⊥). ⊎_elim
        (λ (k : i < suc n + size c). in_condition i (omega (arith, w.0, d), k))
        (λ (k : i < suc n + size c → ⊥). in_body i (omega (arith, k), omega (arith, w.1))) (less i (suc n + size c)))
        (same i n)
      where
        in_condition : (j : ℕ) → Within (suc n) c j → OutOf n (turns x c b) j
        in_condition j v = ⊎_elim
            (λ k. inl (k.0, last_ends (size c) n k.0 c (Last (suc n + size c) b k.0) refl (last_within (suc n) c k.0 k.1) k.1, k.2))
            (λ k. absurd (straight_goes_on (suc n) c k.0 s k.1)) (ic j v)

        at_start : OutOf n (turns x c b) n
        at_start = ⊎_elim
            (λ f. out_behind (λ l. Last n (turns x c b) l) (λ l. Leaves n (turns x c b) l) n f.0 (edge n f.0 (holds n f.0 (inr (inr (inl (refl, f.1)))))) (in_condition f.0 (first_within (suc n) c f.0 f.1)))
            (λ g. ⊎_elim (λ (z : Passes c). inl (n, own (size c) z, inl refl)) (λ z. absurd (straight_stays c s z)) g)
            (starts (suc n) c)
          where
            own : (m : ℕ) → Passes c → Ends m n n (Passes c) (Last (suc n) c n) (Last (suc n + size c) b n)
            own zero z = refl
            own (suc k) z = inr (z, inl refl)

        in_body : (j : ℕ) → Within (suc n + size c) b j → OutOf n (turns x c b) j
        in_body j v = ⊎_elim
            (λ k. again k.0 k.1 k.2 (size c) refl)
            (λ k. inr (k.0, inl k.1, k.2)) (ib j v)
          where
            again : (l : ℕ) → Last (suc n + size c) b l → To E j l → (m : ℕ) → m ≡ size c → OutOf n (turns x c b) j
            again l q t zero e = out_behind (λ i. Last n (turns x c b) i) (λ i. Leaves n (turns x c b) i) j n
                (to_edge j l n t (holds l n (inr (inr (inr (inr (inl (q, subst (λ m. Again m n n (First (suc n) c n)) e refl)))))))) at_start
            again l q t (suc m) e = ⊎_elim
                (λ f. out_behind (λ i. Last n (turns x c b) i) (λ i. Leaves n (turns x c b) i) j f.0
                (to_edge j l f.0 t (holds l f.0 (inr (inr (inr (inr (inl (q, subst (λ m. Again m n f.0 (First (suc n) c f.0)) e f.1))))))))
                (in_condition f.0 (first_within (suc n) c f.0 f.1)))
                (λ g. ⊎_elim
                (λ (z : Passes c). inl (l, subst (λ m. Ends m n l (Passes c) (Last (suc n) c l) (Last (suc n + size c) b l)) e (inr (z, inr q)), t))
                (λ z. absurd (straight_stays c s z)) g)
                (starts (suc n) c)

    out_of_monitor : (n : ℕ) (e : S) (b : Way S) (x : S) → Holds E n (inside e b x) → ((j : ℕ) → Within (suc n) b j → OutOf (suc n) b j) → (i : ℕ) → Within n (inside e b x) i → OutOf n (inside e b x) i
    out_of_monitor n e b x h ih i w = ⊎_elim (λ y. inl (suc n + size b, (refl, y), to)) (λ y. inr (suc n + size b, (refl, y), to)) may_end
      where
        to : To E i (suc n + size b)
        to = ⊎_elim
            (λ (q : i ≡ n). inr (exits n b e x h ih i (inl q)))
            (λ (d : i ≡ n → ⊥). ⊎_elim
            (λ (q : i ≡ suc n + size b). inl q)
            (λ (c : i ≡ suc n + size b → ⊥). inr (exits n b e x h ih i (inr (omega (arith, w.0, d), omega (arith, w.1, c)))))
            (same i (suc n + size b)))
            (same i n)

        may_end : (Passes b ⊎ ((l : ℕ) × Last (suc n) b l)) ⊎ (LeavesAtOnce b ⊎ ((l : ℕ) × Leaves (suc n) b l))
        may_end = ⊎_elim
            (λ f. ⊎_elim (λ k. inl (inr (k.0, k.1))) (λ k. inr (inr (k.0, k.1))) (ih f.0 (first_within (suc n) b f.0 f.1)))
            (λ g. ⊎_elim (λ (z : Passes b). inl (inl z)) (λ (z : LeavesAtOnce b). inr (inl z)) g)
            (starts (suc n) b)

    pub leads_out : (n : ℕ) (w : Way S) → Fair w → Holds E n w → (i : ℕ) → Within n w i → OutOf n w i
    leads_out n pass f h i w = absurd (omega (arith, w.0, w.1))
    leads_out n (one s) f h i w = inl (i, omega (arith, w.0, w.1), inl refl)
    leads_out n (row a b) f h i w = ⊎_elim
        (λ (k : i < n + size a). through_row n a b h (λ j g. leads_out (n + size a) b f.1 (row_second n a b h) j (first_within (n + size a) b j g)) i (leads_out n a f.0 (row_first n a b h) i (w.0, k)))
        (λ (k : i < n + size a → ⊥). out_by (λ l. Last (n + size a) b l) (λ l. Leaves (n + size a) b l) (λ l. Last n (row a b) l) (λ l. Leaves n (row a b) l) i
        (λ l q t. inl (l, inl q, t)) (λ l q t. inr (l, inr (inl q), t)) (leads_out (n + size a) b f.1 (row_second n a b h) i (omega (arith, k), omega (arith, w.1))))
        (less i (n + size a))
    leads_out n (fork a b) f h i w = ⊎_elim
        (λ (k : i < n + size a). out_by (λ l. Last n a l) (λ l. Leaves n a l) (λ l. Last n (fork a b) l) (λ l. Leaves n (fork a b) l) i
        (λ l q t. inl (l, inl q, t)) (λ l q t. inr (l, inl q, t)) (leads_out n a f.0 (fork_first n a b h) i (w.0, k)))
        (λ (k : i < n + size a → ⊥). out_by (λ l. Last (n + size a) b l) (λ l. Leaves (n + size a) b l) (λ l. Last n (fork a b) l) (λ l. Leaves n (fork a b) l) i
        (λ l q t. inl (l, inr q, t)) (λ l q t. inr (l, inr q, t)) (leads_out (n + size a) b f.1 (fork_second n a b h) i (omega (arith, k), omega (arith, w.1))))
        (less i (n + size a))
    leads_out n leave f h i w = absurd (omega (arith, w.0, w.1))
    leads_out n (turns x c b) f h i w = out_of_loop n x c b f.0 h
        (λ j v. leads_out (suc n) c f.1 (turns_condition n x c b h) j v) (λ j v. leads_out (suc n + size c) b f.2 (turns_body n x c b h) j v) i w
    leads_out n (inside e b x) f h i w = out_of_monitor n e b x h (λ j v. leads_out (suc n) b f (inside_body n e x b h) j v) i w
