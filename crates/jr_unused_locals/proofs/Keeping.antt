-- A local of which it is known where it may differ, through a way that is kept, by induction on ways.
-- A loop's head agrees first for a try, and if what its body gives is less, it doesn't.
use Rattle.std.proofs.Common.{◌≡◌, ◌⊎◌, ◌<◌, ℕ, zero, suc, ◌+◌, Bool, true, false, ◌||◌, ◌&&◌, refl, sym, inl, inr, ⊎_elim, arith}
use Rattle.std.proofs.lemmas.Bool.{cases_eq}
use Rattle.jr_cover.specs.Ways.{Way, pass, one, row, fork, leave, turns, inside, size, Passes, First, Ends, Last, Edge, Again}
use Rattle.jr_cover.proofs.Apart.{false_true}
use Rattle.jr_unused_locals.specs.Agreement.{Within, Ok, ok_pass, ok_one, ok_row, ok_fork, ok_leave, ok_turns, ok_inside, Quiet, Stays}

pub no_falsehood : {A : Type 0} → true ≡ false → A
no_falsehood e = false_true (sym e)

-- what has a last site has a site
last_sized : {S : Type 0} (w : Way S) (n i : ℕ) → Last n w i → 0 < size w
last_sized pass n i h = absurd h
last_sized (one s) n i h = omega arith
last_sized (row a b) n i h = ⊎_elim
    (λ l. let k : 0 < size b = last_sized b (n + size a) i l in omega (arith, k))
    (λ l. let k : 0 < size a = last_sized a n i l.1 in omega (arith, k)) h
last_sized (fork a b) n i h = ⊎_elim
    (λ l. let k : 0 < size a = last_sized a n i l in omega (arith, k))
    (λ l. let k : 0 < size b = last_sized b (n + size a) i l in omega (arith, k)) h
last_sized leave n i h = absurd h
last_sized (turns s c b) n i h = omega arith
last_sized (inside e b x) n i h = omega arith

-- of a way that doesn't leave, some way meets no site, or there is a last one
passes_or_last : {S : Type 0} (w : Way S) → Stays w → (n : ℕ) → Passes w ⊎ ((i : ℕ) × Last n w i)
passes_or_last pass h n = inl tt
passes_or_last (one s) h n = inr (n, refl)
passes_or_last (row a b) h n = ⊎_elim
    (λ (p : Passes b). ⊎_elim (λ (q : Passes a). inl (q, p)) (λ (l : (i : ℕ) × Last n a i). inr (l.0, inr (p, l.1))) (passes_or_last a h.0 n))
    (λ (l : (i : ℕ) × Last (n + size a) b i). inr (l.0, inl l.1)) (passes_or_last b h.1 (n + size a))
passes_or_last (fork a b) h n = ⊎_elim (λ (p : Passes a). inl (inl p)) (λ (l : (i : ℕ) × Last n a i). inr (l.0, inl l.1)) (passes_or_last a h.0 n)
passes_or_last leave h n = absurd h
passes_or_last (turns s c b) h n = inr (ending (size c) (passes_or_last c h.0 (suc n)))
  where
    ending : (k : ℕ) → Passes c ⊎ ((i : ℕ) × Last (suc n) c i) → (i : ℕ) × Ends k n i (Passes c) (Last (suc n) c i) (Last (suc n + size c) b i)
    ending zero d = (n, refl)
    ending (suc k) (inl p) = (n, inr (p, inl refl))
    ending (suc k) (inr l) = (l.0, inl l.1)
passes_or_last (inside e b x) h n = ⊎_elim (λ (p : Passes b). inr (suc n + size b, (refl, inl p))) (λ (l : (i : ℕ) × Last (suc n) b i). inr (suc n + size b, (refl, inr l))) (passes_or_last b h (suc n))

pub last_exists : {S : Type 0} (w : Way S) → Stays w → 0 < size w → (n : ℕ) → (i : ℕ) × Last n w i
last_exists pass h k n = absurd (omega (arith, k))
last_exists (one s) h k n = (n, refl)
last_exists (row a b) h k n = ⊎_elim
    (λ (z : size a ≡ 0). let l = last_exists b h.1 (omega (arith, k, z)) (n + size a) in (l.0, inl l.1))
    (λ (z : size a ≡ 0 → ⊥). let l = last_exists a h.0 (omega (arith, z)) n in
    ⊎_elim (λ (q : Passes b). (l.0, inr (q, l.1))) (λ (t : (i : ℕ) × Last (n + size a) b i). (t.0, inl t.1)) (passes_or_last b h.1 (n + size a)))
    (cases_eq (size a) 0)
last_exists (fork a b) h k n = ⊎_elim
    (λ (z : size a ≡ 0). let l = last_exists b h.1 (omega (arith, k, z)) (n + size a) in (l.0, inr l.1))
    (λ (z : size a ≡ 0 → ⊥). let l = last_exists a h.0 (omega (arith, z)) n in (l.0, inl l.1))
    (cases_eq (size a) 0)
last_exists leave h k n = absurd h
last_exists (turns s c b) h k n = ⊎_elim (λ e. absurd e) (λ l. l) (passes_or_last (turns s c b) h n)
last_exists (inside e b x) h k n = ⊎_elim (λ e. absurd e) (λ l. l) (passes_or_last (inside e b x) h n)

-- ---- a loop, whatever holds of its condition and its body

module _ {S : Type 0} (n : ℕ) (s : S) (c b : Way S) (Bad : ℕ → Type 0) (R : ℕ → Type 0) where
  abbrev pub Back : ℕ → Type 0
  Back j = Again (size c) n j (First (suc n) c j)

  -- the edges between the parts of a loop
  abbrev pub Joins : ℕ → ℕ → Type 0
  Joins i j = ((i ≡ n) × First (suc n) c j) ⊎ (Last n (turns s c b) i × First (suc n + size c) b j) ⊎ (Last (suc n + size c) b i × Back j) ⊎ (Passes b × Last n (turns s c b) i × Back j)

  abbrev pub Found : Bool → Type 0
  Found A = (A ≡ false) → Bad n

  abbrev pub Cond : (Bool → Bool → Type 0) → Type 0
  Cond Ok = (H : Bool) → (H ≡ false → (j : ℕ) → First (suc n) c j → Bad j) → (B : Bool) × Ok H B × (B ≡ false → ((i : ℕ) × Last (suc n) c i × R i) ⊎ (Passes c × (H ≡ false)))

  abbrev pub Body : (Bool → Bool → Type 0) → Type 0
  Body Ok = (H : Bool) → (H ≡ false → (j : ℕ) → First (suc n + size c) b j → Bad j) → (B : Bool) × Ok H B × (B ≡ false → ((i : ℕ) × Last (suc n + size c) b i × R i) ⊎ (Passes b × (H ≡ false)))

  ends_last : (i : ℕ) → Last (suc n) c i → Last n (turns s c b) i
  ends_last i l = at (size c) (last_sized c (suc n) i l)
    where
      at : (k : ℕ) → 0 < k → Ends k n i (Passes c) (Last (suc n) c i) (Last (suc n + size c) b i)
      at zero h = absurd (omega (arith, h))
      at (suc k) h = inl l

  module _ (lead : (i j : ℕ) → R i → Joins i j → Bad j) (own : Bad n → R n) where
    -- why the local differs where the condition begins
    record Differs : Type 0 where
      first_c : (j : ℕ) → First (suc n) c j → Bad j
      through : Passes c → (i : ℕ) × Last n (turns s c b) i × R i

    at_head : Bad n → Differs
    at_head h = record { first_c = λ j f. lead n j (own h) (inl (refl, f)); through = λ p. (n, ends_own (size c) p, own h) }
      where
        ends_own : (k : ℕ) → Passes c → Ends k n n (Passes c) (Last (suc n) c n) (Last (suc n + size c) b n)
        ends_own zero p = refl
        ends_own (suc k) p = inr (p, inl refl)

    again_first : (k : ℕ) → ((j : ℕ) → Again k n j (First (suc n) c j) → Bad j) → (j : ℕ) → First (suc n) c j → Bad j
    again_first zero g j f = lead n j (own (g n refl)) (inl (refl, f))
    again_first (suc k) g j f = g j f

    -- the body comes to its end, and the local differs there
    at_last : (i : ℕ) → Last (suc n + size c) b i → R i → Differs
    at_last i l r = record { first_c = again_first (size c) back; through = ends_back (size c) back }
      where
        back : (j : ℕ) → Back j → Bad j
        back j g = lead i j r (inr (inr (inl (l, g))))

        ends_back : (k : ℕ) → ((j : ℕ) → Again k n j (First (suc n) c j) → Bad j) → Passes c → (m : ℕ) × Ends k n m (Passes c) (Last (suc n) c m) (Last (suc n + size c) b m) × R m
        ends_back zero g p = (n, refl, own (g n refl))
        ends_back (suc k) g p = (i, inr (p, inr l), r)

    at_pass : Passes b → (i : ℕ) → Last n (turns s c b) i → R i → Differs
    at_pass p i l r = record { first_c = again_first (size c) (λ j g. lead i j r (inr (inr (inr (p, l, g))))); through = λ q. (i, l, r) }

    abbrev pub Looped : (Bool → Bool → Type 0) → (Bool → Bool → Type 0) → Bool → Type 0
    Looped OkC OkB A = (H : Bool) × (B : Bool) × (C : Bool) × Within H A × OkC H B × OkB B C × Within H C × (B ≡ false → (i : ℕ) × Last n (turns s c b) i × R i)

    module _ (OkC OkB : Bool → Bool → Type 0) (cond : Cond OkC) (body : Body OkB) where
      first_b : (i j : ℕ) → Last n (turns s c b) i → R i → First (suc n + size c) b j → Bad j
      first_b i j l r f = lead i j r (inr (inl (l, f)))

      last_of : (B H : Bool) → (Passes c → (H ≡ false) → (i : ℕ) × Last n (turns s c b) i × R i) → ((B ≡ false) → ((i : ℕ) × Last (suc n) c i × R i) ⊎ (Passes c × (H ≡ false))) → B ≡ false → (i : ℕ) × Last n (turns s c b) i × R i
      last_of B H d post e = ⊎_elim (λ (x : (i : ℕ) × Last (suc n) c i × R i). (x.0, ends_last x.0 x.1, x.2)) (λ (x : Passes c × (H ≡ false)). d x.0 x.1) (post e)

      -- with nothing known at the head
      differing : (A : Bool) → Differs → Looped OkC OkB A
      differing A d =
          let x = cond false (λ e. d.first_c) in
          let last = last_of x.0 false (λ p e. d.through p) x.2 in
          let y = body x.0 (λ e j f. let l = last e in first_b l.0 j l.1 l.2 f) in
          (false, x.0, y.0, (λ e. false_true e), x.1, y.1, (λ e. false_true e), last)

      agreeing : (x : (B : Bool) × OkC true B × (B ≡ false → ((i : ℕ) × Last (suc n) c i × R i) ⊎ (Passes c × (true ≡ false)))) → (C : Bool) → OkB x.0 C → (C ≡ false → ((i : ℕ) × Last (suc n + size c) b i × R i) ⊎ (Passes b × (x.0 ≡ false))) → Looped OkC OkB true
      agreeing x true o post = (true, x.0, true, (λ e. e), x.1, o, (λ e. e), last_of x.0 true (λ p e. no_falsehood e) x.2)
      agreeing x false o post = ⊎_elim
          (λ (y : (i : ℕ) × Last (suc n + size c) b i × R i). differing true (at_last y.0 y.1 y.2))
          (λ (y : Passes b × (x.0 ≡ false)). let l = last_of x.0 true (λ p e. no_falsehood e) x.2 y.1 in differing true (at_pass y.0 l.0 l.1 l.2))
          (post refl)

      pub looped : (A : Bool) → (A ≡ false → Bad n) → Looped OkC OkB A
      looped false h = differing false (at_head (h refl))
      looped true h =
          let x = cond true (λ e. no_falsehood e) in
          let y = body x.0 (λ e j f. let l = last_of x.0 true (λ p d. no_falsehood d) x.2 e in first_b l.0 j l.1 l.2 f) in
          agreeing x y.0 y.1 y.2

-- ---- ways

pub and_left : (b c : Bool) → b && c ≡ true → b ≡ true
and_left true c h = refl
and_left false c h = h

pub and_right : (b c : Bool) → b && c ≡ true → c ≡ true
and_right true c h = h
and_right false c h = false_true h

pub and_false : (b c : Bool) → b && c ≡ false → (b ≡ false) ⊎ (c ≡ false)
and_false true c h = inr h
and_false false c h = inl refl

or_false : (b c : Bool) → b || c ≡ false → (b ≡ false) × (c ≡ false)
or_false true c h = no_falsehood h
or_false false c h = (refl, h)

-- Bad: the local may differ when the site is met, and so it does at the sites that follow unless the
-- site writes it. E: the edges of the member.
module _ (reads writes : ℕ → Bool) (E : ℕ → ℕ → Type 0) (Bad : ℕ → Type 0) (goes_on : (k j : ℕ) → Bad k → writes k ≡ false → E k j → Bad j) (no_read : (j : ℕ) → Bad j → reads j ≡ true → ⊥) where
  abbrev pub Ready : ℕ → Type 0
  Ready i = Bad i × (writes i ≡ false)

  module _ {S : Type 0} where
    -- of a way that is kept
    abbrev pub Kept : ℕ → Way S → Bool → Type 0
    Kept n w A = (B : Bool) × Ok reads writes n w A B × (B ≡ false → ((i : ℕ) × Last n w i × Ready i) ⊎ (Passes w × (A ≡ false)))

    kept_one : (n : ℕ) (z : S) (A : Bool) → (A ≡ false → (j : ℕ) → First n (one z) j → Bad j) → Kept n (one z) A
    kept_one n z true h = (true, ok_one n true z (λ e. refl), λ e. no_falsehood e)
    kept_one n z false h = (writes n, ok_one n false z (λ e. absurd (no_read n (h refl n refl) e)), λ e. inl (n, refl, (h refl n refl, e)))

    pub kept : (w : Way S) (n : ℕ) (A : Bool) → Quiet reads writes n w → ((i j : ℕ) → Edge n w i j → E i j) → (A ≡ false → (j : ℕ) → First n w j → Bad j) → Kept n w A
    kept pass n A q e h = (A, ok_pass n A, λ d. inr (tt, d))
    kept (one z) n A q e h = kept_one n z A h
    kept (row x y) n A q e h =
        let u = kept x n A q.0 (λ i j d. e i j (inl d)) (λ d j f. h d j (inl f)) in
        let v = kept y (n + size x) u.0 q.1 (λ i j d. e i j (inr (inl d))) (λ d j f. ⊎_elim
        (λ (l : (i : ℕ) × Last n x i × Ready i). goes_on l.0 j l.2.0 l.2.1 (e l.0 j (inr (inr (l.1, f)))))
        (λ (l : Passes x × (A ≡ false)). h l.1 j (inr (l.0, f))) (u.2 d)) in (
          v.0,
          ok_row n A u.0 v.0 x y u.1 v.1,
          λ d. ⊎_elim
              (λ (l : (i : ℕ) × Last (n + size x) y i × Ready i). inl (l.0, inl l.1, l.2))
              (λ (l : Passes y × (u.0 ≡ false)). ⊎_elim
              (λ (k : (i : ℕ) × Last n x i × Ready i). inl (k.0, inr (l.0, k.1), k.2))
              (λ (k : Passes x × (A ≡ false)). inr ((k.0, l.0), k.1)) (u.2 l.1)) (v.2 d),
        )
    kept (fork x y) n A q e h =
        let u = kept x n A q.0 (λ i j d. e i j (inl d)) (λ d j f. h d j (inl f)) in
        let v = kept y (n + size x) A q.1 (λ i j d. e i j (inr d)) (λ d j f. h d j (inr f)) in (
          u.0 && v.0,
          ok_fork n A u.0 v.0 (u.0 && v.0) x y u.1 v.1 (and_left u.0 v.0) (and_right u.0 v.0),
          λ d. ⊎_elim
              (λ (k : u.0 ≡ false). ⊎_elim (λ (l : (i : ℕ) × Last n x i × Ready i). inl (l.0, inl l.1, l.2)) (λ (l : Passes x × (A ≡ false)). inr (inl l.0, l.1)) (u.2 k))
              (λ (k : v.0 ≡ false). ⊎_elim (λ (l : (i : ℕ) × Last (n + size x) y i × Ready i). inl (l.0, inr l.1, l.2)) (λ (l : Passes y × (A ≡ false)). inr (inr l.0, l.1)) (v.2 k))
              (and_false u.0 v.0 d),
        )
    kept leave n A q e h = (true, ok_leave n A true, λ d. no_falsehood d)
    kept (turns z c b) n A q e h =
        let l = looped n z c b Bad Ready (λ i j r d. goes_on i j r.0 r.1 (e i j (inr (inr d)))) (λ d. (d, q.0)) (λ H B. Ok reads writes (suc n) c H B) (λ H B. Ok reads writes (suc n + size c) b H B)
        (λ H d. kept c (suc n) H q.1 (λ i j f. e i j (inl f)) d) (λ H d. kept b (suc n + size c) H q.2 (λ i j f. e i j (inr (inl f))) d) A (λ d. h d n refl) in
        (l.1, ok_turns n A l.0 l.1 l.2 z c b l.3 l.4 l.5 l.6, λ d. inl (l.7 d))
    kept (inside y b x) n A q e h =
        let u = kept b (suc n) A q.2 (λ i j d. e i j (inl d)) (λ d j f. goes_on n j (h d n refl) q.0 (e n j (inr (inl (refl, f))))) in
        let out : ℕ = suc n + size b in (
          u.0,
          ok_inside n A u.0 y x b u.1,
          λ d. ⊎_elim
              (λ (l : (i : ℕ) × Last (suc n) b i × Ready i). inl (out, (refl, inr (l.0, l.1)), (goes_on l.0 out l.2.0 l.2.1 (e l.0 out (inr (inr (inl (l.1, refl))))), q.1)))
              (λ (l : Passes b × (A ≡ false)). inl (out, (refl, inl l.0), (goes_on n out (h l.1 n refl) q.0 (e n out (inr (inr (inr (inr (inl l.0, refl, refl)))))), q.1))) (u.2 d),
        )
