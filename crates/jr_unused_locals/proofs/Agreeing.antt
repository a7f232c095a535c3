-- Where a local may differ behind a piece, by induction on the ways round it.
use Rattle.std.proofs.Common.{◌≡◌, ◌⊎◌, ◌<◌, ℕ, zero, suc, ◌+◌, Bool, true, false, ◌&&◌, refl, inl, inr, ⊎_elim, arith}
use Rattle.jr_cover.specs.Ways.{Way, pass, one, row, fork, leave, turns, inside, size, Passes, First, Ends, Last, Edge}
use Rattle.jr_unused_locals.specs.Agreement.{Stands, here, in_first, in_second, in_left, in_right, in_condition, in_body, in_monitor, Round, Ok, Quiet, OkAround, Comes, reads_here, onward, InPiece, Used, Stays, UnusedLocalsMayDiffer}
use Rattle.jr_unused_locals.proofs.Keeping.{no_falsehood, last_exists, looped, and_left, and_right, and_false, kept}

module _ {S : Type 0} (reads writes : ℕ → Bool) (m : Way S) (a : ℕ) (p : Way S) (s : Stands a p 0 m) where
  -- the local may differ when the site is met: it was written in the piece, and not since
  data Bad : ℕ → Type 0 where
    from_piece : (i j : ℕ) → InPiece a p i → Round a p 0 m s i j → Bad j
    goes_on : (k j : ℕ) → Bad k → writes k ≡ false → Edge 0 m k j → Bad j

  is_used : (j : ℕ) → Bad j → Comes reads writes (Edge 0 m) j → Used reads writes m a p s
  is_used j (from_piece i k h r) d = record { from = i; to = j; in_piece = h; round = r; comes = d }
  is_used j (goes_on k l b w e) d = is_used k b (onward k j w e d)

  module _ (unused : Used reads writes m a p s → ⊥) where
    no_read : (j : ℕ) → Bad j → reads j ≡ true → ⊥
    no_read j b r = unused (is_used j b (reads_here j r))

    follows : (k j : ℕ) → Bad k → writes k ≡ false → Edge 0 m k j → Bad j
    follows k j b w e = goes_on k j b w e

    abbrev Ready : ℕ → Type 0
    Ready i = Bad i × (writes i ≡ false)

    keep : (w : Way S) (n : ℕ) (A : Bool) → Quiet reads writes n w → ((i j : ℕ) → Edge n w i j → Edge 0 m i j) → (A ≡ false → (j : ℕ) → First n w j → Bad j) → (B : Bool) × Ok reads writes n w A B × (B ≡ false → ((i : ℕ) × Last n w i × Ready i) ⊎ (Passes w × (A ≡ false)))
    keep w n A q e h = kept reads writes (Edge 0 m) Bad follows no_read w n A q e h

    -- ---- with the piece cut out

    abbrev ReadyHere : ℕ → Type 0
    ReadyHere i = InPiece a p i ⊎ Ready i

    abbrev Around : (n : ℕ) (w : Way S) → Stands a p n w → Bool → Type 0
    Around n w t A = (B : Bool) × OkAround reads writes a p n w t A B × (B ≡ false → ((i : ℕ) × Last n w i × ReadyHere i) ⊎ (Passes w × (A ≡ false)))

    leads : (i j : ℕ) → ReadyHere i → Round a p 0 m s i j → Edge 0 m i j → Bad j
    leads i j (inl h) r e = from_piece i j h r
    leads i j (inr h) r e = goes_on i j h.0 h.1 e

    last_in : (w : Way S) (n i : ℕ) → Last n w i → InPiece n w i
    last_in pass n i h = absurd h
    last_in (one z) n i h = rw h (omega arith, omega arith)
    last_in (row x y) n i h = ⊎_elim
        (λ l. let k = last_in y (n + size x) i l in (omega (arith, k.0), omega (arith, k.1)))
        (λ l. let k = last_in x n i l.1 in (omega (arith, k.0), omega (arith, k.1))) h
    last_in (fork x y) n i h = ⊎_elim
        (λ l. let k = last_in x n i l in (omega (arith, k.0), omega (arith, k.1)))
        (λ l. let k = last_in y (n + size x) i l in (omega (arith, k.0), omega (arith, k.1))) h
    last_in leave n i h = absurd h
    last_in (turns z c b) n i h = at (λ l. last_in c (suc n) i l) (λ l. last_in b (suc n + size c) i l) (size c) refl h
      where
        at : (Last (suc n) c i → InPiece (suc n) c i) → (Last (suc n + size c) b i → InPiece (suc n + size c) b i) → (k : ℕ) → size c ≡ k → Ends k n i (Passes c) (Last (suc n) c i) (Last (suc n + size c) b i) → InPiece n (turns z c b) i
        at u v zero e l = rw l (omega arith, omega arith)
        at u v (suc k) e (inl l) = let d = u l in (omega (arith, d.0), omega (arith, d.1))
        at u v (suc k) e (inr l) = ⊎_elim (λ (d : i ≡ n). rw d (omega arith, omega arith)) (λ d. let f = v d in (omega (arith, f.0), omega (arith, f.1))) l.1
    last_in (inside y b x) n i h = let d : i ≡ suc n + size b = h.0 in rw d (omega arith, omega arith)

    module _ (stays : Stays p) (sized : 0 < size p) where
      some_last : (n : ℕ) → (i : ℕ) × Last n p i
      some_last n = last_exists p stays sized n

      around : (n : ℕ) (w : Way S) (t : Stands a p n w) (A : Bool) → Quiet reads writes n w → ((i j : ℕ) → Edge n w i j → Edge 0 m i j) → ((i j : ℕ) → Round a p n w t i j → Round a p 0 m s i j) → (A ≡ false → (j : ℕ) → First n w j → Bad j) → Around n w t A
      around n w here A q e r h = let u = keep p a A q e h in (false, (u.0, u.1, refl), λ d. let l = some_last a in inl (l.0, l.1, inl (last_in p a l.0 l.1)))
      around n w (in_first k x y t) A q e r h =
          let u = around n x t A q.0 (λ i j d. e i j (inl d)) (λ i j d. r i j (inl d)) (λ d j f. h d j (inl f)) in
          let v = keep y (n + size x) u.0 q.1 (λ i j d. e i j (inr (inl d))) (λ d j f. ⊎_elim
          (λ (l : (i : ℕ) × Last n x i × ReadyHere i). leads l.0 j l.2 (r l.0 j (inr (inr (l.1, f)))) (e l.0 j (inr (inr (l.1, f)))))
          (λ (l : Passes x × (A ≡ false)). h l.1 j (inr (l.0, f))) (u.2 d)) in (
            v.0,
            (u.0, u.1, v.1),
            λ d. ⊎_elim
                (λ (l : (i : ℕ) × Last (n + size x) y i × Ready i). inl (l.0, inl l.1, inr l.2))
                (λ (l : Passes y × (u.0 ≡ false)). ⊎_elim
                (λ (k : (i : ℕ) × Last n x i × ReadyHere i). inl (k.0, inr (l.0, k.1), k.2))
                (λ (k : Passes x × (A ≡ false)). inr ((k.0, l.0), k.1)) (u.2 l.1)) (v.2 d),
          )
      around n w (in_second k x y t) A q e r h =
          let u = keep x n A q.0 (λ i j d. e i j (inl d)) (λ d j f. h d j (inl f)) in
          let v = around (n + size x) y t u.0 q.1 (λ i j d. e i j (inr (inl d))) (λ i j d. r i j (inr (inl d))) (λ d j f. ⊎_elim
          (λ (l : (i : ℕ) × Last n x i × Ready i). goes_on l.0 j l.2.0 l.2.1 (e l.0 j (inr (inr (l.1, f)))))
          (λ (l : Passes x × (A ≡ false)). h l.1 j (inr (l.0, f))) (u.2 d)) in (
            v.0,
            (u.0, u.1, v.1),
            λ d. ⊎_elim
                (λ (l : (i : ℕ) × Last (n + size x) y i × ReadyHere i). inl (l.0, inl l.1, l.2))
                (λ (l : Passes y × (u.0 ≡ false)). ⊎_elim
                (λ (k : (i : ℕ) × Last n x i × Ready i). inl (k.0, inr (l.0, k.1), inr k.2))
                (λ (k : Passes x × (A ≡ false)). inr ((k.0, l.0), k.1)) (u.2 l.1)) (v.2 d),
          )
      around n w (in_left k x y t) A q e r h =
          let u = around n x t A q.0 (λ i j d. e i j (inl d)) (λ i j d. r i j (inl d)) (λ d j f. h d j (inl f)) in
          let v = keep y (n + size x) A q.1 (λ i j d. e i j (inr d)) (λ d j f. h d j (inr f)) in (
            u.0 && v.0,
            (u.0, v.0, u.1, v.1, and_left u.0 v.0, and_right u.0 v.0),
            λ d. ⊎_elim
                (λ (k : u.0 ≡ false). ⊎_elim (λ (l : (i : ℕ) × Last n x i × ReadyHere i). inl (l.0, inl l.1, l.2)) (λ (l : Passes x × (A ≡ false)). inr (inl l.0, l.1)) (u.2 k))
                (λ (k : v.0 ≡ false). ⊎_elim (λ (l : (i : ℕ) × Last (n + size x) y i × Ready i). inl (l.0, inr l.1, inr l.2)) (λ (l : Passes y × (A ≡ false)). inr (inr l.0, l.1)) (v.2 k))
                (and_false u.0 v.0 d),
          )
      around n w (in_right k x y t) A q e r h =
          let u = keep x n A q.0 (λ i j d. e i j (inl d)) (λ d j f. h d j (inl f)) in
          let v = around (n + size x) y t A q.1 (λ i j d. e i j (inr d)) (λ i j d. r i j (inr d)) (λ d j f. h d j (inr f)) in (
            u.0 && v.0,
            (u.0, v.0, u.1, v.1, and_left u.0 v.0, and_right u.0 v.0),
            λ d. ⊎_elim
                (λ (k : u.0 ≡ false). ⊎_elim (λ (l : (i : ℕ) × Last n x i × Ready i). inl (l.0, inl l.1, inr l.2)) (λ (l : Passes x × (A ≡ false)). inr (inl l.0, l.1)) (u.2 k))
                (λ (k : v.0 ≡ false). ⊎_elim (λ (l : (i : ℕ) × Last (n + size x) y i × ReadyHere i). inl (l.0, inr l.1, l.2)) (λ (l : Passes y × (A ≡ false)). inr (inr l.0, l.1)) (v.2 k))
                (and_false u.0 v.0 d),
          )
      around n w (in_condition k z c b t) A q e r h =
          let l = looped n z c b Bad ReadyHere (λ i j x d. leads i j x (r i j (inr (inr d))) (e i j (inr (inr d)))) (λ d. inr (d, q.0)) (λ H B. OkAround reads writes a p (suc n) c t H B) (λ H B. Ok reads writes (suc n + size c) b H B)
          (λ H d. around (suc n) c t H q.1 (λ i j f. e i j (inl f)) (λ i j f. r i j (inl f)) d)
          (λ H d. let u = keep b (suc n + size c) H q.2 (λ i j f. e i j (inr (inl f))) d in (u.0, u.1, λ f. ⊎_elim (λ (x : (i : ℕ) × Last (suc n + size c) b i × Ready i). inl (x.0, x.1, inr x.2)) (λ x. inr x) (u.2 f))) A (λ d. h d n refl) in
          (l.1, (l.0, l.2, l.3, l.4, l.5, l.6), λ d. inl (l.7 d))
      around n w (in_body k z c b t) A q e r h =
          let l = looped n z c b Bad ReadyHere (λ i j x d. leads i j x (r i j (inr (inr d))) (e i j (inr (inr d)))) (λ d. inr (d, q.0)) (λ H B. Ok reads writes (suc n) c H B) (λ H B. OkAround reads writes a p (suc n + size c) b t H B)
          (λ H d. let u = keep c (suc n) H q.1 (λ i j f. e i j (inl f)) d in (u.0, u.1, λ f. ⊎_elim (λ (x : (i : ℕ) × Last (suc n) c i × Ready i). inl (x.0, x.1, inr x.2)) (λ x. inr x) (u.2 f)))
          (λ H d. around (suc n + size c) b t H q.2 (λ i j f. e i j (inr (inl f))) (λ i j f. r i j (inr (inl f))) d) A (λ d. h d n refl) in
          (l.1, (l.0, l.2, l.3, l.4, l.5, l.6), λ d. inl (l.7 d))
      around n w (in_monitor k y x b t) A q e r h =
          let u = around (suc n) b t A q.2 (λ i j d. e i j (inl d)) (λ i j d. r i j (inl d)) (λ d j f. goes_on n j (h d n refl) q.0 (e n j (inr (inl (refl, f))))) in
          let out : ℕ = suc n + size b in (
            u.0,
            u.1,
            λ d. ⊎_elim
                (λ (l : (i : ℕ) × Last (suc n) b i × ReadyHere i). inl (out, (refl, inr (l.0, l.1)), inr (leads l.0 out l.2 (r l.0 out (inr (inr (inl (l.1, refl))))) (e l.0 out (inr (inr (inl (l.1, refl))))), q.1)))
                (λ (l : Passes b × (A ≡ false)). inl (out, (refl, inl l.0), inr (goes_on n out (h l.1 n refl) q.0 (e n out (inr (inr (inr (inr (inl l.0, refl, refl)))))), q.1))) (u.2 d),
          )

-- of a part of the member that holds the piece, if the local agrees where the part begins
pub unused_in_part : {S : Type 0} (reads writes : ℕ → Bool) (m : Way S) (a : ℕ) (p : Way S) (s : Stands a p 0 m) → Stays p → 0 < size p → (Used reads writes m a p s → ⊥) → (n : ℕ) (w : Way S) (t : Stands a p n w) → Quiet reads writes n w
    → ((i j : ℕ) → Edge n w i j → Edge 0 m i j) → ((i j : ℕ) → Round a p n w t i j → Round a p 0 m s i j) → (B : Bool) × OkAround reads writes a p n w t true B
unused_in_part reads writes m a p s stays sized unused n w t quiet e r =
    let u = around reads writes m a p s unused stays sized n w t true quiet e r (λ d. no_falsehood d) in
    (u.0, u.1)

pub unused_locals_may_differ : {S : Type 0} → UnusedLocalsMayDiffer S
unused_locals_may_differ reads writes m a p s quiet stays sized unused =
    unused_in_part reads writes m a p s stays sized unused 0 m s quiet (λ i j d. d) (λ i j d. d)
