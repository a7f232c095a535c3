-- The edges of a way's flow are exactly those of the way, and lead between its sites.
use Rattle.std.proofs.Common.{◌≡◌, ◌↔◌, ◌≤◌, ◌<◌, ℕ, zero, suc, ◌+◌, List, [], ◌∷◌, length, get_or, slice_index_or, sym, subst, inl, inr, ⊎_elim, arith}
use Rattle.std.specs.Prelude.{Contains}
use Rattle.std.proofs.lemmas.List.Elements.{Contains-append_left, Contains-append_right, Contains-get_or}
use Rattle.jr_cover.specs.Ways.{Way, pass, one, row, fork, leave, turns, inside, size, First, Last, Leaves, Again, Edge}
use Rattle.jr_cover.specs.Flows.{flow_of}
use Rattle.jr_cover.proofs.FlowLaws.{In, Pair, flow_is}
use Rattle.jr_cover.proofs.WayLaws.{Within, first_within, last_within}
use Rattle.jr_flow.specs.Edges.{AreBelow}

abbrev Nowhere : ℕ → ℕ → Type 0
Nowhere i j = ⊥

module _ {S : Type 0} where
  last_in : (n : ℕ) (w : Way S) (i : ℕ) → Last n w i → Within n w i
  last_in n w i h = last_within Nowhere n w i h

  leaves_in : (n : ℕ) (w : Way S) (i : ℕ) → Leaves n w i → Within n w i
  leaves_in n pass i h = absurd h
  leaves_in n (one s) i h = absurd h
  leaves_in n (row a b) i h = ⊎_elim
      (λ g. let k = leaves_in n a i g in (k.0, omega (arith, k.1)))
      (λ g. ⊎_elim
      (λ l. let k = leaves_in (n + size a) b i l in (omega (arith, k.0), omega (arith, k.1)))
      (λ l. let k = last_in n a i l.1 in (k.0, omega (arith, k.1))) g) h
  leaves_in n (fork a b) i h = ⊎_elim
      (λ g. let k = leaves_in n a i g in (k.0, omega (arith, k.1)))
      (λ g. let k = leaves_in (n + size a) b i g in (omega (arith, k.0), omega (arith, k.1))) h
  leaves_in n leave i h = absurd h
  leaves_in n (turns s c b) i h = ⊎_elim
      (λ g. let k = leaves_in (suc n + size c) b i g in (omega (arith, k.0), omega (arith, k.1)))
      (λ g. last_in n (turns s c b) i g.1) h
  leaves_in n (inside e b x) i h = (omega (arith, h.0), omega (arith, h.0))

  abbrev Both : ℕ → Way S → (i j : ℕ) → Type 0
  Both n w i j = Within n w i × Within n w j

  -- where a loop's body leads
  again_in : (m n j : ℕ) (c : Way S) (total : ℕ) → size c ≤ total → Again m n j (First (suc n) c j) → (n ≤ j) × (j < suc n + total)
  again_in zero n j c total le h = (omega (arith, h), omega (arith, h))
  again_in (suc k) n j c total le h = let w = first_within (suc n) c j h in (omega (arith, w.0), omega (arith, w.1, le))

  edge_in : (n : ℕ) (w : Way S) (i j : ℕ) → Edge n w i j → Both n w i j
  edge_in n pass i j h = absurd h
  edge_in n (one s) i j h = absurd h
  edge_in n (row a b) i j h = ⊎_elim
      (λ g. let k = edge_in n a i j g in ((k.0.0, omega (arith, k.0.1)), (k.1.0, omega (arith, k.1.1))))
      (λ g. ⊎_elim
      (λ l. let k = edge_in (n + size a) b i j l in ((omega (arith, k.0.0), omega (arith, k.0.1)), (omega (arith, k.1.0), omega (arith, k.1.1))))
      (λ l. let k = last_in n a i l.0 in let f = first_within (n + size a) b j l.1 in ((k.0, omega (arith, k.1)), (omega (arith, f.0), omega (arith, f.1)))) g) h
  edge_in n (fork a b) i j h = ⊎_elim
      (λ g. let k = edge_in n a i j g in ((k.0.0, omega (arith, k.0.1)), (k.1.0, omega (arith, k.1.1))))
      (λ l. let k = edge_in (n + size a) b i j l in ((omega (arith, k.0.0), omega (arith, k.0.1)), (omega (arith, k.1.0), omega (arith, k.1.1)))) h
  edge_in n leave i j h = absurd h
  edge_in n (turns s c b) i j h = ⊎_elim
      (λ g. let k = edge_in (suc n) c i j g in ((omega (arith, k.0.0), omega (arith, k.0.1)), (omega (arith, k.1.0), omega (arith, k.1.1))))
      (λ g. ⊎_elim
      (λ l. let k = edge_in (suc n + size c) b i j l in ((omega (arith, k.0.0), omega (arith, k.0.1)), (omega (arith, k.1.0), omega (arith, k.1.1))))
      (λ l. ⊎_elim
      (λ f. let k = first_within (suc n) c j f.1 in let e = f.0 in ((omega (arith, e), omega (arith, e)), (omega (arith, k.0), omega (arith, k.1))))
      (λ f. ⊎_elim
      (λ q. let k = first_within (suc n + size c) b j q.1 in (last_in n (turns s c b) i q.0, (omega (arith, k.0), omega (arith, k.1))))
      (λ q. ⊎_elim
      (λ z. let k = last_in (suc n + size c) b i z.0 in let y = again_in (size c) n j c (size c + size b) (omega arith) z.1 in ((omega (arith, k.0), omega (arith, k.1)), (y.0, omega (arith, y.1))))
      (λ z. let y = again_in (size c) n j c (size c + size b) (omega arith) z.2 in (last_in n (turns s c b) i z.1, (y.0, omega (arith, y.1)))) q) f) l) g) h
  edge_in n (inside e b x) i j h = ⊎_elim
      (λ g. let k = edge_in (suc n) b i j g in ((omega (arith, k.0.0), omega (arith, k.0.1)), (omega (arith, k.1.0), omega (arith, k.1.1))))
      (λ g. ⊎_elim
      (λ l. let k = first_within (suc n) b j l.1 in let d = l.0 in ((omega (arith, d), omega (arith, d)), (omega (arith, k.0), omega (arith, k.1))))
      (λ l. ⊎_elim
      (λ f. let k = last_in (suc n) b i f.0 in let d = f.1 in ((omega (arith, k.0), omega (arith, k.1)), (omega (arith, d), omega (arith, d))))
      (λ f. ⊎_elim
      (λ q. let k = leaves_in (suc n) b i q.0 in let d = q.1 in ((omega (arith, k.0), omega (arith, k.1)), (omega (arith, d), omega (arith, d))))
      (λ q. let d = q.1 in let y = q.2 in ((omega (arith, d), omega (arith, d)), (omega (arith, y), omega (arith, y)))) f) l) g) h

-- ---- two words for an element of a list

contains : {X : Type 0} (x : X) (l : List X) → In x l → Contains l x
contains x [] h = absurd h
contains x (y ∷ l) h = ⊎_elim
    (λ e. Contains-append_left (y ∷ []) l x (subst (λ (z : _). Contains (y ∷ []) z) (sym e) (Contains-get_or (y ∷ []) 0 y (omega arith))))
    (λ t. Contains-append_right (y ∷ []) l x (contains x l t)) h

in_at : {X : Type 0} (x : X) (l : List X) (k : ℕ) → k < length l → slice_index_or l k x ≡ x → In x l
in_at x [] k lt e = absurd (omega arith)
in_at x (y ∷ l) zero lt e = inl (sym e)
in_at x (y ∷ l) (suc k) lt e = inr (in_at x l k (omega arith) e)

module _ {S : Type 0} (w : Way S) (edges : List (ℕ × ℕ)) (is : edges ≡ (flow_of 0 w).edges) where
  pub edges_exact : (i j : ℕ) → Contains edges (i, j) ↔ Edge 0 w i j
  edges_exact i j =
      let told = (flow_is 0 w).edges i j in (
        λ h. told.to (subst (λ (l : List (ℕ × ℕ)). In (Pair i j) l) is (in_at (Pair i j) edges h.0 h.1 h.2)),
        λ h. contains (Pair i j) edges (subst (λ (l : List (ℕ × ℕ)). In (Pair i j) l) (sym is) (told.back h)),
      )

  pub edges_below : (count : ℕ) → count ≡ size w → AreBelow count edges
  edges_below count all k d lt =
      let e = get_or edges k d in
      let within = edge_in 0 w e.0 e.1 ((edges_exact e.0 e.1).0 (Contains-get_or edges k d lt)) in
      let first = within.0.1 in
      let second = within.1.1 in
      (omega (arith, first, all), omega (arith, second, all))
