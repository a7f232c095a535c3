-- Pieces of a member, with their sites' numbers, and positions in them.
use Rattle.std.proofs.Common.{◌≡◌, ◌⊎◌, ◌≤◌, ℕ, suc, ◌+◌, Option, Some, None, refl, sym, subst, ◌∙◌, inl, inr, ⊎_elim, arith}
use Rattle.jr_cover.specs.Paths.{edge}
use Rattle.jr_cover.specs.Ways.{Way, pass, one, row, fork, leave, turns, inside, size, Passes, LeavesAtOnce, First, Last, Leaves, Edge, Straight}
use Rattle.jr_cover.specs.Visiting.{Leads}
use Rattle.jr_cover.proofs.WayLaws.{Fair, Within, To, joined, from_to, starts, first_within, straight_stays, straight_goes_on, leads_out, exits}

-- the sites of a piece have the numbers from n on
abbrev pub Stands : {S : Type 0} → (ℕ → S → Type 0) → ℕ → Way S → Type 0
Stands Is n pass = Unit {0}
Stands Is n (one s) = Is n s
Stands Is n (row a b) = Stands Is n a × Stands Is (n + size a) b
Stands Is n (fork a b) = Stands Is n a × Stands Is (n + size a) b
Stands Is n leave = Unit {0}
Stands Is n (turns s c b) = Is n s × Stands Is (suc n) c × Stands Is (suc n + size c) b
Stands Is n (inside e b x) = Is n e × Stands Is (suc n) b × Is (suc n + size b) x

-- E, Is: the edges and the sites of a member. A piece of it has its sites from n on.
module _ {S : Type 0} (E : ℕ → ℕ → Type 0) (Is : ℕ → S → Type 0) where
  pub record Part (n : ℕ) (w : Way S) : Type 0 where
    pub edges : (i j : ℕ) → Edge n w i j → E i j
    pub sites : Stands Is n w
    pub fair : Fair w

  -- the site was met last, or can come next
  abbrev pub Past : Option ℕ → ℕ → Type 0
  Past p l = (p ≡ Some l) ⊎ Leads E p l

  -- from position p to q: the piece was gone through
  abbrev pub Through : ℕ → Way S → Option ℕ → Option ℕ → Type 0
  Through n w p q = (Passes w × (q ≡ p)) ⊎ ((l : ℕ) × Last n w l × Past q l)

  -- it was left for the member's end
  abbrev pub Gone : ℕ → Way S → Option ℕ → Option ℕ → Type 0
  Gone n w p q = (LeavesAtOnce w × (q ≡ p)) ⊎ ((l : ℕ) × Leaves n w l × Past q l)

  -- some site of it was met last, or none
  abbrev pub Stays : ℕ → Way S → Option ℕ → Option ℕ → Type 0
  Stays n w p q = (q ≡ p) ⊎ ((i : ℕ) × (q ≡ Some i) × Within n w i)

  some_one : (i l : ℕ) → Some i ≡ Some l → i ≡ l
  some_one i l e = cc

  pub past_leads : (p : Option ℕ) (l j : ℕ) → Past p l → E l j → Leads E p j
  past_leads None l j h e = tt
  past_leads (Some i) l j h e = ⊎_elim (λ (q : Some i ≡ Some l). edge i j (subst (λ x. E x j) (sym (some_one i l q)) e)) (λ p. joined i l j p (edge l j e)) h

  pub leads_to : (p : Option ℕ) (f l : ℕ) → Leads E p f → To E f l → Leads E p l
  leads_to None f l h t = tt
  leads_to (Some i) f l h t = from_to i f l h t

  -- what a position leads to at a piece's beginning
  abbrev pub Ready : ℕ → Way S → Option ℕ → Type 0
  Ready n w p = (f : ℕ) → First n w f → Leads E p f

  pub part_first : (n : ℕ) (a b : Way S) → Part n (row a b) → Part n a
  part_first n a b h = record { edges = λ i j e. h.edges i j (inl e); sites = h.sites.0; fair = h.fair.0 }

  pub part_second : (n : ℕ) (a b : Way S) → Part n (row a b) → Part (n + size a) b
  part_second n a b h = record { edges = λ i j e. h.edges i j (inr (inl e)); sites = h.sites.1; fair = h.fair.1 }

  pub part_one : (n : ℕ) (a b : Way S) → Part n (fork a b) → Part n a
  part_one n a b h = record { edges = λ i j e. h.edges i j (inl e); sites = h.sites.0; fair = h.fair.0 }

  pub part_other : (n : ℕ) (a b : Way S) → Part n (fork a b) → Part (n + size a) b
  part_other n a b h = record { edges = λ i j e. h.edges i j (inr e); sites = h.sites.1; fair = h.fair.1 }

  pub part_condition : (n : ℕ) (s : S) (c b : Way S) → Part n (turns s c b) → Part (suc n) c
  part_condition n s c b h = record { edges = λ i j e. h.edges i j (inl e); sites = h.sites.1; fair = h.fair.1 }

  pub part_body : (n : ℕ) (s : S) (c b : Way S) → Part n (turns s c b) → Part (suc n + size c) b
  part_body n s c b h = record { edges = λ i j e. h.edges i j (inr (inl e)); sites = h.sites.2; fair = h.fair.2 }

  pub part_inside : (n : ℕ) (s x : S) (b : Way S) → Part n (inside s b x) → Part (suc n) b
  part_inside n s x b h = record { edges = λ i j e. h.edges i j (inl e); sites = h.sites.1; fair = h.fair }

  -- ---- one piece behind another

  pub row_ready : (n : ℕ) (a b : Way S) (p q : Option ℕ) → Part n (row a b) → Ready n (row a b) p → Through n a p q → Ready (n + size a) b q
  row_ready n a b p q h r t f g = ⊎_elim
      (λ z. subst (λ x. Leads E x f) (sym z.1) (r f (inr (z.0, g))))
      (λ z. past_leads q z.0 f z.2 (h.edges z.0 f (inr (inr (z.1, g))))) t

  pub row_through : (n : ℕ) (a b : Way S) (p q r : Option ℕ) → Through n a p q → Through (n + size a) b q r → Through n (row a b) p r
  row_through n a b p q r t u = ⊎_elim
      (λ z. ⊎_elim (λ y. inl ((y.0, z.0), z.1 ∙ y.1)) (λ y. inr (y.0, inr (z.0, y.1), subst (λ x. Past x y.0) (sym z.1) y.2)) t)
      (λ z. inr (z.0, inl z.1, z.2)) u

  pub row_gone_first : (n : ℕ) (a b : Way S) (p q : Option ℕ) → Gone n a p q → Gone n (row a b) p q
  row_gone_first n a b p q g = ⊎_elim (λ z. inl (inl z.0, z.1)) (λ z. inr (z.0, inl z.1, z.2)) g

  pub row_gone : (n : ℕ) (a b : Way S) (p q r : Option ℕ) → Through n a p q → Gone (n + size a) b q r → Gone n (row a b) p r
  row_gone n a b p q r t g = ⊎_elim
      (λ z. ⊎_elim (λ y. inl (inr (y.0, z.0), z.1 ∙ y.1)) (λ y. inr (y.0, inr (inr (z.0, y.1)), subst (λ x. Past x y.0) (sym z.1) y.2)) t)
      (λ z. inr (z.0, inr (inl z.1), z.2)) g

  pub stays_more : (n m : ℕ) (a b : Way S) (p q : Option ℕ) → m ≤ n → n + size a ≤ m + size b → Stays n a p q → Stays m b p q
  stays_more n m a b p q i j h = ⊎_elim (λ e. inl e) (λ z. inr (z.0, z.1, (omega (arith, i, z.2.0), omega (arith, j, z.2.1)))) h

  pub stays_behind : (n m : ℕ) (a b : Way S) (p q r : Option ℕ) → m ≤ n → n + size a ≤ m + size b → Stays m b p q → Stays n a q r → Stays m b p r
  stays_behind n m a b p q r i j h g = ⊎_elim
      (λ (e : r ≡ q). ⊎_elim (λ d. inl (e ∙ d)) (λ z. inr (z.0, e ∙ z.1, z.2)) h)
      (λ z. inr (z.0, z.1, (omega (arith, i, z.2.0), omega (arith, j, z.2.1)))) g

  -- ---- one of two

  pub one_through : (n : ℕ) (a b : Way S) (p q : Option ℕ) → Through n a p q → Through n (fork a b) p q
  one_through n a b p q t = ⊎_elim (λ z. inl (inl z.0, z.1)) (λ z. inr (z.0, inl z.1, z.2)) t

  pub other_through : (n : ℕ) (a b : Way S) (p q : Option ℕ) → Through (n + size a) b p q → Through n (fork a b) p q
  other_through n a b p q t = ⊎_elim (λ z. inl (inr z.0, z.1)) (λ z. inr (z.0, inr z.1, z.2)) t

  pub one_gone : (n : ℕ) (a b : Way S) (p q : Option ℕ) → Gone n a p q → Gone n (fork a b) p q
  one_gone n a b p q t = ⊎_elim (λ z. inl (inl z.0, z.1)) (λ z. inr (z.0, inl z.1, z.2)) t

  pub other_gone : (n : ℕ) (a b : Way S) (p q : Option ℕ) → Gone (n + size a) b p q → Gone n (fork a b) p q
  other_gone n a b p q t = ⊎_elim (λ z. inl (inr z.0, z.1)) (λ z. inr (z.0, inr z.1, z.2)) t

  -- ---- where nothing is done

  pub straight_fair : (w : Way S) → Straight w → Fair w
  straight_fair pass s = tt
  straight_fair (one x) s = tt
  straight_fair (row a b) s = (straight_fair a s.0, straight_fair b s.1)
  straight_fair (fork a b) s = (straight_fair a s.0, straight_fair b s.1)
  straight_fair leave s = tt
  straight_fair (turns x c b) s = absurd s
  straight_fair (inside e b x) s = absurd s

  -- through a straight piece a way goes without an action
  pub crossed : (n : ℕ) (w : Way S) (p : Option ℕ) → Straight w → Part n w → Ready n w p → Through n w p p
  crossed n w p s h r = ⊎_elim
      (λ f. ⊎_elim
      (λ k. inr (k.0, k.1, inr (leads_to p f.0 k.0 (r f.0 f.1) k.2)))
      (λ k. absurd (straight_goes_on n w k.0 s k.1))
      (leads_out E n w (straight_fair w s) h.edges f.0 (first_within n w f.0 f.1)))
      (λ g. ⊎_elim (λ (z : Passes w). inl (z, refl)) (λ (z : LeavesAtOnce w). absurd (straight_stays w s z)) g)
      (starts n w)

  -- ---- a monitor

  -- wherever its block was left, its exit comes next
  pub exit_next : (n : ℕ) (s x : S) (b : Way S) (q : Option ℕ) → Part n (inside s b x) → Stays (suc n) b (Some n) q → Leads E q (suc n + size b)
  exit_next n s x b q h t = ⊎_elim
      (λ (e : q ≡ Some n). subst (λ z. Leads E z (suc n + size b)) (sym e) (exits E n b s x h.edges out n (inl refl)))
      (λ z. subst (λ y. Leads E y (suc n + size b)) (sym z.1) (exits E n b s x h.edges out z.0 (inr z.2))) t
    where
      out : (i : ℕ) → Within (suc n) b i → ((l : ℕ) × Last (suc n) b l × To E i l) ⊎ ((l : ℕ) × Leaves (suc n) b l × To E i l)
      out = leads_out E (suc n) b h.fair (λ i j e. h.edges i j (inl e))

  pub monitor_through : (n : ℕ) (s x : S) (b : Way S) (p q r : Option ℕ) → Through (suc n) b r q → Through n (inside s b x) p (Some (suc n + size b))
  monitor_through n s x b p q r t = inr (suc n + size b, (refl, ⊎_elim (λ z. inl z.0) (λ z. inr (z.0, z.1)) t), inl refl)

  pub monitor_gone : (n : ℕ) (s x : S) (b : Way S) (p q r : Option ℕ) → Gone (suc n) b r q → Gone n (inside s b x) p (Some (suc n + size b))
  monitor_gone n s x b p q r t = inr (suc n + size b, (refl, ⊎_elim (λ z. inl z.0) (λ z. inr (z.0, z.1)) t), inl refl)

  -- ---- a loop

  -- where its condition comes next
  abbrev pub Turning : ℕ → (s : S) → (c b : Way S) → Option ℕ → Type 0
  Turning n s c b p = Ready (suc n) c p × (Passes c → (a : ℕ) × Last n (turns s c b) a × Past p a)
