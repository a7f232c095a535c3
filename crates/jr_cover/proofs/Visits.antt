-- What visits sites in order does so in every run: by induction on plans and on fuel.
use Rattle.std.proofs.Common.{◌≡◌, ◌⊎◌, ◌≤◌, ◌<◌, ℕ, zero, suc, Bool, true, false, List, [], ◌∷◌, ◌++◌, Option, None, IsTrue, nat_eq, refl, sym, subst, ◌∙◌, inl, inr, ⊎_elim, arith}
use Rattle.std.proofs.lemmas.Bool.{cases_eq, cases_lt, eq-eqb, ne_eqb}
use Rattle.jr_plans.specs.Plan.{Plan, done, act, ask, call, and_then}
use Rattle.jr_plans.specs.Run.{End, ended, cut, ill_typed}
use Rattle.jr_plans.specs.Numbered.{Numbered, NumberedRun, numbered_on, numbered_answer, NumberedRunner, numbered_run, numbers_of, numbered_runner}
use Rattle.jr_cover.specs.Visiting.{Visits, MovesOwn, Follows}

same_number : (n : ℕ) → nat_eq n n ≡ true
same_number n = eq-eqb n n refl

cut_is_not_ended : {X : Type 0} (a : X) → cut ≡ ended a → ⊥
cut_is_not_ended a e = cc

ill_is_not_ended : {X : Type 0} (a : X) → ill_typed ≡ ended a → ⊥
ill_is_not_ended a e = cc

other_number : (n m : ℕ) → (n ≡ m → ⊥) → nat_eq n m ≡ false
other_number n m d = ne_eqb n m d

module _ {V E S R : Type 0} (Moves : E → Option ℕ → Option ℕ → Type 0) (Pre : S → Option ℕ → Type 0) (Post : (c : S) (p : Option ℕ) → Pre c p → R → Option ℕ → Type 0) where
  pub visits_and : {A B : Type 0} (Q : A → Option ℕ → Type 0) (Q' : B → Option ℕ → Type 0) (x : Plan V E S R A) (k : A → Plan V E S R B) (p : Option ℕ) → Visits Moves Pre Post Q x p
      → ((a : A) (q : Option ℕ) → Q a q → Visits Moves Pre Post Q' (k a) q) → Visits Moves Pre Post Q' (and_then x k) p
  visits_and Q Q' (done a) k p h g = g a p h
  visits_and Q Q' (act e x) k p h g = (h.0, h.1, visits_and Q Q' x k h.0 h.2 g)
  visits_and Q Q' (ask f s x) k p h g = λ v i. let d = h v i in (d.0, d.1, visits_and Q Q' (x v) k d.0 d.2 g)
  visits_and Q Q' (call c x) k p h g = (h.0, λ r q i. visits_and Q Q' (x r) k q (h.1 r q i) g)

  pub visits_more : {A : Type 0} (Q Q' : A → Option ℕ → Type 0) → ((a : A) (q : Option ℕ) → Q a q → Q' a q) → (x : Plan V E S R A) (p : Option ℕ) → Visits Moves Pre Post Q x p → Visits Moves Pre Post Q' x p
  visits_more Q Q' i (done a) p h = i a p h
  visits_more Q Q' i (act e x) p h = (h.0, h.1, visits_more Q Q' i x h.0 h.2)
  visits_more Q Q' i (ask f s x) p h = λ v j. let d = h v j in (d.0, d.1, visits_more Q Q' i (x v) d.0 d.2)
  visits_more Q Q' i (call c x) p h = (h.0, λ r q j. visits_more Q Q' i (x r) q (h.1 r q j))

module _ {E : Type 0} where
  -- ---- traces

  -- the activations of a trace's events are `me`, or from `next` on and below `end`
  abbrev pub Among : (me next end : ℕ) → List (Numbered E) → Type 0
  Among me next end [] = Unit {0}
  Among me next end (x ∷ t) = ((x.activation ≡ me) ⊎ ((next ≤ x.activation) × (x.activation < end))) × Among me next end t

  pub among_more : (me next end next' end' : ℕ) → next' ≤ next → end ≤ end' → (t : List (Numbered E)) → Among me next end t → Among me next' end' t
  among_more me next end next' end' a b [] h = tt
  among_more me next end next' end' a b (x ∷ t) h = (⊎_elim (λ e. inl e) (λ g. inr (omega (arith, a, g.0), omega (arith, b, g.1))) h.0, among_more me next end next' end' a b t h.1)

  pub among_both : (me next end : ℕ) (t u : List (Numbered E)) → Among me next end t → Among me next end u → Among me next end (t ++ u)
  among_both me next end [] u h g = g
  among_both me next end (x ∷ t) u h g = (h.0, among_both me next end t u h.1 g)

  -- an own activation's events are none of an outer one's
  pub among_new : (me next end : ℕ) (t : List (Numbered E)) → next < end → Among next (suc next) end t → Among me next end t
  among_new me next end [] l h = tt
  among_new me next end (x ∷ t) l h = (⊎_elim (λ (e : x.activation ≡ next). inr (omega (arith, e), omega (arith, e, l))) (λ g. inr (omega (arith, g.0), g.1)) h.0, among_new me next end t l h.1)

module _ {E : Type 0} (Moves : E → Option ℕ → Option ℕ → Type 0) where
  pub follows_both : (k : ℕ) (t u : List (Numbered E)) (p q r : Option ℕ) → Follows Moves k t p q → Follows Moves k u q r → Follows Moves k (t ++ u) p r
  follows_both k [] u p q r h g = subst (λ z. Follows Moves k u z r) h g
  follows_both k (x ∷ t) u p q r h g = (h.0, h.1, follows_both k t u h.0 q r h.2 g)

  -- an activation that has no event in a trace stays where it is
  pub follows_none : (k me next end : ℕ) (t : List (Numbered E)) → (k ≡ me → ⊥) → (k < next) ⊎ (end ≤ k) → Among me next end t → (p : Option ℕ) → Follows Moves k t p p
  follows_none k me next end [] d l h p = refl
  follows_none k me next end (x ∷ t) d l h p =
      (p, subst (λ b. MovesOwn Moves k b x.action p p) (sym (other_number x.activation k apart)) refl, follows_none k me next end t d l h.1 p)
    where
      apart : x.activation ≡ k → ⊥
      apart e = ⊎_elim (λ (i : x.activation ≡ me). d (sym e ∙ i)) (λ g. ⊎_elim (λ (i : k < next). omega (arith, e, i, g.0)) (λ (i : end ≤ k). omega (arith, e, i, g.1)) l) h.0

  -- ---- runs

  -- what a run without positions has
  pub record Counted (me next : ℕ) (t : List (Numbered E)) (end : ℕ) : Type 0 where
    pub grows : next ≤ end
    pub among : Among me next end t

  -- each activation that began in it begins without a position
  abbrev pub Others : ℕ → List (Numbered E) → Type 0
  Others next t = (k : ℕ) → next ≤ k → (r : Option ℕ) × Follows Moves k t None r

  -- what it has of the positions of its own activation
  abbrev pub Own : {A : Type 0} → (A → Option ℕ → Type 0) → ℕ → Option ℕ → List (Numbered E) → End A → Type 0
  Own {A = A} Q me p t e = (q : Option ℕ) × Follows Moves me t p q × ((a : A) → e ≡ ended a → Q a q)

  pub counted_none : (me next : ℕ) → Counted me next [] next
  counted_none me next = record { grows = omega arith; among = tt }

  -- one event of its own in front
  pub counted_more : (me next end : ℕ) (x : E) (t : List (Numbered E)) → Counted me next t end → Counted me next (record { activation = me; action = x } ∷ t) end
  counted_more me next end x t h = record { grows = h.grows; among = (inl refl, h.among) }

  pub counted_both : (me next mid end : ℕ) (t u : List (Numbered E)) → Counted me next t mid → Counted me mid u end → Counted me next (t ++ u) end
  counted_both me next mid end t u h g = record {
    grows = omega (arith, h.grows, g.grows);
    among = among_both me next end t u (among_more me next mid next end (omega arith) g.grows t h.among) (among_more me mid end next end h.grows (omega arith) u g.among);
  }

  pub others_none : (next : ℕ) → Others next []
  others_none next k l = (None, refl)

  pub others_more : (me next : ℕ) (x : E) (t : List (Numbered E)) → me < next → Others next t → Others next (record { activation = me; action = x } ∷ t)
  others_more me next x t l h k b = let d = h k b in
      (d.0, (None, subst (λ z. MovesOwn Moves k z x None None) (sym (other_number me k (λ e. omega (arith, e, l, b)))) refl, d.1))

  pub others_both : (me next mid end : ℕ) (t u : List (Numbered E)) → me < next → Counted me next t mid → Counted me mid u end → Others next t → Others mid u → Others next (t ++ u)
  others_both me next mid end t u l h g i j k b = ⊎_elim
      (λ (m : k < mid). let d = i k b in (d.0, follows_both k t u None d.0 d.0 d.1 (follows_none k me mid end u (λ e. omega (arith, e, l, b)) (inl m) g.among d.0)))
      (λ (m : mid ≤ k). let d = j k m in (d.0, follows_both k t u None None d.0 (follows_none k me next mid t (λ e. omega (arith, e, l, b)) (inr m) h.among None) d.1))
      (cases_lt k mid)

module _ {V E S R : Type 0} (Moves : E → Option ℕ → Option ℕ → Type 0) (Pre : S → Option ℕ → Type 0) (Post : (c : S) (p : Option ℕ) → Pre c p → R → Option ℕ → Type 0) where
  -- H: how calls are run
  module _ (H : NumberedRunner V E S R) where
    abbrev pub CountedCalls : Type 0
    CountedCalls = (c : S) (me next : ℕ) (vs : List V) → me < next → Counted Moves me next (H c me next vs).trace (H c me next vs).next

    abbrev pub OtherCalls : Type 0
    OtherCalls = (c : S) (me next : ℕ) (vs : List V) → me < next → Others Moves next (H c me next vs).trace

    abbrev pub OwnCalls : Type 0
    OwnCalls = (c : S) (me next : ℕ) (vs : List V) → me < next → (p : Option ℕ) (h : Pre c p) → Own Moves (λ r q. Post c p h r q) me p (H c me next vs).trace (H c me next vs).end

    module _ (counted : CountedCalls) where
      counted_on : {A B : Type 0} (me next mid : ℕ) (t : List (Numbered E)) (e : End A) (vs : List V) (k : A → List V → ℕ → NumberedRun V E B) → Counted Moves me next t mid
          → ((a : A) → Counted Moves me mid (k a vs mid).trace (k a vs mid).next) → Counted Moves me next (numbered_on t e vs mid k).trace (numbered_on t e vs mid k).next
      counted_on me next mid t (ended a) vs k h g = counted_both Moves me next mid (k a vs mid).next t (k a vs mid).trace h (g a)
      counted_on me next mid t cut vs k h g = h
      counted_on me next mid t ill_typed vs k h g = h

      counted_answer : {A : Type 0} (b : Bool) (me next : ℕ) (x : E) (vs : List V) (o : NumberedRun V E A) → Counted Moves me next o.trace o.next
          → Counted Moves me next (numbered_answer b (record { activation = me; action = x }) vs next o).trace (numbered_answer b (record { activation = me; action = x }) vs next o).next
      counted_answer true me next x vs o h = counted_more Moves me next o.next x o.trace h
      counted_answer false me next x vs o h = counted_none Moves me next

      pub plan_counted : {A : Type 0} (x : Plan V E S R A) (me next : ℕ) (vs : List V) → me < next → Counted Moves me next (numbered_run H x me next vs).trace (numbered_run H x me next vs).next
      plan_counted (done a) me next vs l = counted_none Moves me next
      plan_counted (act e x) me next vs l = counted_more Moves me next (numbered_run H x me next vs).next e (numbered_run H x me next vs).trace (plan_counted x me next vs l)
      plan_counted (ask f s x) me next [] l = counted_none Moves me next
      plan_counted (ask f s x) me next (v ∷ vs) l = counted_answer (f v) me next (s v) vs (numbered_run H (x v) me next vs) (plan_counted (x v) me next vs l)
      plan_counted (call c x) me next vs l =
          let o = H c me next vs in
          let h = counted c me next vs l in
          counted_on me next o.next o.trace o.end o.left (λ r ws m. numbered_run H (x r) me m ws) h (λ r. plan_counted (x r) me o.next o.left (omega (arith, l, h.grows)))

      module _ (others : OtherCalls) where
        others_on : {A B : Type 0} (me next mid : ℕ) (t : List (Numbered E)) (e : End A) (vs : List V) (k : A → List V → ℕ → NumberedRun V E B) → me < next → Counted Moves me next t mid → Others Moves next t
            → ((a : A) → Counted Moves me mid (k a vs mid).trace (k a vs mid).next) → ((a : A) → Others Moves mid (k a vs mid).trace) → Others Moves next (numbered_on t e vs mid k).trace
        others_on me next mid t (ended a) vs k l h i g j = others_both Moves me next mid (k a vs mid).next t (k a vs mid).trace l h (g a) i (j a)
        others_on me next mid t cut vs k l h i g j = i
        others_on me next mid t ill_typed vs k l h i g j = i

        others_answer : {A : Type 0} (b : Bool) (me next : ℕ) (x : E) (vs : List V) (o : NumberedRun V E A) → me < next → Others Moves next o.trace
            → Others Moves next (numbered_answer b (record { activation = me; action = x }) vs next o).trace
        others_answer true me next x vs o l h = others_more Moves me next x o.trace l h
        others_answer false me next x vs o l h = others_none Moves next

        pub plan_others : {A : Type 0} (x : Plan V E S R A) (me next : ℕ) (vs : List V) → me < next → Others Moves next (numbered_run H x me next vs).trace
        plan_others (done a) me next vs l = others_none Moves next
        plan_others (act e x) me next vs l = others_more Moves me next e (numbered_run H x me next vs).trace l (plan_others x me next vs l)
        plan_others (ask f s x) me next [] l = others_none Moves next
        plan_others (ask f s x) me next (v ∷ vs) l = others_answer (f v) me next (s v) vs (numbered_run H (x v) me next vs) l (plan_others (x v) me next vs l)
        plan_others (call c x) me next vs l =
            let o = H c me next vs in
            let h = counted c me next vs l in
            others_on me next o.next o.trace o.end o.left (λ r ws m. numbered_run H (x r) me m ws) l h (others c me next vs l)
            (λ r. plan_counted (x r) me o.next o.left (omega (arith, l, h.grows))) (λ r. plan_others (x r) me o.next o.left (omega (arith, l, h.grows)))

      module _ (own : OwnCalls) where
        own_first : (me : ℕ) (x : E) (p q : Option ℕ) → Moves x p q → MovesOwn Moves me (nat_eq me me) x p q
        own_first me x p q m = subst (λ b. MovesOwn Moves me b x p q) (sym (same_number me)) m

        own_on : {A B : Type 0} (Q : A → Option ℕ → Type 0) (Q' : B → Option ℕ → Type 0) (me mid : ℕ) (p : Option ℕ) (t : List (Numbered E)) (e : End A) (vs : List V) (k : A → List V → ℕ → NumberedRun V E B)
            → Own Moves Q me p t e → ((a : A) (q : Option ℕ) → Q a q → Own Moves Q' me q (k a vs mid).trace (k a vs mid).end) → Own Moves Q' me p (numbered_on t e vs mid k).trace (numbered_on t e vs mid k).end
        own_on Q Q' me mid p t (ended a) vs k h g = let d = g a h.0 (h.2 a refl) in (d.0, follows_both Moves me t (k a vs mid).trace p h.0 d.0 h.1 d.1, d.2)
        own_on Q Q' me mid p t cut vs k h g = (h.0, h.1, λ a e. absurd (cut_is_not_ended a e))
        own_on Q Q' me mid p t ill_typed vs k h g = (h.0, h.1, λ a e. absurd (ill_is_not_ended a e))

        own_answer : {A : Type 0} (Q : A → Option ℕ → Type 0) (b : Bool) (me next : ℕ) (x : E) (vs : List V) (o : NumberedRun V E A) (p : Option ℕ) → (IsTrue b → (q : Option ℕ) × Moves x p q × Own Moves Q me q o.trace o.end)
            → Own Moves Q me p (numbered_answer b (record { activation = me; action = x }) vs next o).trace (numbered_answer b (record { activation = me; action = x }) vs next o).end
        own_answer Q true me next x vs o p h = let d = h refl in (d.2.0, (d.0, own_first me x p d.0 d.1, d.2.1), d.2.2)
        own_answer {A = A} Q false me next x vs o p h = (p, refl, λ a e. absurd (ill_is_not_ended a e))

        pub plan_own : {A : Type 0} (Q : A → Option ℕ → Type 0) (x : Plan V E S R A) (me next : ℕ) (vs : List V) → me < next → (p : Option ℕ) → Visits Moves Pre Post Q x p
            → Own Moves Q me p (numbered_run H x me next vs).trace (numbered_run H x me next vs).end
        plan_own Q (done a) me next vs l p h = (p, refl, λ b e. subst (λ z. Q z p) (result_of a b e) h)
          where
            result_of : {X : Type 0} (a b : X) → ended a ≡ ended b → a ≡ b
            result_of a b e = cc
        plan_own Q (act e x) me next vs l p h = let d = plan_own Q x me next vs l h.0 h.2 in (d.0, (h.0, own_first me e p h.0 h.1, d.1), d.2)
        plan_own {A = A} Q (ask f s x) me next [] l p h = (p, refl, λ a e. absurd (cut_is_not_ended a e))
        plan_own Q (ask f s x) me next (v ∷ vs) l p h = own_answer Q (f v) me next (s v) vs (numbered_run H (x v) me next vs) p (λ i. let d = h v i in (d.0, d.1, plan_own Q (x v) me next vs l d.0 d.2))
        plan_own Q (call c x) me next vs l p h =
            let o = H c me next vs in
            own_on (λ r q. Post c p h.0 r q) Q me o.next p o.trace o.end o.left (λ r ws m. numbered_run H (x r) me m ws) (own c me next vs l p h.0)
            (λ r q i. plan_own Q (x r) me o.next o.left (omega (arith, l, (counted c me next vs l).grows)) q (h.1 r q i))

  -- ---- by induction on fuel. opens c: is it an activation of its own?
  module _ (opens : S → Bool) (table : S → Plan V E S R R) where
    abbrev At : ℕ → NumberedRunner V E S R
    At n = numbered_runner opens table n

    counted_step : (n : ℕ) → CountedCalls (At n) → (b : Bool) (c : S) (me next : ℕ) (vs : List V) → me < next
        → Counted Moves me next (numbered_run (At n) (table c) (numbers_of b me next).0 (numbers_of b me next).1 vs).trace (numbered_run (At n) (table c) (numbers_of b me next).0 (numbers_of b me next).1 vs).next
    counted_step n ih true c me next vs l =
        let o = numbered_run (At n) (table c) next (suc next) vs in
        let h = plan_counted (At n) ih (table c) next (suc next) vs (omega arith) in
        record { grows = omega (arith, h.grows); among = among_new me next o.next o.trace (omega (arith, h.grows)) h.among }
    counted_step n ih false c me next vs l = plan_counted (At n) ih (table c) me next vs l

    pub runs_counted : (n : ℕ) → CountedCalls (At n)
    runs_counted zero c me next vs l = counted_none Moves me next
    runs_counted (suc n) c me next vs l = counted_step n (runs_counted n) (opens c) c me next vs l

    -- quiet: what opens an activation is nothing for its caller; goes_on: another call visits sites
    -- in its caller's activation
    module _ (quiet : (c : S) → opens c ≡ true → (p : Option ℕ) (h : Pre c p) (r : R) → Post c p h r p)
        (goes_on : (c : S) → opens c ≡ false → (p : Option ℕ) (h : Pre c p) → Visits Moves Pre Post (λ r q. Post c p h r q) (table c) p) where
      own_step : (n : ℕ) → OwnCalls (At n) → (b : Bool) (c : S) → opens c ≡ b → (me next : ℕ) (vs : List V) → me < next → (p : Option ℕ) (h : Pre c p)
          → Own Moves (λ r q. Post c p h r q) me p (numbered_run (At n) (table c) (numbers_of b me next).0 (numbers_of b me next).1 vs).trace (numbered_run (At n) (table c) (numbers_of b me next).0 (numbers_of b me next).1 vs).end
      own_step n ih true c e me next vs l p h =
          let o = numbered_run (At n) (table c) next (suc next) vs in
          let g = plan_counted (At n) (runs_counted n) (table c) next (suc next) vs (omega arith) in
          (p, follows_none Moves me next (suc next) o.next o.trace (λ i. omega (arith, i, l)) (inl (omega (arith, l))) g.among p, λ r i. quiet c e p h r)
      own_step n ih false c e me next vs l p h = plan_own (At n) (runs_counted n) ih (λ r q. Post c p h r q) (table c) me next vs l p (goes_on c e p h)

      pub runs_own : (n : ℕ) → OwnCalls (At n)
      runs_own zero c me next vs l p h = (p, refl, λ r e. absurd (cut_is_not_ended r e))
      runs_own (suc n) c me next vs l p h = own_step n (runs_own n) (opens c) c refl me next vs l p h

      -- the run of a piece, in an activation that goes on
      pub visits_piece : {A : Type 0} (Q : A → Option ℕ → Type 0) (fuel : ℕ) (x : Plan V E S R A) (me next : ℕ) (vs : List V) → me < next → (p : Option ℕ) → Visits Moves Pre Post Q x p
          → Own Moves Q me p (numbered_run (At fuel) x me next vs).trace (numbered_run (At fuel) x me next vs).end
      visits_piece Q fuel x me next vs l p h = plan_own (At fuel) (runs_counted fuel) (runs_own fuel) Q x me next vs l p h

      -- begun: what opens an activation visits its sites from the beginning on
      module _ (begun : (c : S) → opens c ≡ true → Visits Moves Pre Post (λ r q. Unit {0}) (table c) None) where
        others_step : (n : ℕ) → OtherCalls (At n) → (b : Bool) (c : S) → opens c ≡ b → (me next : ℕ) (vs : List V) → me < next
            → Others Moves next (numbered_run (At n) (table c) (numbers_of b me next).0 (numbers_of b me next).1 vs).trace
        others_step n ih true c e me next vs l k b =
            let o = numbered_run (At n) (table c) next (suc next) vs in
            let g = visits_piece (λ r q. Unit {0}) n (table c) next (suc next) vs (omega arith) None (begun c e) in
            let h = plan_others (At n) (runs_counted n) ih (table c) next (suc next) vs (omega arith) in
            ⊎_elim (λ (i : k ≡ next). (g.0, subst (λ z. Follows Moves z o.trace None g.0) (sym i) g.1)) (λ d. h k (omega (arith, b, d))) (cases_eq k next)
        others_step n ih false c e me next vs l k b = plan_others (At n) (runs_counted n) ih (table c) me next vs l k b

        pub runs_others : (n : ℕ) → OtherCalls (At n)
        runs_others zero c me next vs l = others_none Moves next
        runs_others (suc n) c me next vs l = others_step n (runs_others n) (opens c) c refl me next vs l

        -- In a run from the beginning, each activation visits its sites in order.
        pub visits_run : (fuel : ℕ) (c : S) → opens c ≡ true → (vs : List V) (k : ℕ) → (r : Option ℕ) × Follows Moves k (numbered_runner opens table fuel c 0 0 vs).trace None r
        visits_run zero c e vs k = (None, refl)
        visits_run (suc n) c e vs k = from (opens c) e
          where
            from : (b : Bool) → b ≡ true → (r : Option ℕ) × Follows Moves k (numbered_run (At n) (table c) (numbers_of b 0 0).0 (numbers_of b 0 0).1 vs).trace None r
            from true i = ⊎_elim
                (λ (z : k ≡ 0). let g = visits_piece (λ r q. Unit {0}) n (table c) 0 1 vs (omega arith) None (begun c e) in
                (g.0, subst (λ m. Follows Moves m (numbered_run (At n) (table c) 0 1 vs).trace None g.0) (sym z) g.1))
                (λ d. plan_others (At n) (runs_counted n) (runs_others n) (table c) 0 1 vs (omega arith) k (omega (arith, d)))
                (cases_eq k 0)
            from false i = absurd (false_is_not_true i)
              where
                false_is_not_true : false ≡ true → ⊥
                false_is_not_true j = cc
