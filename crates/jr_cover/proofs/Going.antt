-- Plans that go through the sites of a piece, construct by construct.
use Rattle.std.proofs.Common.{◌≡◌, ◌⊎◌, ℕ, ◌+◌, Bool, true, false, List, Option, Some, None, refl, sym, subst, inl, inr, arith}
use Rattle.jr_plans.specs.Plan.{Plan, done, act, ask, call}
use Rattle.jr_ast.specs.Tree as tree
use Rattle.jr_ast.specs.StatementTree as statement
use Rattle.jr_runs.specs.Keys.{Keys, At}
use Rattle.jr_runs.specs.Values.{Value, int, truth, null, text, class_object, object}
use Rattle.jr_runs.specs.Actions.{Event}
use Rattle.jr_runs.specs.Rows.{Rows}
use Rattle.jr_runs.specs.Arithmetic.{Out, value, thrown}
use Rattle.jr_runs.specs.Core.{Exp, Stmt}
use Rattle.jr_runs.specs.Evaluation.{Flow, goes_on, returns, Call, invoke, construct, turn, Step, on_value, next, non_null, on_truth, on_class}
use Rattle.jr_cover.specs.Translation.{exp_code}
use Rattle.jr_cover.specs.StatementTranslation.{stmt_code}
use Rattle.jr_runs.specs.TypedRuns.{OutHas}
use Rattle.jr_cover.specs.Ways.{Way, one, row, fork, turns, size, Straight}
use Rattle.jr_cover.specs.Visiting.{Leads, Visits}
use Rattle.jr_cover.specs.Sites.{Site, Known, exp_way, stmt_way}
use Rattle.jr_cover.specs.Covering.{DoneAt}
use Rattle.jr_cover.proofs.Visits.{visits_and, visits_more}
use Rattle.jr_cover.proofs.Parts.{Part, Through, Gone, Stays, Ready, Turning, row_ready, row_through, stays_more, stays_behind, one_through, other_through, crossed, part_first, part_second, part_one, part_other}

-- the walk of one member's sites: E, Is its edges and sites; Outside: places of other members
module _ {K : Keys} {A : Type 0} (R : Rows K) (X : Known K A) (E : ℕ → ℕ → Type 0) (Is : ℕ → Site K → Type 0) (Outside : At K → Type 0) where
  abbrev pub Moves : Event K → Option ℕ → Option ℕ → Type 0
  Moves x p q = (Outside x.at × (q ≡ p)) ⊎ ((i : ℕ) × (s : Site K) × Is i s × DoneAt R s x × Leads E p i × (q ≡ Some i))

  -- a turn of a loop of the member, its condition next
  pub record TurnAt (c : Exp K) (b : Stmt K) (p : Option ℕ) : Type 0 where
    pub number : ℕ
    pub site : Site K
    pub condition : tree.Exp A
    pub body : statement.Stmt A
    pub part : Part E Is number (turns site (exp_way X condition) (stmt_way X body))
    pub condition_is : c ≡ exp_code X.facts condition
    pub body_is : b ≡ stmt_code X.facts body
    pub ready : Turning E Is number site (exp_way X condition) (stmt_way X body) p

  -- what is known where a statement was gone through or left
  abbrev pub FlowPost : ℕ → Way (Site K) → Option ℕ → Out (Flow K) → Option ℕ → Type 0
  FlowPost n w p (value (goes_on l)) q = Through E Is n w p q × Stays E Is n w p q
  FlowPost n w p (value (returns v)) q = Gone E Is n w p q × Stays E Is n w p q
  FlowPost n w p (thrown f) q = Stays E Is n w p q

  -- Quiet: turns of loops outside of the member
  module _ (Quiet : Exp K → Stmt K → Type 0) where
    abbrev pub Pre : Call K → Option ℕ → Type 0
    Pre (invoke m me args) p = Unit {0}
    Pre (construct k me args) p = Unit {0}
    Pre (turn me c b l) p = TurnAt c b p ⊎ Quiet c b

    abbrev pub TurnPost : (c : Exp K) (b : Stmt K) (p : Option ℕ) → TurnAt c b p ⊎ Quiet c b → Out (Flow K) → Option ℕ → Type 0
    TurnPost c b p (inl t) r q = FlowPost t.number (turns t.site (exp_way X t.condition) (stmt_way X t.body)) p r q
    TurnPost c b p (inr t) r q = q ≡ p

    abbrev pub Post : (c : Call K) (p : Option ℕ) → Pre c p → Out (Flow K) → Option ℕ → Type 0
    Post (invoke m me args) p h r q = q ≡ p
    Post (construct k me args) p h r q = q ≡ p
    Post (turn me c b l) p h r q = TurnPost c b p h r q

    abbrev pub Visiting : {B : Type 0} → (B → Option ℕ → Type 0) → Plan (Value K) (Event K) (Call K) (Out (Flow K)) B → Option ℕ → Type 0
    Visiting Q x p = Visits Moves Pre Post Q x p

    abbrev pub ExpPost : {B : Type 0} → ℕ → Way (Site K) → (B → Type 0) → Option ℕ → Out B → Option ℕ → Type 0
    ExpPost n w U p (value a) q = U a × Through E Is n w p q × Stays E Is n w p q
    ExpPost n w U p (thrown f) q = Stays E Is n w p q

    -- from where the piece is next, the plan goes through its sites; its value has U
    abbrev pub Goes : {B : Type 0} → ℕ → Way (Site K) → (B → Type 0) → Step K B → Type 0
    Goes n w U x = (p : Option ℕ) → Part E Is n w → Ready E Is n w p → Visiting (ExpPost n w U p) x p

    abbrev pub Any : {B : Type 0} → B → Type 0
    Any b = Unit {0}

    module _ {B C : Type 0} where
      pub goes_row : (n : ℕ) (a b : Way (Site K)) (U : B → Type 0) (U' : C → Type 0) (x : Step K B) (k : B → Step K C) → Goes n a U x → ((y : B) → U y → Goes (n + size a) b U' (k y)) → Goes n (row a b) U' (next x k)
      goes_row n a b U U' x k g h p part ready = visits_and Moves Pre Post (ExpPost n a U p) (ExpPost n (row a b) U' p) x (on_value k) p (g p (part_first E Is n a b part) (λ f i. ready f (inl i))) go
        where
          behind : (q : Option ℕ) → Through E Is n a p q → Stays E Is n a p q → (o : Out C) (r : Option ℕ) → ExpPost (n + size a) b U' q o r → ExpPost n (row a b) U' p o r
          behind q t z (value y) r d = (d.0, row_through E Is n a b p q r t d.1, stays_behind E Is (n + size a) n b (row a b) p q r (omega arith) (omega arith) (stays_more E Is n n a (row a b) p q (omega arith) (omega arith) z) d.2)
          behind q t z (thrown f) r d = stays_behind E Is (n + size a) n b (row a b) p q r (omega arith) (omega arith) (stays_more E Is n n a (row a b) p q (omega arith) (omega arith) z) d

          go : (o : Out B) (q : Option ℕ) → ExpPost n a U p o q → Visiting (ExpPost n (row a b) U' p) (on_value k o) q
          go (value y) q d = visits_more Moves Pre Post (ExpPost (n + size a) b U' q) (ExpPost n (row a b) U' p) (λ o r e. behind q d.1 d.2 o r e) (k y) q (h y d.0 q (part_second E Is n a b part) (row_ready E Is n a b p q part ready d.1))
          go (thrown f) q d = stays_more E Is n n a (row a b) p q (omega arith) (omega arith) d

      -- and then a value is computed, or an exception is thrown
      pub goes_end : (n : ℕ) (w : Way (Site K)) (U : B → Type 0) (U' : C → Type 0) (x : Step K B) (k : B → Out C) → Goes n w U x → ((y : B) → U y → OutHas U' (k y)) → Goes n w U' (next x (λ y. done (k y)))
      goes_end n w U U' x k g h p part ready = visits_and Moves Pre Post (ExpPost n w U p) (ExpPost n w U' p) x (on_value (λ y. done (k y))) p (g p part ready) go
        where
          out : (o : Out C) → OutHas U' o → (q : Option ℕ) → Through E Is n w p q → Stays E Is n w p q → ExpPost n w U' p o q
          out (value y) u q t z = (u, t, z)
          out (thrown f) u q t z = z

          go : (o : Out B) (q : Option ℕ) → ExpPost n w U p o q → Visiting (ExpPost n w U' p) (on_value (λ y. done (k y)) o) q
          go (value y) q d = out (k y) (h y d.0) q d.1 d.2
          go (thrown f) q d = d

    module _ {B : Type 0} (U : B → Type 0) where
      -- nothing is done
      pub goes_out : (n : ℕ) (w : Way (Site K)) (o : Out B) → Straight w → OutHas U o → Goes n w U (done o)
      goes_out n w (value y) s u p part ready = (u, crossed E Is n w p s part ready, inl refl)
      goes_out n w (thrown f) s u p part ready = inl refl

      -- a part in front in which nothing is done
      pub goes_skip : (n : ℕ) (a b : Way (Site K)) (x : Step K B) → Straight a → Goes (n + size a) b U x → Goes n (row a b) U x
      goes_skip n a b x s g p part ready = visits_more Moves Pre Post (ExpPost (n + size a) b U p) (ExpPost n (row a b) U p) more x p (g p (part_second E Is n a b part) (row_ready E Is n a b p p part ready t))
        where
          t : Through E Is n a p p
          t = crossed E Is n a p s (part_first E Is n a b part) (λ f i. ready f (inl i))

          more : (o : Out B) (r : Option ℕ) → ExpPost (n + size a) b U p o r → ExpPost n (row a b) U p o r
          more (value y) r d = (d.0, row_through E Is n a b p p r t d.1, stays_more E Is (n + size a) n b (row a b) p r (omega arith) (omega arith) d.2)
          more (thrown f) r d = stays_more E Is (n + size a) n b (row a b) p r (omega arith) (omega arith) d

      -- a part behind in which nothing is done
      pub goes_before : (n : ℕ) (a b : Way (Site K)) (x : Step K B) → Straight b → Goes n a U x → Goes n (row a b) U x
      goes_before n a b x s g p part ready = visits_more Moves Pre Post (ExpPost n a U p) (ExpPost n (row a b) U p) more x p (g p (part_first E Is n a b part) (λ f i. ready f (inl i)))
        where
          more : (o : Out B) (r : Option ℕ) → ExpPost n a U p o r → ExpPost n (row a b) U p o r
          more (value y) r d = (d.0, row_through E Is n a b p r r d.1 (crossed E Is (n + size a) b r s (part_second E Is n a b part) (row_ready E Is n a b p r part ready d.1)), stays_more E Is n n a (row a b) p r (omega arith) (omega arith) d.2)
          more (thrown f) r d = stays_more E Is n n a (row a b) p r (omega arith) (omega arith) d

      pub goes_one : (n : ℕ) (a b : Way (Site K)) (x : Step K B) → Goes n a U x → Goes n (fork a b) U x
      goes_one n a b x g p part ready = visits_more Moves Pre Post (ExpPost n a U p) (ExpPost n (fork a b) U p) more x p (g p (part_one E Is n a b part) (λ f i. ready f (inl i)))
        where
          more : (o : Out B) (r : Option ℕ) → ExpPost n a U p o r → ExpPost n (fork a b) U p o r
          more (value y) r d = (d.0, one_through E Is n a b p r d.1, stays_more E Is n n a (fork a b) p r (omega arith) (omega arith) d.2)
          more (thrown f) r d = stays_more E Is n n a (fork a b) p r (omega arith) (omega arith) d

      pub goes_other : (n : ℕ) (a b : Way (Site K)) (x : Step K B) → Goes (n + size a) b U x → Goes n (fork a b) U x
      goes_other n a b x g p part ready = visits_more Moves Pre Post (ExpPost (n + size a) b U p) (ExpPost n (fork a b) U p) more x p (g p (part_other E Is n a b part) (λ f i. ready f (inr i)))
        where
          more : (o : Out B) (r : Option ℕ) → ExpPost (n + size a) b U p o r → ExpPost n (fork a b) U p o r
          more (value y) r d = (d.0, other_through E Is n a b p r d.1, stays_more E Is (n + size a) n b (fork a b) p r (omega arith) (omega arith) d.2)
          more (thrown f) r d = stays_more E Is (n + size a) n b (fork a b) p r (omega arith) (omega arith) d

      -- the plan may throw at once, where a value is null
      pub goes_non_null : (n : ℕ) (w : Way (Site K)) (v : Value K) (x : Step K B) → Goes n w U x → Goes n w U (non_null v x)
      goes_non_null n w null x g p part ready = inl refl
      goes_non_null n w (int z) x g p part ready = g p part ready
      goes_non_null n w (truth b) x g p part ready = g p part ready
      goes_non_null n w (text t) x g p part ready = g p part ready
      goes_non_null n w (class_object c) x g p part ready = g p part ready
      goes_non_null n w (object i c) x g p part ready = g p part ready

      pub goes_class : (n : ℕ) (w : Way (Site K)) (o : Option K.class) (k : K.class → Step K B) → ((c : K.class) → Goes n w U (k c)) → Goes n w U (on_class o k)
      goes_class n w None k g p part ready = inl refl
      goes_class n w (Some c) k g p part ready = g c p part ready

      pub goes_truth : (n : ℕ) (w : Way (Site K)) (v : Value K) (x y : Step K B) → Goes n w U x → Goes n w U y → Goes n w U (on_truth v x y)
      goes_truth n w (truth true) x y g h p part ready = g p part ready
      goes_truth n w (truth false) x y g h p part ready = h p part ready
      goes_truth n w null x y g h p part ready = h p part ready
      goes_truth n w (int z) x y g h p part ready = h p part ready
      goes_truth n w (text t) x y g h p part ready = h p part ready
      goes_truth n w (class_object c) x y g h p part ready = h p part ready
      goes_truth n w (object i c) x y g h p part ready = h p part ready

      -- ---- actions and calls, each at its site

      at_site : (n : ℕ) (s : Site K) (p : Option ℕ) → Through E Is n (one s) p (Some n) × Stays E Is n (one s) p (Some n)
      at_site n s p = (inr (n, refl, inl refl), inr (n, refl, (omega arith, omega arith)))

      pub goes_act : (n : ℕ) (s : Site K) (x : Event K) (y : B) → DoneAt R s x → U y → Goes n (one s) U (act x (done (value y)))
      goes_act n s x y d u p part ready = (Some n, inr (n, s, part.sites, d, ready n refl, refl), (u, (at_site n s p).0, (at_site n s p).1))

      pub goes_ask : (n : ℕ) (s : Site K) (f : Value K → Bool) (x : Value K → Event K) (y : Value K → B) → ((v : Value K) → DoneAt R s (x v)) → ((v : Value K) → U (y v)) → Goes n (one s) U (ask f x (λ v. done (value (y v))))
      goes_ask n s f x y d u p part ready = λ v i. (Some n, inr (n, s, part.sites, d v, ready n refl, refl), (u v, (at_site n s p).0, (at_site n s p).1))

      answered : (n : ℕ) (s : Site K) (o : Out B) (p q : Option ℕ) → OutHas U o → Leads E p n → q ≡ p → ExpPost n (one s) U p o q
      answered n s (value y) p q u l e = (u, inr (n, refl, inr (subst (λ z. Leads E z n) (sym e) l)), inl e)
      answered n s (thrown f) p q u l e = inl e

      pub goes_invoke : (n : ℕ) (s : Site K) (m : K.method) (me : Value K) (args : List (Value K)) (k : Out (Flow K) → Out B) → ((o : Out (Flow K)) → OutHas U (k o)) → Goes n (one s) U (call (invoke m me args) (λ o. done (k o)))
      goes_invoke n s m me args k u p part ready = (tt, λ r q e. answered n s (k r) p q (u r) (ready n refl) e)

      pub goes_construct : (n : ℕ) (s : Site K) (m : K.constructor) (me : Value K) (args : List (Value K)) (k : Out (Flow K) → Out B) → ((o : Out (Flow K)) → OutHas U (k o)) → Goes n (one s) U (call (construct m me args) (λ o. done (k o)))
      goes_construct n s m me args k u p part ready = (tt, λ r q e. answered n s (k r) p q (u r) (ready n refl) e)

      -- an answer from outside, and then another piece
      pub goes_ask_row : (n : ℕ) (s : Site K) (b : Way (Site K)) (f : Value K → Bool) (x : Value K → Event K) (k : Value K → Step K B) → ((v : Value K) → DoneAt R s (x v)) → ((v : Value K) → Goes (n + 1) b U (k v)) → Goes n (row (one s) b) U (ask f x k)
      goes_ask_row n s b f x k d g p part ready = λ v i. (
        Some n,
        inr (n, s, part.sites.0, d v, ready n (inl refl), refl),
        visits_more Moves Pre Post (ExpPost (n + 1) b U (Some n)) (ExpPost n (row (one s) b) U p) more (k v) (Some n)
            (g v (Some n) (part_second E Is n (one s) b part) (row_ready E Is n (one s) b p (Some n) part ready (at_site n s p).0)),
      )
        where
          more : (o : Out B) (r : Option ℕ) → ExpPost (n + 1) b U (Some n) o r → ExpPost n (row (one s) b) U p o r
          more (value y) r e = (e.0, row_through E Is n (one s) b p (Some n) r (at_site n s p).0 e.1, stays_behind E Is (n + 1) n b (row (one s) b) p (Some n) r (omega arith) (omega arith) (inr (n, refl, (omega arith, omega arith))) e.2)
          more (thrown f) r e = stays_behind E Is (n + 1) n b (row (one s) b) p (Some n) r (omega arith) (omega arith) (inr (n, refl, (omega arith, omega arith))) e
