-- The plan of a statement's code goes through its sites; so does each turn of a loop.
use Rattle.std.proofs.Common.{◌≡◌, ℕ, zero, suc, ◌+◌, true, false, List, Option, Some, None, refl, sym, subst, inl, inr, ⊎_elim, arith}
use Rattle.jr_plans.specs.Plan.{Plan, done, act, call}
use Rattle.jr_ast.specs.Tree as tree
use Rattle.jr_ast.specs.StatementTree as statement
use Rattle.jr_runs.specs.Keys.{Keys, At}
use Rattle.jr_runs.specs.Values.{Value, int, truth, null, text, class_object, object}
use Rattle.jr_runs.specs.Actions.{enter, exit, Event, placed}
use Rattle.jr_runs.specs.Rows.{Rows}
use Rattle.jr_runs.specs.Arithmetic.{Out, value, thrown}
use Rattle.jr_runs.specs.Core.{Exp, Stmt}
use Rattle.jr_runs.specs.Evaluation.{Flow, goes_on, returns, Call, turn, Step, on_value, next, with_local, unset, non_null, on_truth, on_flow, leaving, exp, stmt, stmts}
use Rattle.jr_cover.specs.Translation.{exp_code}
use Rattle.jr_cover.specs.StatementTranslation.{stmt_code, else_code, stmts_code, all_declared}
use Rattle.jr_cover.specs.Ways.{Way, pass, row, fork, leave, turns, inside, size, Passes, First, Ends, Last, Again, Straight}
use Rattle.jr_cover.specs.Visiting.{Leads}
use Rattle.jr_cover.specs.Sites.{What, Site, at_place, Known, unless, exp_way, stmt_way, else_way, stmts_way}
use Rattle.jr_cover.proofs.Visits.{visits_and, visits_more}
use Rattle.jr_cover.proofs.WayLaws.{first_within, last_within}
use Rattle.jr_cover.proofs.Parts.{Part, Past, Through, Gone, Stays, Ready, Turning, past_leads, row_ready, row_through, row_gone, row_gone_first, stays_more, stays_behind, one_through, other_through, one_gone, other_gone, crossed, part_first, part_second, part_one, part_other, part_condition, part_body, part_inside, exit_next, monitor_through, monitor_gone}
use Rattle.jr_cover.proofs.Going as going
use Rattle.jr_cover.proofs.Going.{TurnAt, FlowPost}
use Rattle.jr_cover.proofs.StraightWays.{unless_straight}
use Rattle.jr_cover.proofs.ExpGoes.{exp_goes}

module _ {K : Keys} {A : Type 0} (R : Rows K) (X : Known K A) (E : ℕ → ℕ → Type 0) (Is : ℕ → Site K → Type 0) (Outside : At K → Type 0) (Quiet : Exp K → Stmt K → Type 0) where
  abbrev Before : Event K → Option ℕ → Option ℕ → Type 0
  Before x p q = going.Moves R X E Is Outside x p q

  abbrev PreOf : Call K → Option ℕ → Type 0
  PreOf c p = going.Pre R X E Is Outside Quiet c p

  abbrev PostOf : (c : Call K) (p : Option ℕ) → PreOf c p → Out (Flow K) → Option ℕ → Type 0
  PostOf c p h r q = going.Post R X E Is Outside Quiet c p h r q

  abbrev pub Going : {B : Type 0} → (B → Option ℕ → Type 0) → Plan (Value K) (Event K) (Call K) (Out (Flow K)) B → Option ℕ → Type 0
  Going Q x p = going.Visiting R X E Is Outside Quiet Q x p

  abbrev Flows : ℕ → Way (Site K) → Option ℕ → Out (Flow K) → Option ℕ → Type 0
  Flows n w p o q = FlowPost R X E Is Outside n w p o q

  abbrev pub GoesS : ℕ → Way (Site K) → Step K (Flow K) → Type 0
  GoesS n w x = (p : Option ℕ) → Part E Is n w → Ready E Is n w p → Going (Flows n w p) x p

  abbrev All : {B : Type 0} → B → Type 0
  All b = Unit {0}

  abbrev G : {B : Type 0} → ℕ → Way (Site K) → Step K B → Type 0
  G {B = B} n w x = going.Goes R X E Is Outside Quiet n w (λ (b : B). Unit {0}) x

  -- what holds behind the second of two pieces holds behind both
  behind : (n : ℕ) (a b : Way (Site K)) (p q : Option ℕ) → Through E Is n a p q → Stays E Is n a p q → (o : Out (Flow K)) (r : Option ℕ) → Flows (n + size a) b q o r → Flows n (row a b) p o r
  behind n a b p q t z (value (goes_on l)) r d = (row_through E Is n a b p q r t d.0, stays_behind E Is (n + size a) n b (row a b) p q r (omega arith) (omega arith) (stays_more E Is n n a (row a b) p q (omega arith) (omega arith) z) d.1)
  behind n a b p q t z (value (returns v)) r d = (row_gone E Is n a b p q r t d.0, stays_behind E Is (n + size a) n b (row a b) p q r (omega arith) (omega arith) (stays_more E Is n n a (row a b) p q (omega arith) (omega arith) z) d.1)
  behind n a b p q t z (thrown f) r d = stays_behind E Is (n + size a) n b (row a b) p q r (omega arith) (omega arith) (stays_more E Is n n a (row a b) p q (omega arith) (omega arith) z) d

  exp_row : {B : Type 0} (n : ℕ) (a b : Way (Site K)) (x : Step K B) (k : B → Step K (Flow K)) → G n a x → ((y : B) → GoesS (n + size a) b (k y)) → GoesS n (row a b) (next x k)
  exp_row {B = B} n a b x k g h p part ready = visits_and Before PreOf PostOf (going.ExpPost R X E Is Outside Quiet n a (λ (y : B). Unit {0}) p) (Flows n (row a b) p) x (on_value k) p (g p (part_first E Is n a b part) (λ f i. ready f (inl i))) go
    where
      go : (o : Out B) (q : Option ℕ) → going.ExpPost R X E Is Outside Quiet n a (λ (y : B). Unit {0}) p o q → Going (Flows n (row a b) p) (on_value k o) q
      go (value y) q d = visits_more Before PreOf PostOf (Flows (n + size a) b q) (Flows n (row a b) p) (λ o r e. behind n a b p q d.1 d.2 o r e) (k y) q (h y q (part_second E Is n a b part) (row_ready E Is n a b p q part ready d.1))
      go (thrown f) q d = stays_more E Is n n a (row a b) p q (omega arith) (omega arith) d

  stmt_row : (n : ℕ) (a b : Way (Site K)) (x : Step K (Flow K)) (k : List (Value K) → Step K (Flow K)) → GoesS n a x → ((m : List (Value K)) → GoesS (n + size a) b (k m)) → GoesS n (row a b) (next x (λ f. on_flow f k))
  stmt_row n a b x k g h p part ready = visits_and Before PreOf PostOf (Flows n a p) (Flows n (row a b) p) x (on_value (λ f. on_flow f k)) p (g p (part_first E Is n a b part) (λ f i. ready f (inl i))) go
    where
      go : (o : Out (Flow K)) (q : Option ℕ) → Flows n a p o q → Going (Flows n (row a b) p) (on_value (λ f. on_flow f k) o) q
      go (value (goes_on m)) q d = visits_more Before PreOf PostOf (Flows (n + size a) b q) (Flows n (row a b) p) (λ o r e. behind n a b p q d.0 d.1 o r e) (k m) q (h m q (part_second E Is n a b part) (row_ready E Is n a b p q part ready d.0))
      go (value (returns v)) q d = (row_gone_first E Is n a b p q d.0, stays_more E Is n n a (row a b) p q (omega arith) (omega arith) d.1)
      go (thrown f) q d = stays_more E Is n n a (row a b) p q (omega arith) (omega arith) d

  -- an expression, behind which it goes on
  pub exp_ends : {B : Type 0} (n : ℕ) (w : Way (Site K)) (x : Step K B) (k : B → List (Value K)) → G n w x → GoesS n w (next x (λ y. done (value (goes_on (k y)))))
  exp_ends {B = B} n w x k g p part ready = visits_and Before PreOf PostOf (going.ExpPost R X E Is Outside Quiet n w (λ (y : B). Unit {0}) p) (Flows n w p) x (on_value (λ y. done (value (goes_on (k y))))) p (g p part ready) go
    where
      go : (o : Out B) (q : Option ℕ) → going.ExpPost R X E Is Outside Quiet n w (λ (y : B). Unit {0}) p o q → Going (Flows n w p) (on_value (λ y. done (value (goes_on (k y)))) o) q
      go (value y) q d = (d.1, d.2)
      go (thrown f) q d = d

  goes_by : (n : ℕ) (w : Way (Site K)) (l : List (Value K)) → Straight w → GoesS n w (done (value (goes_on l)))
  goes_by n w l s p part ready = (crossed E Is n w p s part ready, inl refl)

  skip : (n : ℕ) (a b : Way (Site K)) (x : Step K (Flow K)) → Straight a → GoesS (n + size a) b x → GoesS n (row a b) x
  skip n a b x s g p part ready = visits_more Before PreOf PostOf (Flows (n + size a) b p) (Flows n (row a b) p) (λ o r e. behind n a b p p t (inl refl) o r e) x p (g p (part_second E Is n a b part) (row_ready E Is n a b p p part ready t))
    where
      t : Through E Is n a p p
      t = crossed E Is n a p s (part_first E Is n a b part) (λ f i. ready f (inl i))

  one_of : (n : ℕ) (a b : Way (Site K)) (x : Step K (Flow K)) → GoesS n a x → GoesS n (fork a b) x
  one_of n a b x g p part ready = visits_more Before PreOf PostOf (Flows n a p) (Flows n (fork a b) p) more x p (g p (part_one E Is n a b part) (λ f i. ready f (inl i)))
    where
      more : (o : Out (Flow K)) (r : Option ℕ) → Flows n a p o r → Flows n (fork a b) p o r
      more (value (goes_on l)) r d = (one_through E Is n a b p r d.0, stays_more E Is n n a (fork a b) p r (omega arith) (omega arith) d.1)
      more (value (returns v)) r d = (one_gone E Is n a b p r d.0, stays_more E Is n n a (fork a b) p r (omega arith) (omega arith) d.1)
      more (thrown f) r d = stays_more E Is n n a (fork a b) p r (omega arith) (omega arith) d

  other_of : (n : ℕ) (a b : Way (Site K)) (x : Step K (Flow K)) → GoesS (n + size a) b x → GoesS n (fork a b) x
  other_of n a b x g p part ready = visits_more Before PreOf PostOf (Flows (n + size a) b p) (Flows n (fork a b) p) more x p (g p (part_other E Is n a b part) (λ f i. ready f (inr i)))
    where
      more : (o : Out (Flow K)) (r : Option ℕ) → Flows (n + size a) b p o r → Flows n (fork a b) p o r
      more (value (goes_on l)) r d = (other_through E Is n a b p r d.0, stays_more E Is (n + size a) n b (fork a b) p r (omega arith) (omega arith) d.1)
      more (value (returns v)) r d = (other_gone E Is n a b p r d.0, stays_more E Is (n + size a) n b (fork a b) p r (omega arith) (omega arith) d.1)
      more (thrown f) r d = stays_more E Is (n + size a) n b (fork a b) p r (omega arith) (omega arith) d

  by_truth : (n : ℕ) (w : Way (Site K)) (v : Value K) (x y : Step K (Flow K)) → GoesS n w x → GoesS n w y → GoesS n w (on_truth v x y)
  by_truth n w (truth true) x y g h p part ready = g p part ready
  by_truth n w (truth false) x y g h p part ready = h p part ready
  by_truth n w null x y g h p part ready = h p part ready
  by_truth n w (int z) x y g h p part ready = h p part ready
  by_truth n w (text t) x y g h p part ready = h p part ready
  by_truth n w (class_object c) x y g h p part ready = h p part ready
  by_truth n w (object i c) x y g h p part ready = h p part ready

  pub unless_null : (n : ℕ) (w : Way (Site K)) (v : Value K) (x : Step K (Flow K)) → GoesS n w x → GoesS n w (non_null v x)
  unless_null n w null x g p part ready = inl refl
  unless_null n w (int z) x g p part ready = g p part ready
  unless_null n w (truth b) x g p part ready = g p part ready
  unless_null n w (text t) x g p part ready = g p part ready
  unless_null n w (class_object c) x g p part ready = g p part ready
  unless_null n w (object i c) x g p part ready = g p part ready

  leaves : (n : ℕ) (v : Option (Value K)) → GoesS n leave (done (value (returns v)))
  leaves n v p part ready = (inl (tt, refl), inl refl)

  -- ---- a monitor: however its block ends, its exit is the next site

  pub monitor_goes : (n : ℕ) (s t : K.place) (b : Way (Site K)) (o : Value K) (x : Step K (Flow K)) → GoesS (suc n) b x
      → GoesS n (inside (record { at = s; what = What.enters }) b (record { at = t; what = What.exits })) (act (placed (Some s) (enter o)) (leaving (Some t) o x))
  monitor_goes n s t b o x g p part ready = (
    Some n,
    inr (n, entered, part.sites.0, (refl, tt), ready n refl, refl),
    visits_and Before PreOf PostOf (Flows (suc n) b (Some n)) (Flows n (inside entered b exited) p) x (λ y. act (placed (Some t) (exit o)) (done y)) (Some n)
        (g (Some n) (part_inside E Is n entered exited b part) (λ f i. past_leads E Is (Some n) n f (inl refl) (part.edges n f (inr (inl (refl, i)))))) go,
  )
    where
      entered : Site K
      entered = record { at = s; what = What.enters }

      exited : Site K
      exited = record { at = t; what = What.exits }

      out : (y : Out (Flow K)) (q : Option ℕ) → Flows (suc n) b (Some n) y q → Stays E Is (suc n) b (Some n) q
      out (value (goes_on l)) q d = d.1
      out (value (returns v)) q d = d.1
      out (thrown f) q d = d

      there : Stays E Is n (inside entered b exited) p (Some (suc n + size b))
      there = inr (suc n + size b, refl, (omega arith, omega arith))

      end : (y : Out (Flow K)) (q : Option ℕ) → Flows (suc n) b (Some n) y q → Flows n (inside entered b exited) p y (Some (suc n + size b))
      end (value (goes_on l)) q d = (monitor_through E Is n entered exited b p q (Some n) d.0, there)
      end (value (returns v)) q d = (monitor_gone E Is n entered exited b p q (Some n) d.0, there)
      end (thrown f) q d = there

      go : (y : Out (Flow K)) (q : Option ℕ) → Flows (suc n) b (Some n) y q → Going (Flows n (inside entered b exited) p) (act (placed (Some t) (exit o)) (done y)) q
      go y q d = (Some (suc n + size b), inr (suc n + size b, exited, part.sites.2, (refl, tt), exit_next E Is n entered exited b q part (out y q d), refl), end y q d)

  -- ---- loops

  abbrev LoopEnd : ℕ → (s : Site K) → (c b : Way (Site K)) → Option ℕ → Type 0
  LoopEnd n s c b p = (a : ℕ) × Last n (turns s c b) a × Past E Is p a

  -- behind the condition
  tested : (n : ℕ) (s : Site K) (c b : Way (Site K)) (p q : Option ℕ) → Turning E Is n s c b p → Through E Is (suc n) c p q → LoopEnd n s c b q
  tested n s c b p q r t = ⊎_elim
      (λ z. let d = r.1 z.0 in (d.0, d.1, subst (λ y. Past E Is y d.0) (sym z.1) d.2))
      (λ z. (z.0, at_end (size c) refl z.0 z.1, z.2)) t
    where
      at_end : (m : ℕ) → m ≡ size c → (i : ℕ) → Last (suc n) c i → Last n (turns s c b) i
      at_end zero e i l = absurd (omega (arith, e, (last_within E (suc n) c i l).0, (last_within E (suc n) c i l).1))
      at_end (suc m) e i l = subst (λ k. Ends k n i (Passes c) (Last (suc n) c i) (Last (suc n + size c) b i)) e (inl l)

  -- to the body
  into : (n : ℕ) (s : Site K) (c b : Way (Site K)) (q : Option ℕ) → Part E Is n (turns s c b) → LoopEnd n s c b q → Ready E Is (suc n + size c) b q
  into n s c b q part d f i = past_leads E Is q d.0 f d.2 (part.edges d.0 f (inr (inr (inr (inl (d.1, i))))))

  -- and back to the condition
  again : (n : ℕ) (s : Site K) (c b : Way (Site K)) (q r : Option ℕ) → Part E Is n (turns s c b) → LoopEnd n s c b q → Through E Is (suc n + size c) b q r → Turning E Is n s c b r
  again n s c b q r part d t = by_size (size c) refl
    where
      by_size : (m : ℕ) → m ≡ size c → Turning E Is n s c b r
      by_size zero e = (
        λ f i. absurd (none f i),
        λ passes. ⊎_elim
            (λ z. (d.0, d.1, subst (λ y. Past E Is y d.0) (sym z.1) d.2))
            (λ z. (
              n,
              subst (λ k. Ends k n n (Passes c) (Last (suc n) c n) (Last (suc n + size c) b n)) e refl,
              inr (past_leads E Is r z.0 n z.2 (part.edges z.0 n (inr (inr (inr (inr (inl (z.1, subst (λ k. Again k n n (First (suc n) c n)) e refl)))))))),
            )) t,
      )
        where
          none : (f : ℕ) → First (suc n) c f → ⊥
          none f i = let w = first_within (suc n) c f i in omega (arith, e, w.0, w.1)
      by_size (suc m) e = (
        λ f i. ⊎_elim
            (λ z. subst (λ y. Leads E y f) (sym z.1) (past_leads E Is q d.0 f d.2 (part.edges d.0 f (inr (inr (inr (inr (inr (z.0, d.1, subst (λ k. Again k n f (First (suc n) c f)) e i)))))))))
            (λ z. past_leads E Is r z.0 f z.2 (part.edges z.0 f (inr (inr (inr (inr (inl (z.1, subst (λ k. Again k n f (First (suc n) c f)) e i)))))))) t,
        λ passes. ⊎_elim
            (λ z. (d.0, d.1, subst (λ y. Past E Is y d.0) (sym z.1) d.2))
            (λ z. (z.0, subst (λ k. Ends k n z.0 (Passes c) (Last (suc n) c z.0) (Last (suc n + size c) b z.0)) e (inr (passes, inr z.1)), z.2)) t,
      )

  -- where a loop begins its condition comes next
  begins : (n : ℕ) (s : Site K) (c b : Way (Site K)) (p : Option ℕ) → Part E Is n (turns s c b) → Leads E p n → Turning E Is n s c b p
  begins n s c b p part l = (λ f i. past_leads E Is p n f (inr l) (part.edges n f (inr (inr (inl (refl, i))))), λ passes. (n, own (size c) passes, inr l))
    where
      own : (m : ℕ) → Passes c → Ends m n n (Passes c) (Last (suc n) c n) (Last (suc n + size c) b n)
      own zero z = refl
      own (suc k) z = inr (z, inl refl)

  module _ (me : Value K) where
    looping : (a : A) (c : tree.Exp A) (s : statement.Stmt A) (n : ℕ) (l : List (Value K)) → GoesS n (stmt_way X (statement.loop a c s)) (stmt R me (stmt_code X.facts (statement.loop a c s)) l)
    looping a c s n l p part ready = (inl turning, λ r q h. h)
      where
        turning : TurnAt R X E Is Outside (exp_code X.facts c) (stmt_code X.facts s) p
        turning = record {
          number = n;
          site = record { at = X.facts.first a; what = What.loops };
          condition = c;
          body = s;
          part = part;
          condition_is = refl;
          body_is = refl;
          ready = begins n (record { at = X.facts.first a; what = What.loops }) (exp_way X c) (stmt_way X s) p part (ready n refl);
        }

    mutual
      pub stmt_goes : (s : statement.Stmt A) (n : ℕ) (l : List (Value K)) → GoesS n (stmt_way X s) (stmt R me (stmt_code X.facts s) l)
      stmt_goes (statement.local a is_final t w e) n l = exp_row n (exp_way X e) (at_place (X.facts.first w.mark) (What.writes (X.facts.number w.mark))) (exp R me (exp_code X.facts e) l)
          (λ r. done (value (goes_on (with_local r.1 (X.facts.number w.mark) r.0)))) (exp_goes R X E Is Outside Quiet me e n l)
          (λ r. goes_by (n + size (exp_way X e)) (at_place (X.facts.first w.mark) (What.writes (X.facts.number w.mark))) (with_local r.1 (X.facts.number w.mark) r.0) tt)
      stmt_goes (statement.eval a e) n l = exp_ends n (exp_way X e) (exp R me (exp_code X.facts e) l) (λ r. r.1) (exp_goes R X E Is Outside Quiet me e n l)
      stmt_goes (statement.branch a c s o) n l = exp_row n (exp_way X c) (fork (stmt_way X s) (else_way X o)) (exp R me (exp_code X.facts c) l)
          (λ r. on_truth r.0 (stmt R me (stmt_code X.facts s) r.1) (stmt R me (else_code X.facts o) r.1)) (exp_goes R X E Is Outside Quiet me c n l)
          (λ r. by_truth (n + size (exp_way X c)) (fork (stmt_way X s) (else_way X o)) r.0 (stmt R me (stmt_code X.facts s) r.1) (stmt R me (else_code X.facts o) r.1)
          (one_of (n + size (exp_way X c)) (stmt_way X s) (else_way X o) (stmt R me (stmt_code X.facts s) r.1) (stmt_goes s (n + size (exp_way X c)) r.1))
          (other_of (n + size (exp_way X c)) (stmt_way X s) (else_way X o) (stmt R me (else_code X.facts o) r.1) (else_goes o (n + size (exp_way X c) + size (stmt_way X s)) r.1)))
      stmt_goes (statement.loop a c s) n l = looping a c s n l
      stmt_goes (statement.return a None) n l = leaves n None
      stmt_goes (statement.return a (Some e)) n l = exp_row n (exp_way X e) leave (exp R me (exp_code X.facts e) l) (λ r. done (value (returns (Some r.0)))) (exp_goes R X E Is Outside Quiet me e n l) (λ r. leaves (n + size (exp_way X e)) (Some r.0))
      stmt_goes (statement.block a b) n l = stmts_goes b n (unset (all_declared X.facts b) l)
      stmt_goes (statement.sync a e b) n l = exp_row n (exp_way X e)
          (row (unless (X.never_null e) (at_place (X.facts.first a) What.checks)) (inside (record { at = X.facts.first a; what = What.enters }) (stmts_way X b) (record { at = X.facts.last a; what = What.exits })))
          (exp R me (exp_code X.facts e) l)
          (λ r. non_null r.0 (act (placed (Some (X.facts.first a)) (enter r.0)) (leaving (Some (X.facts.last a)) r.0 (stmts R me (stmts_code X.facts b) r.1)))) (exp_goes R X E Is Outside Quiet me e n l)
          (λ r. skip (n + size (exp_way X e)) (unless (X.never_null e) (at_place (X.facts.first a) What.checks)) (inside (record { at = X.facts.first a; what = What.enters }) (stmts_way X b) (record { at = X.facts.last a; what = What.exits }))
          (non_null r.0 (act (placed (Some (X.facts.first a)) (enter r.0)) (leaving (Some (X.facts.last a)) r.0 (stmts R me (stmts_code X.facts b) r.1))))
          (unless_straight (X.never_null e) (at_place (X.facts.first a) What.checks) tt)
          (unless_null (n + size (exp_way X e) + size (unless (X.never_null e) (at_place (X.facts.first a) What.checks))) (inside (record { at = X.facts.first a; what = What.enters }) (stmts_way X b) (record { at = X.facts.last a; what = What.exits })) r.0
          (act (placed (Some (X.facts.first a)) (enter r.0)) (leaving (Some (X.facts.last a)) r.0 (stmts R me (stmts_code X.facts b) r.1)))
          (monitor_goes (n + size (exp_way X e) + size (unless (X.never_null e) (at_place (X.facts.first a) What.checks))) (X.facts.first a) (X.facts.last a) (stmts_way X b) r.0 (stmts R me (stmts_code X.facts b) r.1)
          (stmts_goes b (suc (n + size (exp_way X e) + size (unless (X.never_null e) (at_place (X.facts.first a) What.checks)))) r.1))))
      stmt_goes (statement.empty a) n l = goes_by n pass l tt

      pub else_goes : (o : statement.Else A) (n : ℕ) (l : List (Value K)) → GoesS n (else_way X o) (stmt R me (else_code X.facts o) l)
      else_goes statement.no_else n l = goes_by n pass l tt
      else_goes (statement.otherwise s) n l = stmt_goes s n l

      pub stmts_goes : (b : statement.Stmts A) (n : ℕ) (l : List (Value K)) → GoesS n (stmts_way X b) (stmts R me (stmts_code X.facts b) l)
      stmts_goes statement.end n l = goes_by n pass l tt
      stmts_goes (statement.more s b) n l = stmt_row n (stmt_way X s) (stmts_way X b) (stmt R me (stmt_code X.facts s) l) (λ m. stmts R me (stmts_code X.facts b) m) (stmt_goes s n l) (λ m. stmts_goes b (n + size (stmt_way X s)) m)

    -- each turn of a loop: its condition, its body, and the next turn
    pub turn_goes : (c : Exp K) (b : Stmt K) (l : List (Value K)) (p : Option ℕ) (t : TurnAt R X E Is Outside c b p)
        → Going (FlowPost R X E Is Outside t.number (turns t.site (exp_way X t.condition) (stmt_way X t.body)) p)
        (next (exp R me c l) (λ r. on_truth r.0 (next (stmt R me b r.1) (λ f. on_flow f (λ m. call (turn me c b m) (λ o. done o)))) (done (value (goes_on r.1))))) p
    turn_goes c b l p t = visits_and Before PreOf PostOf (going.ExpPost R X E Is Outside Quiet (suc n) cw (λ (y : Value K × List (Value K)). Unit {0}) p) (Flows n w p) (exp R me c l)
        (on_value (λ r. on_truth r.0 (next (stmt R me b r.1) (λ f. on_flow f (λ m. call (turn me c b m) (λ o. done o)))) (done (value (goes_on r.1))))) p
        (subst (λ z. Going (going.ExpPost R X E Is Outside Quiet (suc n) cw (λ (y : Value K × List (Value K)). Unit {0}) p) (exp R me z l) p) (sym t.condition_is)
        (exp_goes R X E Is Outside Quiet me t.condition (suc n) l p (part_condition E Is n t.site cw bw t.part) t.ready.0))
        go
      where
        n : ℕ
        n = t.number

        cw : Way (Site K)
        cw = exp_way X t.condition

        bw : Way (Site K)
        bw = stmt_way X t.body

        w : Way (Site K)
        w = turns t.site cw bw

        inside_loop : (q : Option ℕ) → Stays E Is (suc n) cw p q → Stays E Is n w p q
        inside_loop q z = stays_more E Is (suc n) n cw w p q (omega arith) (omega arith) z

        in_body : (q r : Option ℕ) → Stays E Is n w p q → Stays E Is (suc n + size cw) bw q r → Stays E Is n w p r
        in_body q r z y = stays_behind E Is (suc n + size cw) n bw w p q r (omega arith) (omega arith) z y

        behind_turn : (q : Option ℕ) → Stays E Is n w p q → (o : Out (Flow K)) (r : Option ℕ) → Flows n w q o r → Flows n w p o r
        behind_turn q z (value (goes_on m)) r d = (⊎_elim (λ y. absurd y.0) (λ y. inr y) d.0, stays_behind E Is n n w w p q r (omega arith) (omega arith) z d.1)
        behind_turn q z (value (returns v)) r d = (⊎_elim (λ y. absurd y.0) (λ y. inr y) d.0, stays_behind E Is n n w w p q r (omega arith) (omega arith) z d.1)
        behind_turn q z (thrown f) r d = stays_behind E Is n n w w p q r (omega arith) (omega arith) z d

        left : (q r : Option ℕ) → LoopEnd n t.site cw bw q → Gone E Is (suc n + size cw) bw q r → Gone E Is n w p r
        left q r d g = inr (⊎_elim
            (λ z. (d.0, inr (z.0, d.1), subst (λ y. Past E Is y d.0) (sym z.1) d.2))
            (λ z. (z.0, inl z.1, z.2)) g)

        after_body : (q : Option ℕ) → Stays E Is n w p q → LoopEnd n t.site cw bw q → (o : Out (Flow K)) (r : Option ℕ) → Flows (suc n + size cw) bw q o r
            → Going (Flows n w p) (on_value (λ f. on_flow f (λ m. call (turn me c b m) (λ o. done o))) o) r
        after_body q z d (value (goes_on m)) r h = (
          inl (record {
            number = n;
            site = t.site;
            condition = t.condition;
            body = t.body;
            part = t.part;
            condition_is = t.condition_is;
            body_is = t.body_is;
            ready = again n t.site cw bw q r t.part d h.0;
          }),
          λ o u k. behind_turn r (in_body q r z h.1) o u k,
        )
        after_body q z d (value (returns v)) r h = (left q r d h.0, in_body q r z h.1)
        after_body q z d (thrown f) r h = in_body q r z h

        body_of : (m : List (Value K)) (q : Option ℕ) → Stays E Is n w p q → LoopEnd n t.site cw bw q → Going (Flows n w p) (next (stmt R me b m) (λ f. on_flow f (λ k. call (turn me c b k) (λ o. done o)))) q
        body_of m q z d = visits_and Before PreOf PostOf (Flows (suc n + size cw) bw q) (Flows n w p) (stmt R me b m) (on_value (λ f. on_flow f (λ k. call (turn me c b k) (λ o. done o)))) q
            (subst (λ y. Going (Flows (suc n + size cw) bw q) (stmt R me y m) q) (sym t.body_is) (stmt_goes t.body (suc n + size cw) m q (part_body E Is n t.site cw bw t.part) (into n t.site cw bw q t.part d)))
            (λ o r h. after_body q z d o r h)

        end_of : (m : List (Value K)) (q : Option ℕ) → Stays E Is n w p q → LoopEnd n t.site cw bw q → Going (Flows n w p) (done (value (goes_on m))) q
        end_of m q z d = (inr d, z)

        by_value : (v : Value K) (m : List (Value K)) (q : Option ℕ) → Stays E Is n w p q → LoopEnd n t.site cw bw q
            → Going (Flows n w p) (on_truth v (next (stmt R me b m) (λ f. on_flow f (λ k. call (turn me c b k) (λ o. done o)))) (done (value (goes_on m)))) q
        by_value (truth true) m q z d = body_of m q z d
        by_value (truth false) m q z d = end_of m q z d
        by_value null m q z d = end_of m q z d
        by_value (int i) m q z d = end_of m q z d
        by_value (text i) m q z d = end_of m q z d
        by_value (class_object i) m q z d = end_of m q z d
        by_value (object i k) m q z d = end_of m q z d

        go : (o : Out (Value K × List (Value K))) (q : Option ℕ) → going.ExpPost R X E Is Outside Quiet (suc n) cw (λ (y : Value K × List (Value K)). Unit {0}) p o q
            → Going (Flows n w p) (on_value (λ r. on_truth r.0 (next (stmt R me b r.1) (λ f. on_flow f (λ m. call (turn me c b m) (λ o. done o)))) (done (value (goes_on r.1)))) o) q
        go (value y) q h = by_value y.0 y.1 q (inside_loop q h.2) (tested n t.site cw bw p q t.ready h.1)
        go (thrown f) q h = inside_loop q h
