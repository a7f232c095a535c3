-- A list whose front is one part of its way has the sites and edges of the list, wherever it stands.
use Rattle.std.proofs.Common.{◌≡◌, ◌⊎◌, ◌↔◌, ℕ, zero, suc, ◌+◌, List, [], ◌∷◌, ◌++◌, refl, sym, ap, ◌∙◌, subst, inl, inr, ⊎_elim, arith}
use Rattle.jr_ast.specs.StatementTree as statement
use Rattle.jr_runs.specs.Keys.{Keys}
use Rattle.jr_runs.specs.Rows.{Rows}
use Rattle.jr_runs.specs.Core as core
use Rattle.jr_runs.specs.KeyMaps.{KeyMap}
use Rattle.jr_runs.specs.Standing.{Standing}
use Rattle.jr_cover.specs.Ways.{Way, pass, row, fork, turns, inside, size, sites_of, Passes, LeavesAtOnce, First, Ends, Last, Leaves, Edge}
use Rattle.jr_cover.specs.Sites.{Site, Known, exp_way, stmt_way, else_way, stmts_way}
use Rattle.jr_unused_locals.specs.Agreement.{Stands, here, in_first, in_second, in_left, in_right, in_condition, in_body, in_monitor, Round}
use Rattle.jr_unused_locals.specs.Pieces.{Surround, nothing, front, monitor, surrounded, joined, loop_site, lock_check, enter_site, exit_site, StmtHolds, holds_then, holds_else, holds_turned, holds_within, holds_locked, StmtsHold, holds_here, holds_first, holds_later, stmt_around, stmts_around}
use Rattle.jr_unused_locals.specs.Unused.{member_around, GroupingKeepsEdges, EdgesAreInOrRound}

-- the first way's sites are the second's, and where control goes in the first, it does so in the second
record Goes {S : Type 0} (v w : Way S) : Type 0 where
  sites : sites_of v ≡ sites_of w
  sized : size v ≡ size w
  passes : Passes v → Passes w
  at_once : LeavesAtOnce v → LeavesAtOnce w
  first : (n i : ℕ) → First n v i → First n w i
  last : (n i : ℕ) → Last n v i → Last n w i
  leaves : (n i : ℕ) → Leaves n v i → Leaves n w i
  edge : (n i j : ℕ) → Edge n v i j → Edge n w i j

-- what stands behind one part stands behind the other
put : (P : ℕ → Type 0) (n : ℕ) {k m : ℕ} → k ≡ m → P (n + k) → P (n + m)
put P n e h = subst (λ k. P (n + k)) e h

-- behind a loop's condition, with another body
ends_by : (k n i : ℕ) (C L B B' : Type 0) → (B → B') → Ends k n i C L B → Ends k n i C L B'
ends_by zero n i C L B B' f h = h
ends_by (suc k) n i C L B B' f h = ⊎_elim (λ x. inl x) (λ x. inr (x.0, ⊎_elim (λ y. inl y) (λ y. inr (f y)) x.1)) h

no_more : (n : ℕ) → n + 0 ≡ n
no_more n = omega arith

module _ {S : Type 0} where
  itself : (w : Way S) → Goes w w
  itself w = record {
    sites = refl;
    sized = refl;
    passes = λ h. h;
    at_once = λ h. h;
    first = λ n i h. h;
    last = λ n i h. h;
    leaves = λ n i h. h;
    edge = λ n i j h. h;
  }

  followed : {u v w : Way S} → Goes u v → Goes v w → Goes u w
  followed g k = record {
    sites = g.sites ∙ k.sites;
    sized = g.sized ∙ k.sized;
    passes = λ h. k.passes (g.passes h);
    at_once = λ h. k.at_once (g.at_once h);
    first = λ n i h. k.first n i (g.first n i h);
    last = λ n i h. k.last n i (g.last n i h);
    leaves = λ n i h. k.leaves n i (g.leaves n i h);
    edge = λ n i j h. k.edge n i j (g.edge n i j h);
  }

  row_goes : (a a' b b' : Way S) → Goes a a' → Goes b b' → Goes (row a b) (row a' b')
  row_goes a a' b b' g k = record {
    sites = (λ i. g.sites i ++ k.sites i);
    sized = (λ i. g.sized i + k.sized i);
    passes = λ h. (g.passes h.0, k.passes h.1);
    at_once = λ h. ⊎_elim (λ x. inl (g.at_once x)) (λ x. inr (g.passes x.0, k.at_once x.1)) h;
    first = λ n i h. ⊎_elim (λ x. inl (g.first n i x)) (λ x. inr (g.passes x.0, put (λ m. First m b' i) n g.sized (k.first (n + size a) i x.1))) h;
    last = λ n i h. ⊎_elim (λ x. inl (put (λ m. Last m b' i) n g.sized (k.last (n + size a) i x))) (λ x. inr (k.passes x.0, g.last n i x.1)) h;
    leaves = λ n i h. ⊎_elim (λ x. inl (g.leaves n i x)) (λ y. ⊎_elim (λ x. inr (inl (put (λ m. Leaves m b' i) n g.sized (k.leaves (n + size a) i x)))) (λ x. inr (inr (k.at_once x.0, g.last n i x.1))) y) h;
    edge = λ n i j h. ⊎_elim (λ x. inl (g.edge n i j x)) (λ y. ⊎_elim
        (λ x. inr (inl (put (λ m. Edge m b' i j) n g.sized (k.edge (n + size a) i j x))))
        (λ x. inr (inr (g.last n i x.0, put (λ m. First m b' j) n g.sized (k.first (n + size a) j x.1)))) y) h;
  }

  fork_goes : (a a' b b' : Way S) → Goes a a' → Goes b b' → Goes (fork a b) (fork a' b')
  fork_goes a a' b b' g k = record {
    sites = (λ i. g.sites i ++ k.sites i);
    sized = (λ i. g.sized i + k.sized i);
    passes = λ h. ⊎_elim (λ x. inl (g.passes x)) (λ x. inr (k.passes x)) h;
    at_once = λ h. ⊎_elim (λ x. inl (g.at_once x)) (λ x. inr (k.at_once x)) h;
    first = λ n i h. ⊎_elim (λ x. inl (g.first n i x)) (λ x. inr (put (λ m. First m b' i) n g.sized (k.first (n + size a) i x))) h;
    last = λ n i h. ⊎_elim (λ x. inl (g.last n i x)) (λ x. inr (put (λ m. Last m b' i) n g.sized (k.last (n + size a) i x))) h;
    leaves = λ n i h. ⊎_elim (λ x. inl (g.leaves n i x)) (λ x. inr (put (λ m. Leaves m b' i) n g.sized (k.leaves (n + size a) i x))) h;
    edge = λ n i j h. ⊎_elim (λ x. inl (g.edge n i j x)) (λ x. inr (put (λ m. Edge m b' i j) n g.sized (k.edge (n + size a) i j x))) h;
  }

  turns_goes : (s : S) (c b b' : Way S) → Goes b b' → Goes (turns s c b) (turns s c b')
  turns_goes s c b b' g = record {
    sites = (λ i. s ∷ (sites_of c ++ g.sites i));
    sized = (λ i. suc (size c + g.sized i));
    passes = λ h. h;
    at_once = λ h. h;
    first = λ n i h. h;
    last = λ n i h. behind n i h;
    leaves = λ n i h. ⊎_elim (λ x. inl (g.leaves (suc n + size c) i x)) (λ x. inr (g.at_once x.0, behind n i x.1)) h;
    edge = λ n i j h. ⊎_elim (λ x. inl x) (λ h1. ⊎_elim (λ x. inr (inl (g.edge (suc n + size c) i j x)))
        (λ h2. inr (inr (⊎_elim (λ x. inl x) (λ h3. inr (⊎_elim (λ x. inl (behind n i x.0, g.first (suc n + size c) j x.1))
        (λ h4. inr (⊎_elim (λ x. inl (g.last (suc n + size c) i x.0, x.1)) (λ x. inr (g.passes x.0, behind n i x.1, x.2)) h4)) h3)) h2))) h1) h;
  }
    where
      behind : (n i : ℕ) → Last n (turns s c b) i → Last n (turns s c b') i
      behind n i h = ends_by (size c) n i (Passes c) (Last (suc n) c i) (Last (suc n + size c) b i) (Last (suc n + size c) b' i) (g.last (suc n + size c) i) h

  inside_goes : (e x : S) (b b' : Way S) → Goes b b' → Goes (inside e b x) (inside e b' x)
  inside_goes e x b b' g = record {
    sites = (λ i. e ∷ (g.sites i ++ (x ∷ [])));
    sized = (λ i. suc (suc (g.sized i)));
    passes = λ h. h;
    at_once = λ h. h;
    first = λ n i h. h;
    last = λ n i h. (h.0 ∙ out n, ⊎_elim (λ y. inl (g.passes y)) (λ y. inr (y.0, g.last (suc n) y.0 y.1)) h.1);
    leaves = λ n i h. (h.0 ∙ out n, ⊎_elim (λ y. inl (g.at_once y)) (λ y. inr (y.0, g.leaves (suc n) y.0 y.1)) h.1);
    edge = λ n i j h. ⊎_elim (λ y. inl (g.edge (suc n) i j y)) (λ h1. inr (⊎_elim (λ y. inl (y.0, g.first (suc n) j y.1))
        (λ h2. inr (⊎_elim (λ y. inl (g.last (suc n) i y.0, y.1 ∙ out n)) (λ h3. inr (⊎_elim (λ y. inl (g.leaves (suc n) i y.0, y.1 ∙ out n))
        (λ y. inr (⊎_elim (λ z. inl (g.passes z)) (λ z. inr (g.at_once z)) y.0, y.1, y.2 ∙ out n)) h3)) h2)) h1)) h;
  }
    where
      out : (n : ℕ) → suc n + size b ≡ suc n + size b'
      out n = ap (λ k. suc n + k) g.sized

  -- ---- three parts, grouped in two ways

  behind_two : (a b : Way S) (n : ℕ) → n + (size a + size b) ≡ n + size a + size b
  behind_two a b n = omega arith

  append_assoc : (a b c : List S) → (a ++ b) ++ c ≡ a ++ (b ++ c)
  append_assoc [] b c = refl
  append_assoc (x ∷ a) b c = ap (λ l. x ∷ l) (append_assoc a b c)

  grouped_later : (a b c : Way S) → Goes (row (row a b) c) (row a (row b c))
  grouped_later a b c = record {
    sites = append_assoc (sites_of a) (sites_of b) (sites_of c);
    sized = omega arith;
    passes = λ h. (h.0.0, (h.0.1, h.1));
    at_once = λ h. ⊎_elim (λ y. ⊎_elim (λ x. inl x) (λ x. inr (x.0, inl x.1)) y) (λ x. inr (x.0.0, inr (x.0.1, x.1))) h;
    first = λ n i h. ⊎_elim (λ y. ⊎_elim (λ x. inl x) (λ x. inr (x.0, inl x.1)) y) (λ x. inr (x.0.0, inr (x.0.1, on (λ m. First m c i) n x.1))) h;
    last = λ n i h. ⊎_elim (λ x. inl (inl (on (λ m. Last m c i) n x))) (λ y. ⊎_elim (λ x. inl (inr (y.0, x))) (λ x. inr ((x.0, y.0), x.1)) y.1) h;
    leaves = λ n i h. ⊎_elim (λ y. ⊎_elim (λ x. inl x) (λ z. ⊎_elim (λ x. inr (inl (inl x))) (λ x. inr (inr (inl x.0, x.1))) z) y)
        (λ y. ⊎_elim (λ x. inr (inl (inr (inl (on (λ m. Leaves m c i) n x))))) (λ z. ⊎_elim (λ x. inr (inl (inr (inr (z.0, x))))) (λ x. inr (inr (inr (x.0, z.0), x.1))) z.1) y) h;
    edge = λ n i j h. ⊎_elim (λ y. ⊎_elim (λ x. inl x) (λ z. ⊎_elim (λ x. inr (inl (inl x))) (λ x. inr (inr (x.0, inl x.1))) z) y)
        (λ y. ⊎_elim (λ x. inr (inl (inr (inl (on (λ m. Edge m c i j) n x))))) (λ z. ⊎_elim (λ x. inr (inl (inr (inr (x, on (λ m. First m c j) n z.1))))) (λ x. inr (inr (x.1, inr (x.0, on (λ m. First m c j) n z.1)))) z.0) y) h;
  }
    where
      on : (P : ℕ → Type 0) (n : ℕ) → P (n + (size a + size b)) → P (n + size a + size b)
      on P n h = subst P (behind_two a b n) h

  grouped_first : (a b c : Way S) → Goes (row a (row b c)) (row (row a b) c)
  grouped_first a b c = record {
    sites = sym (append_assoc (sites_of a) (sites_of b) (sites_of c));
    sized = omega arith;
    passes = λ h. ((h.0, h.1.0), h.1.1);
    at_once = λ h. ⊎_elim (λ x. inl (inl x)) (λ y. ⊎_elim (λ x. inl (inr (y.0, x))) (λ x. inr ((y.0, x.0), x.1)) y.1) h;
    first = λ n i h. ⊎_elim (λ x. inl (inl x)) (λ y. ⊎_elim (λ x. inl (inr (y.0, x))) (λ x. inr ((y.0, x.0), on (λ m. First m c i) n x.1)) y.1) h;
    last = λ n i h. ⊎_elim (λ y. ⊎_elim (λ x. inl (on (λ m. Last m c i) n x)) (λ x. inr (x.0, inl x.1)) y) (λ x. inr (x.0.1, inr (x.0.0, x.1))) h;
    leaves = λ n i h. ⊎_elim (λ x. inl (inl x)) (λ y. ⊎_elim (λ z. ⊎_elim (λ x. inl (inr (inl x))) (λ u. ⊎_elim (λ x. inr (inl (on (λ m. Leaves m c i) n x))) (λ x. inr (inr (x.0, inl x.1))) u) z)
        (λ z. ⊎_elim (λ x. inl (inr (inr (x, z.1)))) (λ x. inr (inr (x.1, inr (x.0, z.1)))) z.0) y) h;
    edge = λ n i j h. ⊎_elim (λ x. inl (inl x)) (λ y. ⊎_elim (λ z. ⊎_elim (λ x. inl (inr (inl x))) (λ u. ⊎_elim (λ x. inr (inl (on (λ m. Edge m c i j) n x))) (λ x. inr (inr (inl x.0, on (λ m. First m c j) n x.1))) u) z)
        (λ z. ⊎_elim (λ x. inl (inr (inr (z.0, x)))) (λ x. inr (inr (inr (x.0, z.0), on (λ m. First m c j) n x.1))) z.1) y) h;
  }
    where
      on : (P : ℕ → Type 0) (n : ℕ) → P (n + size a + size b) → P (n + (size a + size b))
      on P n h = subst P (sym (behind_two a b n)) h

  nothing_first : (b : Way S) → Goes (row pass b) b
  nothing_first b = record {
    sites = refl;
    sized = omega arith;
    passes = λ h. h.1;
    at_once = λ h. ⊎_elim (λ x. absurd x) (λ x. x.1) h;
    first = λ n i h. ⊎_elim (λ x. absurd x) (λ x. subst (λ m. First m b i) (no_more n) x.1) h;
    last = λ n i h. ⊎_elim (λ x. subst (λ m. Last m b i) (no_more n) x) (λ x. absurd x.1) h;
    leaves = λ n i h. ⊎_elim (λ x. absurd x) (λ y. ⊎_elim (λ x. subst (λ m. Leaves m b i) (no_more n) x) (λ x. absurd x.1) y) h;
    edge = λ n i j h. ⊎_elim (λ x. absurd x) (λ y. ⊎_elim (λ x. subst (λ m. Edge m b i j) (no_more n) x) (λ x. absurd x.0) y) h;
  }

  behind_nothing : (b : Way S) → Goes b (row pass b)
  behind_nothing b = record {
    sites = refl;
    sized = omega arith;
    passes = λ h. (tt, h);
    at_once = λ h. inr (tt, h);
    first = λ n i h. inr (tt, subst (λ m. First m b i) (sym (no_more n)) h);
    last = λ n i h. inl (subst (λ m. Last m b i) (sym (no_more n)) h);
    leaves = λ n i h. inr (inl (subst (λ m. Leaves m b i) (sym (no_more n)) h));
    edge = λ n i j h. inr (inl (subst (λ m. Edge m b i j) (sym (no_more n)) h));
  }

  -- both ways
  abbrev Alike : Way S → Way S → Type 0
  Alike v w = Goes v w × Goes w v

  row_alike : (a a' b b' : Way S) → Alike a a' → Alike b b' → Alike (row a b) (row a' b')
  row_alike a a' b b' g k = (row_goes a a' b b' g.0 k.0, row_goes a' a b' b g.1 k.1)

  fork_alike : (a a' b b' : Way S) → Alike a a' → Alike b b' → Alike (fork a b) (fork a' b')
  fork_alike a a' b b' g k = (fork_goes a a' b b' g.0 k.0, fork_goes a' a b' b g.1 k.1)

  alike_itself : (a : Way S) → Alike a a
  alike_itself a = (itself a, itself a)

-- ---- trees

module _ {K : Keys} {A : Type 0} (X : Known K A) where
  together : (p b : statement.Stmts A) → Alike (row (stmts_way X p) (stmts_way X b)) (stmts_way X (joined p b))
  together statement.end b = (nothing_first (stmts_way X b), behind_nothing (stmts_way X b))
  together (statement.more s p) b =
      let g = together p b in (
        followed (grouped_later (stmt_way X s) (stmts_way X p) (stmts_way X b)) (row_goes (stmt_way X s) (stmt_way X s) (row (stmts_way X p) (stmts_way X b)) (stmts_way X (joined p b)) (itself (stmt_way X s)) g.0),
        followed (row_goes (stmt_way X s) (stmt_way X s) (stmts_way X (joined p b)) (row (stmts_way X p) (stmts_way X b)) (itself (stmt_way X s)) g.1) (grouped_first (stmt_way X s) (stmts_way X p) (stmts_way X b)),
      )

  module _ (r : KeyMap K) (R : Rows K) (s : Standing K) (piece rest : statement.Stmts A) (new_list : core.Stmts K) where
    mutual
      around_alike : {a : statement.Stmt A} {a' : core.Stmt K} (h : StmtHolds X r R s piece rest new_list a a') → Alike (stmt_around X r R s piece rest new_list h) (stmt_way X a)
      around_alike (holds_then a p c c' t t' o o' x h y) =
          row_alike (exp_way X c) (exp_way X c) (fork (stmt_around X r R s piece rest new_list h) (else_way X o)) (fork (stmt_way X t) (else_way X o)) (alike_itself (exp_way X c))
          (fork_alike (stmt_around X r R s piece rest new_list h) (stmt_way X t) (else_way X o) (else_way X o) (around_alike h) (alike_itself (else_way X o)))
      around_alike (holds_else a p c c' t t' o o' x y h) =
          row_alike (exp_way X c) (exp_way X c) (fork (stmt_way X t) (stmt_around X r R s piece rest new_list h)) (fork (stmt_way X t) (stmt_way X o)) (alike_itself (exp_way X c))
          (fork_alike (stmt_way X t) (stmt_way X t) (stmt_around X r R s piece rest new_list h) (stmt_way X o) (alike_itself (stmt_way X t)) (around_alike h))
      around_alike (holds_turned a p c c' b b' x h) =
          let g = around_alike h in
          (turns_goes (loop_site X a) (exp_way X c) (stmt_around X r R s piece rest new_list h) (stmt_way X b) g.0, turns_goes (loop_site X a) (exp_way X c) (stmt_way X b) (stmt_around X r R s piece rest new_list h) g.1)
      around_alike (holds_within a p ns b b' d h) = all_alike h
      around_alike (holds_locked a p q e e' b b' x h) =
          let g = all_alike h in
          let v : Way (Site K) = inside (enter_site X a) (stmts_around X r R s piece rest new_list h) (exit_site X a) in
          let w : Way (Site K) = inside (enter_site X a) (stmts_way X b) (exit_site X a) in
          row_alike (exp_way X e) (exp_way X e) (row (lock_check X a e) v) (row (lock_check X a e) w) (alike_itself (exp_way X e))
          (row_alike (lock_check X a e) (lock_check X a e) v w (alike_itself (lock_check X a e))
          (inside_goes (enter_site X a) (exit_site X a) (stmts_around X r R s piece rest new_list h) (stmts_way X b) g.0, inside_goes (enter_site X a) (exit_site X a) (stmts_way X b) (stmts_around X r R s piece rest new_list h) g.1))

      all_alike : {b : statement.Stmts A} {b' : core.Stmts K} (h : StmtsHold X r R s piece rest new_list b b') → Alike (stmts_around X r R s piece rest new_list h) (stmts_way X b)
      all_alike holds_here = together piece rest
      all_alike (holds_first t t' b b' h y) = row_alike (stmt_around X r R s piece rest new_list h) (stmt_way X t) (stmts_way X b) (stmts_way X b) (around_alike h) (alike_itself (stmts_way X b))
      all_alike (holds_later t t' b b' y h) = row_alike (stmt_way X t) (stmt_way X t) (stmts_around X r R s piece rest new_list h) (stmts_way X b) (alike_itself (stmt_way X t)) (all_alike h)

    -- what stands around the body is the same
    member_alike : (u : Surround (Site K)) (v w : Way (Site K)) → Alike v w → Alike (surrounded u v) (surrounded u w)
    member_alike nothing v w g = g
    member_alike (front f) v w g = row_alike f f v w (alike_itself f) g
    member_alike (monitor e x) v w g = (inside_goes e x v w g.0, inside_goes e x w v g.1)

    member_is : {b : statement.Stmts A} {b' : core.Stmts K} (h : StmtsHold X r R s piece rest new_list b b') (u : Surround (Site K))
        → (sites_of (member_around X r R s piece rest new_list u h) ≡ sites_of (surrounded u (stmts_way X b))) × ((i j : ℕ) → Edge 0 (member_around X r R s piece rest new_list u h) i j ↔ Edge 0 (surrounded u (stmts_way X b)) i j)
    member_is {b = b} h u =
        let g = member_alike u (stmts_around X r R s piece rest new_list h) (stmts_way X b) (all_alike h) in
        (g.0.sites, λ i j. (λ e. g.0.edge 0 i j e, λ e. g.1.edge 0 i j e))

pub grouping_keeps_edges : {C F M N L A : Type 0} → GroupingKeepsEdges C F M N L A
grouping_keeps_edges X r R s piece rest b new_list b' h u = member_is X r R s piece rest new_list h u

-- ---- each edge is the piece's or round it

module _ {S : Type 0} (a : ℕ) (p : Way S) where
  in_or_round : (n : ℕ) (w : Way S) (s : Stands a p n w) (i j : ℕ) → Edge n w i j → Edge a p i j ⊎ Round a p n w s i j
  in_or_round n w here i j e = inl e
  in_or_round n w (in_first m x y s) i j e = ⊎_elim (λ f. ⊎_elim (λ g. inl g) (λ g. inr (inl g)) (in_or_round n x s i j f)) (λ f. inr (inr f)) e
  in_or_round n w (in_second m x y s) i j e = ⊎_elim (λ f. inr (inl f)) (λ k. ⊎_elim (λ f. ⊎_elim (λ g. inl g) (λ g. inr (inr (inl g))) (in_or_round (n + size x) y s i j f)) (λ f. inr (inr (inr f))) k) e
  in_or_round n w (in_left m x y s) i j e = ⊎_elim (λ f. ⊎_elim (λ g. inl g) (λ g. inr (inl g)) (in_or_round n x s i j f)) (λ f. inr (inr f)) e
  in_or_round n w (in_right m x y s) i j e = ⊎_elim (λ f. inr (inl f)) (λ f. ⊎_elim (λ g. inl g) (λ g. inr (inr g)) (in_or_round (n + size x) y s i j f)) e
  in_or_round n w (in_condition m z c b s) i j e = ⊎_elim (λ f. ⊎_elim (λ g. inl g) (λ g. inr (inl g)) (in_or_round (suc n) c s i j f)) (λ f. inr (inr f)) e
  in_or_round n w (in_body m z c b s) i j e = ⊎_elim (λ f. inr (inl f)) (λ k. ⊎_elim (λ f. ⊎_elim (λ g. inl g) (λ g. inr (inr (inl g))) (in_or_round (suc n + size c) b s i j f)) (λ f. inr (inr (inr f))) k) e
  in_or_round n w (in_monitor m y x b s) i j e = ⊎_elim (λ f. ⊎_elim (λ g. inl g) (λ g. inr (inl g)) (in_or_round (suc n) b s i j f)) (λ f. inr (inr f)) e

  in_it : (n : ℕ) (w : Way S) (s : Stands a p n w) (i j : ℕ) → Edge a p i j → Edge n w i j
  in_it n w here i j e = e
  in_it n w (in_first m x y s) i j e = inl (in_it n x s i j e)
  in_it n w (in_second m x y s) i j e = inr (inl (in_it (n + size x) y s i j e))
  in_it n w (in_left m x y s) i j e = inl (in_it n x s i j e)
  in_it n w (in_right m x y s) i j e = inr (in_it (n + size x) y s i j e)
  in_it n w (in_condition m z c b s) i j e = inl (in_it (suc n) c s i j e)
  in_it n w (in_body m z c b s) i j e = inr (inl (in_it (suc n + size c) b s i j e))
  in_it n w (in_monitor m y x b s) i j e = inl (in_it (suc n) b s i j e)

  round_it : (n : ℕ) (w : Way S) (s : Stands a p n w) (i j : ℕ) → Round a p n w s i j → Edge n w i j
  round_it n w here i j e = absurd e
  round_it n w (in_first m x y s) i j e = ⊎_elim (λ f. inl (round_it n x s i j f)) (λ f. inr f) e
  round_it n w (in_second m x y s) i j e = ⊎_elim (λ f. inl f) (λ k. inr (⊎_elim (λ f. inl (round_it (n + size x) y s i j f)) (λ f. inr f) k)) e
  round_it n w (in_left m x y s) i j e = ⊎_elim (λ f. inl (round_it n x s i j f)) (λ f. inr f) e
  round_it n w (in_right m x y s) i j e = ⊎_elim (λ f. inl f) (λ f. inr (round_it (n + size x) y s i j f)) e
  round_it n w (in_condition m z c b s) i j e = ⊎_elim (λ f. inl (round_it (suc n) c s i j f)) (λ f. inr f) e
  round_it n w (in_body m z c b s) i j e = ⊎_elim (λ f. inl f) (λ k. inr (⊎_elim (λ f. inl (round_it (suc n + size c) b s i j f)) (λ f. inr f) k)) e
  round_it n w (in_monitor m y x b s) i j e = ⊎_elim (λ f. inl (round_it (suc n) b s i j f)) (λ f. inr f) e

pub edges_are_in_or_round : {S : Type 0} → EdgesAreInOrRound S
edges_are_in_or_round m a p s i j = (λ e. in_or_round a p 0 m s i j e, λ h. ⊎_elim (λ e. in_it a p 0 m s i j e) (λ e. round_it a p 0 m s i j e) h)
