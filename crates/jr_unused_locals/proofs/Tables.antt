-- The tables of what a way's sites read and write tell it of each of its sites, and no loop's or
-- monitor's own site writes a local.
use Rattle.std.proofs.Common.{◌≡◌, ℕ, zero, suc, ◌+◌, Bool, false, List, [], ◌∷◌, ◌++◌, Option, Some, None, refl, sym, ap, ◌∙◌}
use Rattle.jr_ast.specs.Tree as tree
use Rattle.jr_ast.specs.StatementTree as statement
use Rattle.jr_runs.specs.Keys.{Keys}
use Rattle.jr_runs.specs.Rows.{Rows}
use Rattle.jr_runs.specs.Core as core
use Rattle.jr_runs.specs.KeyMaps.{KeyMap}
use Rattle.jr_runs.specs.Standing.{Standing}
use Rattle.jr_cover.specs.Ways.{Way, pass, one, row, fork, leave, turns, inside, size, sites_of, Straight}
use Rattle.jr_cover.specs.Sites.{What, Site, Known, exp_way, returned_way, stmt_way, else_way, stmts_way}
use Rattle.jr_cover.specs.Covering.{site_at}
use Rattle.jr_cover.proofs.Parts as parts
use Rattle.jr_cover.proofs.StraightWays.{unless_straight, exp_straight}
use Rattle.jr_cover.proofs.Cover.{stands_in}
use Rattle.jr_unused_locals.specs.Agreement.{Quiet}
use Rattle.jr_unused_locals.specs.SiteLocals.{is_read, is_write, reads_at, writes_at}
use Rattle.jr_unused_locals.specs.Pieces.{Surround, nothing, front, monitor, surrounded, body_begin, lock_check, StmtHolds, holds_then, holds_else, holds_turned, holds_within, holds_locked, StmtsHold, holds_here, holds_first, holds_later, stmt_around, stmts_around}
use Rattle.jr_unused_locals.proofs.Families.{IsTold, Told}

some_is : {T : Type 0} (x y : T) → Some x ≡ Some y → x ≡ y
some_is x y q = cc

module _ {K : Keys} where
  reads_told : (all : List (Site K)) (x i : ℕ) (s : Site K) → site_at all i ≡ Some s → reads_at all x i ≡ is_read x s.what
  reads_told [] x i s e = absurd (no s e)
    where
      no : (t : Site K) → None ≡ Some t → ⊥
      no t d = cc
  reads_told (t ∷ all) x zero s e = ap (λ z. is_read x z.what) (some_is t s e)
  reads_told (t ∷ all) x (suc i) s e = reads_told all x i s e

  writes_told : (all : List (Site K)) (x i : ℕ) (s : Site K) → site_at all i ≡ Some s → writes_at all x i ≡ is_write x s.what
  writes_told [] x i s e = absurd (no s e)
    where
      no : (t : Site K) → None ≡ Some t → ⊥
      no t d = cc
  writes_told (t ∷ all) x zero s e = ap (λ z. is_write x z.what) (some_is t s e)
  writes_told (t ∷ all) x (suc i) s e = writes_told all x i s e

  module _ (all : List (Site K)) where
    abbrev Is : ℕ → Site K → Type 0
    Is i s = site_at all i ≡ Some s

    is_told : (n : ℕ) (s : Site K) → Is n s → IsTold (reads_at all) (writes_at all) n s
    is_told n s e = λ x. (reads_told all x n s e, writes_told all x n s e)

    all_told : (w : Way (Site K)) (n : ℕ) → parts.Stands Is n w → Told (reads_at all) (writes_at all) n w
    all_told pass n h = tt
    all_told (one s) n h = is_told n s h
    all_told (row a b) n h = (all_told a n h.0, all_told b (n + size a) h.1)
    all_told (fork a b) n h = (all_told a n h.0, all_told b (n + size a) h.1)
    all_told leave n h = tt
    all_told (turns s c b) n h = (is_told n s h.0, all_told c (suc n) h.1, all_told b (suc n + size c) h.2)
    all_told (inside e b x) n h = (is_told n e h.0, is_told (suc n + size b) x h.2, all_told b (suc n) h.1)

  pub told : (w : Way (Site K)) → Told (reads_at (sites_of w)) (writes_at (sites_of w)) 0 w
  told w = all_told (sites_of w) w 0 (stands_in (sites_of w) w [] [] 0 refl (sym (append_nil (sites_of w))))
    where
      append_nil : {T : Type 0} (l : List T) → l ++ [] ≡ l
      append_nil [] = refl
      append_nil (x ∷ l) = ap (λ t. x ∷ t) (append_nil l)

  -- the same of a member's body
  pub body_told : (r w : ℕ → ℕ → Bool) (u : Surround (Site K)) (a : Way (Site K)) → Told r w 0 (surrounded u a) → Told r w (body_begin u) a
  body_told r w nothing a t = t
  body_told r w (front f) a t = t.1
  body_told r w (monitor e x) a t = t.2

  -- ---- quiet ways

  abbrev WritesNothing : Site K → Type 0
  WritesNothing s = (x : ℕ) → is_write x s.what ≡ false

  abbrev Calm : Way (Site K) → Type 0
  Calm pass = Unit {0}
  Calm (one s) = Unit {0}
  Calm (row a b) = Calm a × Calm b
  Calm (fork a b) = Calm a × Calm b
  Calm leave = Unit {0}
  Calm (turns s c b) = WritesNothing s × Calm c × Calm b
  Calm (inside e b x) = WritesNothing e × WritesNothing x × Calm b

  pub quiet : (r w : ℕ → ℕ → Bool) (x : ℕ) (a : Way (Site K)) (n : ℕ) → Told r w n a → Calm a → Quiet (r x) (w x) n a
  quiet r w x pass n t c = tt
  quiet r w x (one s) n t c = tt
  quiet r w x (row a b) n t c = (quiet r w x a n t.0 c.0, quiet r w x b (n + size a) t.1 c.1)
  quiet r w x (fork a b) n t c = (quiet r w x a n t.0 c.0, quiet r w x b (n + size a) t.1 c.1)
  quiet r w x leave n t c = tt
  quiet r w x (turns s a b) n t c = ((t.0 x).1 ∙ c.0 x, quiet r w x a (suc n) t.1 c.1, quiet r w x b (suc n + size a) t.2 c.2)
  quiet r w x (inside e b y) n t c = ((t.0 x).1 ∙ c.0 x, (t.1 x).1 ∙ c.1 x, quiet r w x b (suc n) t.2 c.2)

  straight_calm : (a : Way (Site K)) → Straight a → Calm a
  straight_calm pass h = tt
  straight_calm (one s) h = tt
  straight_calm (row a b) h = (straight_calm a h.0, straight_calm b h.1)
  straight_calm (fork a b) h = (straight_calm a h.0, straight_calm b h.1)
  straight_calm leave h = absurd h
  straight_calm (turns s c b) h = absurd h
  straight_calm (inside e b x) h = absurd h

module _ {K : Keys} {A : Type 0} (X : Known K A) where
  exp_calm : (e : tree.Exp A) → Calm (exp_way X e)
  exp_calm e = straight_calm (exp_way X e) (exp_straight X e)

  lock_calm : (a : A) (e : tree.Exp A) → Calm (lock_check X a e)
  lock_calm a e = straight_calm (lock_check X a e) (unless_straight (X.never_null e) (one (record { at = X.facts.first a; what = What.checks })) tt)

  returned_calm : (v : Option (tree.Exp A)) → Calm (returned_way X v)
  returned_calm None = tt
  returned_calm (Some e) = (exp_calm e, tt)

  mutual
    stmt_calm : (s : statement.Stmt A) → Calm (stmt_way X s)
    stmt_calm (statement.local a is_final u v e) = (exp_calm e, tt)
    stmt_calm (statement.eval a e) = exp_calm e
    stmt_calm (statement.branch a c s o) = (exp_calm c, (stmt_calm s, else_calm o))
    stmt_calm (statement.loop a c s) = ((λ x. refl), exp_calm c, stmt_calm s)
    stmt_calm (statement.return a v) = returned_calm v
    stmt_calm (statement.block a b) = stmts_calm b
    stmt_calm (statement.sync a e b) = (exp_calm e, (lock_calm a e, ((λ x. refl), (λ x. refl), stmts_calm b)))
    stmt_calm (statement.empty a) = tt

    else_calm : (o : statement.Else A) → Calm (else_way X o)
    else_calm statement.no_else = tt
    else_calm (statement.otherwise s) = stmt_calm s

    pub stmts_calm : (b : statement.Stmts A) → Calm (stmts_way X b)
    stmts_calm statement.end = tt
    stmts_calm (statement.more s b) = (stmt_calm s, stmts_calm b)

  module _ (r : KeyMap K) (R : Rows K) (s : Standing K) (piece rest : statement.Stmts A) (new_list : core.Stmts K) where
    mutual
      around_calm : {a : statement.Stmt A} {a' : core.Stmt K} (h : StmtHolds X r R s piece rest new_list a a') → Calm (stmt_around X r R s piece rest new_list h)
      around_calm (holds_then a p c c' t t' o o' x h y) = (exp_calm c, (around_calm h, else_calm o))
      around_calm (holds_else a p c c' t t' o o' x y h) = (exp_calm c, (stmt_calm t, around_calm h))
      around_calm (holds_turned a p c c' b b' x h) = ((λ x. refl), exp_calm c, around_calm h)
      around_calm (holds_within a p ns b b' d h) = all_calm h
      around_calm (holds_locked a p q e e' b b' x h) = (exp_calm e, (lock_calm a e, ((λ x. refl), (λ x. refl), all_calm h)))

      pub all_calm : {b : statement.Stmts A} {b' : core.Stmts K} (h : StmtsHold X r R s piece rest new_list b b') → Calm (stmts_around X r R s piece rest new_list h)
      all_calm holds_here = (stmts_calm piece, stmts_calm rest)
      all_calm (holds_first t t' b b' h y) = (around_calm h, stmts_calm b)
      all_calm (holds_later t t' b b' y h) = (stmt_calm t, all_calm h)
