-- Where a statement of a member has a property: that statement, and what is known there.
use Rattle.std.proofs.Common.{◌≡◌, ℕ, ◌+◌, Some, None, refl, subst, inl, inr}
use Rattle.jr_ast.specs.StatementTree as statement
use Rattle.jr_table.specs.Context.{Context, locals_in, after}
use Rattle.jr_table.specs.Somewhere.{InStmt, InElse, InStmts}
use Rattle.jr_cursor.proofs.Nowhere.{exp_none}
use Rattle.jr_rename.proofs.Scoping.{stmts_map}

module _ {A : Type 0} (begins : A → ℕ → ℕ) (P : ℕ → Context → ℕ → statement.Stmt A → Type 0) where
  abbrev IsAt : ℕ → Context → ℕ → statement.Stmt A → ℕ → Context → ℕ → statement.Stmt A → Type 0
  IsAt n c b s n' c' b' s' = (n ≡ n') × (c ≡ c') × (b ≡ b') × (s ≡ s')

  -- `In` says where it is
  pub record Leaf (In : (ℕ → Context → ℕ → statement.Stmt A → Type 0) → Type 0) : Type 0 where
    pub number : ℕ
    pub known : Context
    pub base : ℕ
    pub stmt : statement.Stmt A
    pub has : P number known base stmt
    pub there : In (IsAt number known base stmt)

  abbrev here : (In : (ℕ → Context → ℕ → statement.Stmt A → Type 0) → Type 0) → (n : ℕ) → (c : Context) → (b : ℕ) → (s : statement.Stmt A) → P n c b s → In (IsAt n c b s) → Leaf In
  here In n c b s has there = record { number = n; known = c; base = b; stmt = s; has = has; there = there }

  moved : (In To : (ℕ → Context → ℕ → statement.Stmt A → Type 0) → Type 0) → ((Q : ℕ → Context → ℕ → statement.Stmt A → Type 0) → In Q → To Q) → Leaf In → Leaf To
  moved In To to l = record { number = l.number; known = l.known; base = l.base; stmt = l.stmt; has = l.has; there = to _ l.there }

  abbrev At : (n : ℕ) → Context → (base : ℕ) → statement.Stmt A → (ℕ → Context → ℕ → statement.Stmt A → Type 0) → Type 0
  At n c base s Q = InStmt begins (λ c r b e. ⊥) Q (λ b ss. ⊥) n c base s

  abbrev AtElse : (n : ℕ) → Context → (base : ℕ) → statement.Else A → (ℕ → Context → ℕ → statement.Stmt A → Type 0) → Type 0
  AtElse n c base s Q = InElse begins (λ c r b e. ⊥) Q (λ b ss. ⊥) n c base s

  abbrev AtAll : (n : ℕ) → Context → (base : ℕ) → statement.Stmts A → (ℕ → Context → ℕ → statement.Stmt A → Type 0) → Type 0
  AtAll n c base s Q = InStmts begins (λ c r b e. ⊥) Q (λ b ss. ⊥) n c base s

  mutual
    unfolding InStmt InElse InStmts

    stmt_leaf : (n : ℕ) (c : Context) (base : ℕ) (s : statement.Stmt A) → At n c base s P → Leaf (At n c base s)
    stmt_leaf n c base (statement.local m g t i e) (inl h) = here (At n c base (statement.local m g t i e)) n c base (statement.local m g t i e) h (inl (refl, refl, refl, refl))
    stmt_leaf n c base (statement.local m g t i e) (inr h) = absurd (exp_none begins _ _ e h)
    stmt_leaf n c base (statement.eval m e) (inl h) = here (At n c base (statement.eval m e)) n c base (statement.eval m e) h (inl (refl, refl, refl, refl))
    stmt_leaf n c base (statement.eval m e) (inr h) = absurd (exp_none begins _ _ e h)
    stmt_leaf n c base (statement.branch m e x other) (inl h) = here (At n c base (statement.branch m e x other)) n c base (statement.branch m e x other) h (inl (refl, refl, refl, refl))
    stmt_leaf n c base (statement.branch m e x other) (inr (inl h)) = absurd (exp_none begins _ _ e h)
    stmt_leaf n c base (statement.branch m e x other) (inr (inr (inl h))) =
        moved (At n c (begins m base) x) (At n c base (statement.branch m e x other)) (λ Q q. inr (inr (inl q))) (stmt_leaf n c (begins m base) x h)
    stmt_leaf n c base (statement.branch m e x other) (inr (inr (inr h))) =
        moved (AtElse (n + locals_in x) c (begins m base) other) (At n c base (statement.branch m e x other)) (λ Q q. inr (inr (inr q))) (else_leaf (n + locals_in x) c (begins m base) other h)
    stmt_leaf n c base (statement.loop m e x) (inl h) = here (At n c base (statement.loop m e x)) n c base (statement.loop m e x) h (inl (refl, refl, refl, refl))
    stmt_leaf n c base (statement.loop m e x) (inr (inl h)) = absurd (exp_none begins _ _ e h)
    stmt_leaf n c base (statement.loop m e x) (inr (inr h)) = moved (At n c (begins m base) x) (At n c base (statement.loop m e x)) (λ Q q. inr (inr q)) (stmt_leaf n c (begins m base) x h)
    stmt_leaf n c base (statement.return m o) (inl h) = here (At n c base (statement.return m o)) n c base (statement.return m o) h (inl (refl, refl, refl, refl))
    stmt_leaf n c base (statement.return m None) (inr h) = absurd h
    stmt_leaf n c base (statement.return m (Some e)) (inr h) = absurd (exp_none begins _ _ e h)
    stmt_leaf n c base (statement.block m body) (inl h) = here (At n c base (statement.block m body)) n c base (statement.block m body) h (inl (refl, refl, refl, refl))
    stmt_leaf n c base (statement.block m body) (inr (inl h)) = absurd h
    stmt_leaf n c base (statement.block m body) (inr (inr h)) = moved (AtAll n c (begins m base) body) (At n c base (statement.block m body)) (λ Q q. inr (inr q)) (stmts_leaf n c (begins m base) body h)
    stmt_leaf n c base (statement.sync m e body) (inl h) = here (At n c base (statement.sync m e body)) n c base (statement.sync m e body) h (inl (refl, refl, refl, refl))
    stmt_leaf n c base (statement.sync m e body) (inr (inl h)) = absurd (exp_none begins _ _ e h)
    stmt_leaf n c base (statement.sync m e body) (inr (inr (inl h))) = absurd h
    stmt_leaf n c base (statement.sync m e body) (inr (inr (inr h))) = moved (AtAll n c (begins m base) body) (At n c base (statement.sync m e body)) (λ Q q. inr (inr (inr q))) (stmts_leaf n c (begins m base) body h)
    stmt_leaf n c base (statement.empty m) h = here (At n c base (statement.empty m)) n c base (statement.empty m) h (refl, refl, refl, refl)

    else_leaf : (n : ℕ) (c : Context) (base : ℕ) (s : statement.Else A) → AtElse n c base s P → Leaf (AtElse n c base s)
    else_leaf n c base statement.no_else h = absurd h
    else_leaf n c base (statement.otherwise x) h = moved (At n c base x) (AtElse n c base (statement.otherwise x)) (λ Q q. q) (stmt_leaf n c base x h)

    pub stmts_leaf : (n : ℕ) (c : Context) (base : ℕ) (s : statement.Stmts A) → AtAll n c base s P → Leaf (AtAll n c base s)
    stmts_leaf n c base statement.end h = absurd h
    stmts_leaf n c base (statement.more x xs) (inl h) = moved (At n c base x) (AtAll n c base (statement.more x xs)) (λ Q q. inl q) (stmt_leaf n c base x h)
    stmts_leaf n c base (statement.more x xs) (inr h) =
        moved (AtAll (n + locals_in x) (after n c x) base xs) (AtAll n c base (statement.more x xs)) (λ Q q. inr q) (stmts_leaf (n + locals_in x) (after n c x) base xs h)

  carried : (Q : ℕ → Context → ℕ → statement.Stmt A → Type 0) (n n' : ℕ) (c c' : Context) (b b' : ℕ) (s s' : statement.Stmt A) → Q n c b s → IsAt n c b s n' c' b' s' → Q n' c' b' s'
  carried Q n n' c c' b b' s s' q e =
      let q1 = subst (λ (x : ℕ). Q x c b s) e.0 q in
      let q2 = subst (λ (x : Context). Q n' x b s) e.1 q1 in
      let q3 = subst (λ (x : ℕ). Q n' c' x s) e.2 q2 in
      subst (λ (x : statement.Stmt A). Q n' c' b' x) e.3 q3

  -- what holds at that statement holds somewhere
  pub at_leaf : (Q : ℕ → Context → ℕ → statement.Stmt A → Type 0) (n : ℕ) (c : Context) (base : ℕ) (s : statement.Stmts A) (l : Leaf (AtAll n c base s)) → Q l.number l.known l.base l.stmt → AtAll n c base s Q
  at_leaf Q n c base s l q = stmts_map begins (IsAt l.number l.known l.base l.stmt) Q (λ n' c' b' s' e. carried Q l.number n' l.known c' l.base b' l.stmt s' q e) n c base s l.there
