-- A local in scope is declared in its member; and what else a walk over statements carries.
use Rattle.std.proofs.Common.{◌≡◌, ℕ, ◌+◌, Bool, List, Some, None, sym, ap, ◌∙◌, inl, inr}
use Rattle.jr_ast.specs.Tree as tree
use Rattle.jr_ast.specs.StatementTree as statement
use Rattle.jr_table.specs.Decls.{MemberKey, LocalKey}
use Rattle.jr_table.specs.Context.{Context, Local, local_of, locals_in, after}
use Rattle.jr_table.specs.Somewhere.{InStmt, InElse, InStmts}
use Rattle.jr_images.specs.Clashes.{InScope, DeclaresUnder, DeclaresLocal}
use Rattle.jr_cursor.proofs.Nowhere.{exp_none}
use Rattle.jr_rename.proofs.Contexts.{last_or}
use Rattle.jr_rename.proofs.NamedLaws.{after_member}

-- ---- a property of statements in place of another

module _ {A : Type 0} (begins : A → ℕ → ℕ) (P Q : ℕ → Context → ℕ → statement.Stmt A → Type 0) (f : (n : ℕ) (c : Context) (b : ℕ) (s : statement.Stmt A) → P n c b s → Q n c b s) where
  mutual
    unfolding InStmt InElse InStmts

    pub stmt_map : (n : ℕ) (c : Context) (base : ℕ) (s : statement.Stmt A) → InStmt begins (λ c r b e. ⊥) P (λ b ss. ⊥) n c base s → InStmt begins (λ c r b e. ⊥) Q (λ b ss. ⊥) n c base s
    stmt_map n c base (statement.local m g t i e) (inl h) = inl (f n c base (statement.local m g t i e) h)
    stmt_map n c base (statement.local m g t i e) (inr h) = inr h
    stmt_map n c base (statement.eval m e) (inl h) = inl (f n c base (statement.eval m e) h)
    stmt_map n c base (statement.eval m e) (inr h) = inr h
    stmt_map n c base (statement.branch m e x other) (inl h) = inl (f n c base (statement.branch m e x other) h)
    stmt_map n c base (statement.branch m e x other) (inr (inl h)) = inr (inl h)
    stmt_map n c base (statement.branch m e x other) (inr (inr (inl h))) = inr (inr (inl (stmt_map n c (begins m base) x h)))
    stmt_map n c base (statement.branch m e x other) (inr (inr (inr h))) = inr (inr (inr (else_map (n + locals_in x) c (begins m base) other h)))
    stmt_map n c base (statement.loop m e x) (inl h) = inl (f n c base (statement.loop m e x) h)
    stmt_map n c base (statement.loop m e x) (inr (inl h)) = inr (inl h)
    stmt_map n c base (statement.loop m e x) (inr (inr h)) = inr (inr (stmt_map n c (begins m base) x h))
    stmt_map n c base (statement.return m o) (inl h) = inl (f n c base (statement.return m o) h)
    stmt_map n c base (statement.return m o) (inr h) = inr h
    stmt_map n c base (statement.block m body) (inl h) = inl (f n c base (statement.block m body) h)
    stmt_map n c base (statement.block m body) (inr (inl h)) = inr (inl h)
    stmt_map n c base (statement.block m body) (inr (inr h)) = inr (inr (stmts_map n c (begins m base) body h))
    stmt_map n c base (statement.sync m e body) (inl h) = inl (f n c base (statement.sync m e body) h)
    stmt_map n c base (statement.sync m e body) (inr (inl h)) = inr (inl h)
    stmt_map n c base (statement.sync m e body) (inr (inr (inl h))) = inr (inr (inl h))
    stmt_map n c base (statement.sync m e body) (inr (inr (inr h))) = inr (inr (inr (stmts_map n c (begins m base) body h)))
    stmt_map n c base (statement.empty m) h = f n c base (statement.empty m) h

    else_map : (n : ℕ) (c : Context) (base : ℕ) (s : statement.Else A) → InElse begins (λ c r b e. ⊥) P (λ b ss. ⊥) n c base s → InElse begins (λ c r b e. ⊥) Q (λ b ss. ⊥) n c base s
    else_map n c base statement.no_else h = h
    else_map n c base (statement.otherwise x) h = stmt_map n c base x h

    pub stmts_map : (n : ℕ) (c : Context) (base : ℕ) (s : statement.Stmts A) → InStmts begins (λ c r b e. ⊥) P (λ b ss. ⊥) n c base s → InStmts begins (λ c r b e. ⊥) Q (λ b ss. ⊥) n c base s
    stmts_map n c base statement.end h = h
    stmts_map n c base (statement.more x xs) (inl h) = inl (stmt_map n c base x h)
    stmts_map n c base (statement.more x xs) (inr h) = inr (stmts_map (n + locals_in x) (after n c x) base xs h)

-- ---- the member of what is known at a place

module _ {A : Type 0} (begins : A → ℕ → ℕ) (P : ℕ → Context → ℕ → statement.Stmt A → Type 0) (m : MemberKey) (leaf : (n : ℕ) (c : Context) (b : ℕ) (s : statement.Stmt A) → P n c b s → c.member ≡ m) where
  mutual
    unfolding InStmt InElse InStmts

    stmt_of : (n : ℕ) (c : Context) (base : ℕ) (s : statement.Stmt A) → InStmt begins (λ c r b e. ⊥) P (λ b ss. ⊥) n c base s → c.member ≡ m
    stmt_of n c base (statement.local x g t i e) (inl h) = leaf n c base (statement.local x g t i e) h
    stmt_of n c base (statement.local x g t i e) (inr h) = absurd (exp_none begins _ _ e h)
    stmt_of n c base (statement.eval x e) (inl h) = leaf n c base (statement.eval x e) h
    stmt_of n c base (statement.eval x e) (inr h) = absurd (exp_none begins _ _ e h)
    stmt_of n c base (statement.branch x e y other) (inl h) = leaf n c base (statement.branch x e y other) h
    stmt_of n c base (statement.branch x e y other) (inr (inl h)) = absurd (exp_none begins _ _ e h)
    stmt_of n c base (statement.branch x e y other) (inr (inr (inl h))) = stmt_of n c (begins x base) y h
    stmt_of n c base (statement.branch x e y other) (inr (inr (inr h))) = else_of (n + locals_in y) c (begins x base) other h
    stmt_of n c base (statement.loop x e y) (inl h) = leaf n c base (statement.loop x e y) h
    stmt_of n c base (statement.loop x e y) (inr (inl h)) = absurd (exp_none begins _ _ e h)
    stmt_of n c base (statement.loop x e y) (inr (inr h)) = stmt_of n c (begins x base) y h
    stmt_of n c base (statement.return x o) (inl h) = leaf n c base (statement.return x o) h
    stmt_of n c base (statement.return x None) (inr h) = absurd h
    stmt_of n c base (statement.return x (Some e)) (inr h) = absurd (exp_none begins _ _ e h)
    stmt_of n c base (statement.block x body) (inl h) = leaf n c base (statement.block x body) h
    stmt_of n c base (statement.block x body) (inr (inl h)) = absurd h
    stmt_of n c base (statement.block x body) (inr (inr h)) = stmts_of n c (begins x base) body h
    stmt_of n c base (statement.sync x e body) (inl h) = leaf n c base (statement.sync x e body) h
    stmt_of n c base (statement.sync x e body) (inr (inl h)) = absurd (exp_none begins _ _ e h)
    stmt_of n c base (statement.sync x e body) (inr (inr (inl h))) = absurd h
    stmt_of n c base (statement.sync x e body) (inr (inr (inr h))) = stmts_of n c (begins x base) body h
    stmt_of n c base (statement.empty x) h = leaf n c base (statement.empty x) h

    else_of : (n : ℕ) (c : Context) (base : ℕ) (s : statement.Else A) → InElse begins (λ c r b e. ⊥) P (λ b ss. ⊥) n c base s → c.member ≡ m
    else_of n c base statement.no_else h = absurd h
    else_of n c base (statement.otherwise x) h = stmt_of n c base x h

    pub stmts_of : (n : ℕ) (c : Context) (base : ℕ) (s : statement.Stmts A) → InStmts begins (λ c r b e. ⊥) P (λ b ss. ⊥) n c base s → c.member ≡ m
    stmts_of n c base statement.end h = absurd h
    stmts_of n c base (statement.more x xs) (inl h) = stmt_of n c base x h
    stmts_of n c base (statement.more x xs) (inr h) = sym (after_member n c x) ∙ stmts_of (n + locals_in x) (after n c x) base xs h

-- ---- what is in scope is declared

-- `Whole name`: the local is declared with the name, in the whole member
module _ {A : Type 0} (begins : A → ℕ → ℕ) (k : LocalKey) (Whole : List ℕ → Type 0) where
  abbrev pub Scoped : Context → Type 0
  Scoped c = (name : List ℕ) → InScope begins c k name → Whole name

  abbrev Declared : List ℕ → (n : ℕ) → Context → (base : ℕ) → statement.Stmt A → Type 0
  Declared name = InStmt begins (λ c r b e. ⊥) (λ n c b s. DeclaresLocal begins n c s k name) (λ b ss. ⊥)

  abbrev ElseDeclared : List ℕ → (n : ℕ) → Context → (base : ℕ) → statement.Else A → Type 0
  ElseDeclared name = InElse begins (λ c r b e. ⊥) (λ n c b s. DeclaresLocal begins n c s k name) (λ b ss. ⊥)

  abbrev AllDeclared : List ℕ → (n : ℕ) → Context → (base : ℕ) → statement.Stmts A → Type 0
  AllDeclared name = InStmts begins (λ c r b e. ⊥) (λ n c b s. DeclaresLocal begins n c s k name) (λ b ss. ⊥)

  scoped_local : (n : ℕ) (c : Context) (base : ℕ) (m : A) (g : Bool) (t : tree.TypeName A) (w : tree.Word A) (e : tree.Exp A)
      → ((name : List ℕ) → Declared name n c base (statement.local m g t w e) → Whole name) → Scoped c → Scoped (after n c (statement.local m g t w e))
  unfolding InStmt InElse InStmts
  scoped_local n c base m g t w e up scoped name (i, l, at, is, named) = elim (last_or c.locals (local_of c n g t w) i l at) [
    | inl h ↦ scoped name (i, l, h, is, named)
    | inr h ↦ up name (inl (ap (λ (x : Local). x.key) h ∙ is, ap (λ (x : Local). x.name) h ∙ named))
  ]

  scoped_after : (n : ℕ) (c : Context) (base : ℕ) (s : statement.Stmt A) → ((name : List ℕ) → Declared name n c base s → Whole name) → Scoped c → Scoped (after n c s)
  scoped_after n c base (statement.local m g t w e) up scoped = scoped_local n c base m g t w e up scoped
  scoped_after n c base (statement.eval m e) up scoped = scoped
  scoped_after n c base (statement.branch m e x other) up scoped = scoped
  scoped_after n c base (statement.loop m e x) up scoped = scoped
  scoped_after n c base (statement.return m e) up scoped = scoped
  scoped_after n c base (statement.block m body) up scoped = scoped
  scoped_after n c base (statement.sync m e body) up scoped = scoped
  scoped_after n c base (statement.empty m) up scoped = scoped

  module _ (j : LocalKey) (new old : List ℕ) where
    abbrev Under : (n : ℕ) → Context → (base : ℕ) → statement.Stmt A → Type 0
    Under = InStmt begins (λ c r b e. ⊥) (λ n c b s. DeclaresUnder begins n c s j new k old) (λ b ss. ⊥)

    abbrev ElseUnder : (n : ℕ) → Context → (base : ℕ) → statement.Else A → Type 0
    ElseUnder = InElse begins (λ c r b e. ⊥) (λ n c b s. DeclaresUnder begins n c s j new k old) (λ b ss. ⊥)

    abbrev AllUnder : (n : ℕ) → Context → (base : ℕ) → statement.Stmts A → Type 0
    AllUnder = InStmts begins (λ c r b e. ⊥) (λ n c b s. DeclaresUnder begins n c s j new k old) (λ b ss. ⊥)

    mutual
      unfolding InStmt InElse InStmts

      stmt_scoped : (n : ℕ) (c : Context) (base : ℕ) (s : statement.Stmt A) → ((name : List ℕ) → Declared name n c base s → Whole name) → Scoped c → Under n c base s → Whole old
      stmt_scoped n c base (statement.local m g t i e) up scoped (inl h) = scoped old h.2
      stmt_scoped n c base (statement.local m g t i e) up scoped (inr h) = absurd (exp_none begins _ _ e h)
      stmt_scoped n c base (statement.eval m e) up scoped (inl h) = absurd h
      stmt_scoped n c base (statement.eval m e) up scoped (inr h) = absurd (exp_none begins _ _ e h)
      stmt_scoped n c base (statement.branch m e x other) up scoped (inl h) = absurd h
      stmt_scoped n c base (statement.branch m e x other) up scoped (inr (inl h)) = absurd (exp_none begins _ _ e h)
      stmt_scoped n c base (statement.branch m e x other) up scoped (inr (inr (inl h))) = stmt_scoped n c (begins m base) x (λ name d. up name (inr (inr (inl d)))) scoped h
      stmt_scoped n c base (statement.branch m e x other) up scoped (inr (inr (inr h))) = else_scoped (n + locals_in x) c (begins m base) other (λ name d. up name (inr (inr (inr d)))) scoped h
      stmt_scoped n c base (statement.loop m e x) up scoped (inl h) = absurd h
      stmt_scoped n c base (statement.loop m e x) up scoped (inr (inl h)) = absurd (exp_none begins _ _ e h)
      stmt_scoped n c base (statement.loop m e x) up scoped (inr (inr h)) = stmt_scoped n c (begins m base) x (λ name d. up name (inr (inr d))) scoped h
      stmt_scoped n c base (statement.return m o) up scoped (inl h) = absurd h
      stmt_scoped n c base (statement.return m None) up scoped (inr h) = absurd h
      stmt_scoped n c base (statement.return m (Some e)) up scoped (inr h) = absurd (exp_none begins _ _ e h)
      stmt_scoped n c base (statement.block m body) up scoped (inl h) = absurd h
      stmt_scoped n c base (statement.block m body) up scoped (inr (inl h)) = absurd h
      stmt_scoped n c base (statement.block m body) up scoped (inr (inr h)) = stmts_scoped n c (begins m base) body (λ name d. up name (inr (inr d))) scoped h
      stmt_scoped n c base (statement.sync m e body) up scoped (inl h) = absurd h
      stmt_scoped n c base (statement.sync m e body) up scoped (inr (inl h)) = absurd (exp_none begins _ _ e h)
      stmt_scoped n c base (statement.sync m e body) up scoped (inr (inr (inl h))) = absurd h
      stmt_scoped n c base (statement.sync m e body) up scoped (inr (inr (inr h))) = stmts_scoped n c (begins m base) body (λ name d. up name (inr (inr (inr d)))) scoped h
      stmt_scoped n c base (statement.empty m) up scoped h = absurd h

      else_scoped : (n : ℕ) (c : Context) (base : ℕ) (s : statement.Else A) → ((name : List ℕ) → ElseDeclared name n c base s → Whole name) → Scoped c → ElseUnder n c base s → Whole old
      else_scoped n c base statement.no_else up scoped h = absurd h
      else_scoped n c base (statement.otherwise x) up scoped h = stmt_scoped n c base x up scoped h

      pub stmts_scoped : (n : ℕ) (c : Context) (base : ℕ) (s : statement.Stmts A) → ((name : List ℕ) → AllDeclared name n c base s → Whole name) → Scoped c → AllUnder n c base s → Whole old
      stmts_scoped n c base statement.end up scoped h = absurd h
      stmts_scoped n c base (statement.more x xs) up scoped (inl h) = stmt_scoped n c base x (λ name d. up name (inl d)) scoped h
      stmts_scoped n c base (statement.more x xs) up scoped (inr h) =
          stmts_scoped (n + locals_in x) (after n c x) base xs (λ name d. up name (inr d)) (scoped_after n c base x (λ name d. up name (inl d)) scoped) h
