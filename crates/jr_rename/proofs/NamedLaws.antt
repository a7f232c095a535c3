-- A walk over statements tells exactly whether the local is declared with the name.
use Rattle.std.proofs.Common.{◌≡◌, ℕ, List, Some, None, Bool, true, false, refl, sym, ap, subst, ◌∙◌, inl, inr}
use Rattle.std.specs.Prelude.{◌⊎◌, ◌||◌}
use Rattle.jr_ast.specs.StatementTree as statement
use Rattle.jr_table.specs.Decls.{LocalKey}
use Rattle.jr_table.specs.Context.{Context, after}
use Rattle.jr_table.specs.Somewhere.{InStmt, InElse, InStmts}
use Rattle.jr_images.specs.Clashes.{DeclaresLocal}
use Rattle.jr_rename.specs.Walks.{Asked, Walk, is_declared, restored, in_stmt, in_else, in_stmts}
use Rattle.jr_rename.specs.LocalAnswers.{asked_local}
use Rattle.jr_cursor.proofs.Nowhere.{neither, exp_none}
use Rattle.jr_rename.proofs.Contexts.{declared_to, to_declared}
use Rattle.jr_rename.proofs.WalkLaws.{stmt_next}

pub either : (a b : Bool) → (a || b) ≡ true → (a ≡ true) ⊎ (b ≡ true)
either true b e = inl refl
either false b e = inr e

pub first_true : (a b : Bool) → a ≡ true → (a || b) ≡ true
first_true true b e = refl
first_true false b e = absurd cc

pub second_true : (a b : Bool) → b ≡ true → (a || b) ≡ true
second_true true b e = refl
second_true false b e = e

pub after_member : {A : Type 0} (n : ℕ) (c : Context) (s : statement.Stmt A) → (after n c s).member ≡ c.member
after_member n c (statement.local m f t w e) = refl
after_member n c (statement.eval m e) = refl
after_member n c (statement.branch m e x other) = refl
after_member n c (statement.loop m e x) = refl
after_member n c (statement.return m e) = refl
after_member n c (statement.block m body) = refl
after_member n c (statement.sync m e body) = refl
after_member n c (statement.empty m) = refl

module _ {A : Type 0} (begins : A → ℕ → ℕ) (k : LocalKey) (new : List ℕ) where
  abbrev a : Asked
  a = asked_local k new

  abbrev pub StmtNames : (n : ℕ) → Context → (base : ℕ) → statement.Stmt A → Type 0
  StmtNames = InStmt begins (λ c r b e. ⊥) (λ n c b s. DeclaresLocal begins n c s k new) (λ b ss. ⊥)

  abbrev pub ElseNames : (n : ℕ) → Context → (base : ℕ) → statement.Else A → Type 0
  ElseNames = InElse begins (λ c r b e. ⊥) (λ n c b s. DeclaresLocal begins n c s k new) (λ b ss. ⊥)

  abbrev pub StmtsName : (n : ℕ) → Context → (base : ℕ) → statement.Stmts A → Type 0
  StmtsName = InStmts begins (λ c r b e. ⊥) (λ n c b s. DeclaresLocal begins n c s k new) (λ b ss. ⊥)

  -- what was told stays told
  mutual
    unfolding in_stmt in_else in_stmts

    pub stmt_stays : (w : Walk) (s : statement.Stmt A) → w.is_named ≡ true → (in_stmt a w s).is_named ≡ true
    stmt_stays w (statement.local m f t i e) h = first_true w.is_named (is_declared a w.next i.text) h
    stmt_stays w (statement.eval m e) h = h
    stmt_stays w (statement.branch m e x other) h = else_stays (restored w (in_stmt a w x)) other (stmt_stays w x h)
    stmt_stays w (statement.loop m e x) h = stmt_stays w x h
    stmt_stays w (statement.return m e) h = h
    stmt_stays w (statement.block m body) h = stmts_stay w body h
    stmt_stays w (statement.sync m e body) h = stmts_stay w body h
    stmt_stays w (statement.empty m) h = h

    else_stays : (w : Walk) (s : statement.Else A) → w.is_named ≡ true → (in_else a w s).is_named ≡ true
    else_stays w statement.no_else h = h
    else_stays w (statement.otherwise x) h = stmt_stays w x h

    pub stmts_stay : (w : Walk) (s : statement.Stmts A) → w.is_named ≡ true → (in_stmts a w s).is_named ≡ true
    stmts_stay w statement.end h = h
    stmts_stay w (statement.more x xs) h = stmts_stay (in_stmt a w x) xs (stmt_stays w x h)

  -- what is declared is told
  mutual
    unfolding in_stmt in_else in_stmts InStmt InElse InStmts

    pub stmt_named : (w : Walk) (c : Context) (base : ℕ) (s : statement.Stmt A) → StmtNames w.next c base s → (in_stmt a w s).is_named ≡ true
    stmt_named w c base (statement.local m f t i e) (inl h) =
        second_true w.is_named (is_declared a w.next i.text) (to_declared begins k new w.next i.text (ap (λ (x : LocalKey). x.number) h.0) h.1)
    stmt_named w c base (statement.local m f t i e) (inr h) = absurd (exp_none begins _ _ e h)
    stmt_named w c base (statement.eval m e) h = absurd (neither (λ x. x) (exp_none begins _ _ e) h)
    stmt_named w c base (statement.branch m e x other) (inl h) = absurd h
    stmt_named w c base (statement.branch m e x other) (inr (inl h)) = absurd (exp_none begins _ _ e h)
    stmt_named w c base (statement.branch m e x other) (inr (inr (inl h))) = else_stays (restored w (in_stmt a w x)) other (stmt_named w c (begins m base) x h)
    stmt_named w c base (statement.branch m e x other) (inr (inr (inr h))) =
        else_named (restored w (in_stmt a w x)) c (begins m base) other (subst (λ (n : ℕ). ElseNames n c (begins m base) other) (sym (stmt_next a w x)) h)
    stmt_named w c base (statement.loop m e x) (inl h) = absurd h
    stmt_named w c base (statement.loop m e x) (inr (inl h)) = absurd (exp_none begins _ _ e h)
    stmt_named w c base (statement.loop m e x) (inr (inr h)) = stmt_named w c (begins m base) x h
    stmt_named w c base (statement.return m None) h = absurd (neither (λ x. x) (λ x. x) h)
    stmt_named w c base (statement.return m (Some e)) h = absurd (neither (λ x. x) (exp_none begins _ _ e) h)
    stmt_named w c base (statement.block m body) (inl h) = absurd h
    stmt_named w c base (statement.block m body) (inr (inl h)) = absurd h
    stmt_named w c base (statement.block m body) (inr (inr h)) = stmts_named w c (begins m base) body h
    stmt_named w c base (statement.sync m e body) (inl h) = absurd h
    stmt_named w c base (statement.sync m e body) (inr (inl h)) = absurd (exp_none begins _ _ e h)
    stmt_named w c base (statement.sync m e body) (inr (inr (inl h))) = absurd h
    stmt_named w c base (statement.sync m e body) (inr (inr (inr h))) = stmts_named w c (begins m base) body h
    stmt_named w c base (statement.empty m) h = absurd h

    else_named : (w : Walk) (c : Context) (base : ℕ) (s : statement.Else A) → ElseNames w.next c base s → (in_else a w s).is_named ≡ true
    else_named w c base statement.no_else h = absurd h
    else_named w c base (statement.otherwise x) h = stmt_named w c base x h

    pub stmts_named : (w : Walk) (c : Context) (base : ℕ) (s : statement.Stmts A) → StmtsName w.next c base s → (in_stmts a w s).is_named ≡ true
    stmts_named w c base statement.end h = absurd h
    stmts_named w c base (statement.more x xs) (inl h) = stmts_stay (in_stmt a w x) xs (stmt_named w c base x h)
    stmts_named w c base (statement.more x xs) (inr h) =
        stmts_named (in_stmt a w x) (after w.next c x) base xs (subst (λ (n : ℕ). StmtsName n (after w.next c x) base xs) (sym (stmt_next a w x)) h)

  -- what is told was told before, or is declared
  mutual
    unfolding in_stmt in_else in_stmts InStmt InElse InStmts

    pub stmt_names : (w : Walk) (c : Context) (base : ℕ) (s : statement.Stmt A) → c.member ≡ k.member → (in_stmt a w s).is_named ≡ true → (w.is_named ≡ true) ⊎ StmtNames w.next c base s
    stmt_names w c base (statement.local m f t i e) of h = elim (either w.is_named (is_declared a w.next i.text) h) [
      | inl g ↦ inl g
      | inr g ↦ (let r = declared_to begins k new w.next i.text g in inr (inl ((λ j. record { member = of j; number = r.0 j }), r.1)))
    ]
    stmt_names w c base (statement.eval m e) of h = inl h
    stmt_names w c base (statement.branch m e x other) of h = elim (else_names (restored w (in_stmt a w x)) c (begins m base) other of h) [
      | inl g ↦ (elim (stmt_names w c (begins m base) x of g) [ inl y ↦ inl y | inr y ↦ inr (inr (inr (inl y))) ])
      | inr g ↦ inr (inr (inr (inr (subst (λ (n : ℕ). ElseNames n c (begins m base) other) (stmt_next a w x) g))))
    ]
    stmt_names w c base (statement.loop m e x) of h = elim (stmt_names w c (begins m base) x of h) [ inl y ↦ inl y | inr y ↦ inr (inr (inr y)) ]
    stmt_names w c base (statement.return m e) of h = inl h
    stmt_names w c base (statement.block m body) of h = elim (stmts_names w c (begins m base) body of h) [ inl y ↦ inl y | inr y ↦ inr (inr (inr y)) ]
    stmt_names w c base (statement.sync m e body) of h = elim (stmts_names w c (begins m base) body of h) [ inl y ↦ inl y | inr y ↦ inr (inr (inr (inr y))) ]
    stmt_names w c base (statement.empty m) of h = inl h

    else_names : (w : Walk) (c : Context) (base : ℕ) (s : statement.Else A) → c.member ≡ k.member → (in_else a w s).is_named ≡ true → (w.is_named ≡ true) ⊎ ElseNames w.next c base s
    else_names w c base statement.no_else of h = inl h
    else_names w c base (statement.otherwise x) of h = stmt_names w c base x of h

    pub stmts_names : (w : Walk) (c : Context) (base : ℕ) (s : statement.Stmts A) → c.member ≡ k.member → (in_stmts a w s).is_named ≡ true → (w.is_named ≡ true) ⊎ StmtsName w.next c base s
    stmts_names w c base statement.end of h = inl h
    stmts_names w c base (statement.more x xs) of h = elim (stmts_names (in_stmt a w x) (after w.next c x) base xs (after_member w.next c x ∙ of) h) [
      | inl g ↦ (elim (stmt_names w c base x of g) [ inl y ↦ inl y | inr y ↦ inr (inl y) ])
      | inr g ↦ inr (inr (subst (λ (n : ℕ). StmtsName n (after w.next c x) base xs) (stmt_next a w x) g))
    ]
