-- A walk over statements tells exactly whether the local is declared with the name, and the least
-- local that it would meet.
use Rattle.std.proofs.Common.{◌≡◌, ℕ, ◌+◌, List, [], ◌∷◌, ◌++◌, Some, None, take, length, refl, sym, ap, subst, ◌∙◌, inl, inr, arith, append_assoc, append-nil}
use Rattle.std.specs.Prelude.{◌⊎◌}
use Rattle.jr_ast.specs.Tree as tree
use Rattle.jr_ast.specs.StatementTree as statement
use Rattle.jr_table.specs.Decls.{MemberKey, LocalKey}
use Rattle.jr_table.specs.Context.{Context, locals_in, locals_in_else, locals_in_row, after}
use Rattle.jr_table.specs.Somewhere.{InStmt, InElse, InStmts}
use Rattle.jr_rename.specs.Walks.{Asked, Held, Walk, restored, in_stmt, in_else, in_stmts}
use Rattle.jr_rename.specs.LocalAnswers.{asked_local}
use Rattle.jr_cursor.proofs.Nowhere.{neither, exp_none}
use Rattle.jr_rename.proofs.Least.{LeastOf, least_to, least_both, least_left}
use Rattle.jr_rename.proofs.Contexts.{Beside, MeetsAt, local_met, local_beside}

-- ---- what is in scope grows, and is restored

abbrev pub Grows : Walk → Walk → Type 0
Grows w v = (hs : List Held) × (v.scope ≡ w.scope ++ hs)

grows_same : (w : Walk) → Grows w w
grows_same w = ([], sym (append-nil w.scope))

take_front : (xs ys : List Held) → take (length xs) (xs ++ ys) ≡ xs
take_front [] ys = refl
take_front (x ∷ xs) ys = ap (λ zs. x ∷ zs) (take_front xs ys)

pub restores : (w v : Walk) → Grows w v → (restored w v).scope ≡ w.scope
restores w v g = ap (take (length w.scope)) g.1 ∙ take_front w.scope g.0

grows_back : (w v : Walk) → Grows w v → Grows w (restored w v)
grows_back w v g = ([], restores w v g ∙ sym (append-nil w.scope))

grows_on : (u v w : Walk) → Grows u v → Grows v w → Grows u w
grows_on u v w g h = (g.0 ++ h.0, h.1 ∙ ap (λ xs. xs ++ h.0) g.1 ∙ append_assoc u.scope g.0 h.0)

same_scope : (m : MemberKey) (c : Context) (xs ys : List Held) → ys ≡ xs → Beside m c xs → Beside m c ys
same_scope m c xs ys e b = subst (λ (hs : List Held). Beside m c hs) (sym e) b

module _ {A : Type 0} (a : Asked) where
  mutual
    unfolding in_stmt in_else in_stmts

    pub stmt_grows : (w : Walk) (s : statement.Stmt A) → Grows w (in_stmt a w s)
    stmt_grows w (statement.local m f t i e) = (record { number = w.next; name = i.text } ∷ [], refl)
    stmt_grows w (statement.eval m e) = grows_same w
    stmt_grows w (statement.branch m e x other) =
        grows_on w (restored w (in_stmt a w x)) (in_else a (restored w (in_stmt a w x)) other) (grows_back w (in_stmt a w x) (stmt_grows w x)) (else_grows (restored w (in_stmt a w x)) other)
    stmt_grows w (statement.loop m e x) = grows_back w (in_stmt a w x) (stmt_grows w x)
    stmt_grows w (statement.return m e) = grows_same w
    stmt_grows w (statement.block m body) = grows_back w (in_stmts a w body) (stmts_grow w body)
    stmt_grows w (statement.sync m e body) = grows_back w (in_stmts a w body) (stmts_grow w body)
    stmt_grows w (statement.empty m) = grows_same w

    else_grows : (w : Walk) (s : statement.Else A) → Grows w (in_else a w s)
    else_grows w statement.no_else = grows_same w
    else_grows w (statement.otherwise x) = grows_back w (in_stmt a w x) (stmt_grows w x)

    pub stmts_grow : (w : Walk) (s : statement.Stmts A) → Grows w (in_stmts a w s)
    stmts_grow w statement.end = grows_same w
    stmts_grow w (statement.more x xs) = grows_on w (in_stmt a w x) (in_stmts a (in_stmt a w x) xs) (stmt_grows w x) (stmts_grow (in_stmt a w x) xs)

  mutual
    unfolding in_stmt in_else in_stmts locals_in locals_in_else locals_in_row

    pub stmt_next : (w : Walk) (s : statement.Stmt A) → (in_stmt a w s).next ≡ w.next + locals_in s
    stmt_next w (statement.local m f t i e) = omega arith
    stmt_next w (statement.eval m e) = omega arith
    stmt_next w (statement.branch m e x other) = let p = stmt_next w x in let q = else_next (restored w (in_stmt a w x)) other in omega (arith, p, q)
    stmt_next w (statement.loop m e x) = stmt_next w x
    stmt_next w (statement.return m e) = omega arith
    stmt_next w (statement.block m body) = stmts_next w body
    stmt_next w (statement.sync m e body) = stmts_next w body
    stmt_next w (statement.empty m) = omega arith

    else_next : (w : Walk) (s : statement.Else A) → (in_else a w s).next ≡ w.next + locals_in_else s
    else_next w statement.no_else = omega arith
    else_next w (statement.otherwise x) = stmt_next w x

    pub stmts_next : (w : Walk) (s : statement.Stmts A) → (in_stmts a w s).next ≡ w.next + locals_in_row s
    stmts_next w statement.end = omega arith
    stmts_next w (statement.more x xs) = let p = stmt_next w x in let q = stmts_next (in_stmt a w x) xs in omega (arith, p, q)

  else_scope : (w : Walk) (s : statement.Else A) → (in_else a w s).scope ≡ w.scope
  unfolding in_stmt in_else in_stmts
  else_scope w statement.no_else = refl
  else_scope w (statement.otherwise x) = restores w (in_stmt a w x) (stmt_grows w x)

  -- behind an element of a list
  pub stmt_beside : (m : MemberKey) (w : Walk) (c : Context) (s : statement.Stmt A) → Beside m c w.scope → Beside m (after w.next c s) (in_stmt a w s).scope
  unfolding in_stmt in_else in_stmts
  stmt_beside m w c (statement.local x f t i e) b = local_beside m w.next c w.scope b x f t i e
  stmt_beside m w c (statement.eval x e) b = b
  stmt_beside m w c (statement.branch x e y other) b =
      same_scope m c w.scope (in_stmt a w (statement.branch x e y other)).scope (else_scope (restored w (in_stmt a w y)) other ∙ restores w (in_stmt a w y) (stmt_grows w y)) b
  stmt_beside m w c (statement.loop x e y) b = same_scope m c w.scope (restored w (in_stmt a w y)).scope (restores w (in_stmt a w y) (stmt_grows w y)) b
  stmt_beside m w c (statement.return x e) b = b
  stmt_beside m w c (statement.block x body) b = same_scope m c w.scope (restored w (in_stmts a w body)).scope (restores w (in_stmts a w body) (stmts_grow w body)) b
  stmt_beside m w c (statement.sync x e body) b = same_scope m c w.scope (restored w (in_stmts a w body)).scope (restores w (in_stmts a w body) (stmts_grow w body)) b
  stmt_beside m w c (statement.empty x) b = b

-- ---- what is met

module _ {A : Type 0} (begins : A → ℕ → ℕ) (k : LocalKey) (new : List ℕ) where
  abbrev a : Asked
  a = asked_local k new

  -- one that is met in a statement
  abbrev pub StmtMeets : LocalKey → (n : ℕ) → Context → (base : ℕ) → statement.Stmt A → Type 0
  StmtMeets j = InStmt begins (λ c r b e. ⊥) (λ n c b s. MeetsAt begins k new j n c s) (λ b ss. ⊥)

  abbrev pub ElseMeets : LocalKey → (n : ℕ) → Context → (base : ℕ) → statement.Else A → Type 0
  ElseMeets j = InElse begins (λ c r b e. ⊥) (λ n c b s. MeetsAt begins k new j n c s) (λ b ss. ⊥)

  abbrev pub StmtsMeet : LocalKey → (n : ℕ) → Context → (base : ℕ) → statement.Stmts A → Type 0
  StmtsMeet j = InStmts begins (λ c r b e. ⊥) (λ n c b s. MeetsAt begins k new j n c s) (λ b ss. ⊥)

  -- nothing is met at a statement that declares nothing
  no_meeting : (j : LocalKey) → ((k ≡ j → ⊥) × ((old : List ℕ) × (⊥ ⊎ ⊥))) → ⊥
  no_meeting j (other, (old, h)) = neither (λ x. x) (λ x. x) h

  branch_to : (w : Walk) (c : Context) (base : ℕ) (m : A) (e : tree.Exp A) (x : statement.Stmt A) (other : statement.Else A) (P : LocalKey → Type 0) (j : LocalKey)
      → (P j ⊎ StmtMeets j w.next c (begins m base) x) ⊎ ElseMeets j (in_stmt a w x).next c (begins m base) other → P j ⊎ StmtMeets j w.next c base (statement.branch m e x other)
  unfolding in_stmt in_else in_stmts InStmt InElse InStmts
  branch_to w c base m e x other P j (inl (inl p)) = inl p
  branch_to w c base m e x other P j (inl (inr q)) = inr (inr (inr (inl q)))
  branch_to w c base m e x other P j (inr q) = inr (inr (inr (inr (subst (λ (n : ℕ). ElseMeets j n c (begins m base) other) (stmt_next a w x) q))))

  branch_back : (w : Walk) (c : Context) (base : ℕ) (m : A) (e : tree.Exp A) (x : statement.Stmt A) (other : statement.Else A) (P : LocalKey → Type 0) (j : LocalKey)
      → P j ⊎ StmtMeets j w.next c base (statement.branch m e x other) → (P j ⊎ StmtMeets j w.next c (begins m base) x) ⊎ ElseMeets j (in_stmt a w x).next c (begins m base) other
  unfolding in_stmt in_else in_stmts InStmt InElse InStmts
  branch_back w c base m e x other P j (inl p) = inl (inl p)
  branch_back w c base m e x other P j (inr (inl q)) = absurd (no_meeting j q)
  branch_back w c base m e x other P j (inr (inr (inl q))) = absurd (exp_none begins _ _ e q)
  branch_back w c base m e x other P j (inr (inr (inr (inl q)))) = inl (inr q)
  branch_back w c base m e x other P j (inr (inr (inr (inr q)))) = inr (subst (λ (n : ℕ). ElseMeets j n c (begins m base) other) (sym (stmt_next a w x)) q)

  sync_back : (w : Walk) (c : Context) (base : ℕ) (m : A) (e : tree.Exp A) (body : statement.Stmts A) (P : LocalKey → Type 0) (j : LocalKey)
      → P j ⊎ StmtMeets j w.next c base (statement.sync m e body) → P j ⊎ StmtsMeet j w.next c (begins m base) body
  unfolding in_stmt in_else in_stmts InStmt InElse InStmts
  sync_back w c base m e body P j (inl p) = inl p
  sync_back w c base m e body P j (inr (inl q)) = absurd (no_meeting j q)
  sync_back w c base m e body P j (inr (inr (inl q))) = absurd (exp_none begins _ _ e q)
  sync_back w c base m e body P j (inr (inr (inr (inl q)))) = absurd q
  sync_back w c base m e body P j (inr (inr (inr (inr q)))) = inr q

  more_to : (w : Walk) (c : Context) (base : ℕ) (x : statement.Stmt A) (xs : statement.Stmts A) (P : LocalKey → Type 0) (j : LocalKey)
      → (P j ⊎ StmtMeets j w.next c base x) ⊎ StmtsMeet j (in_stmt a w x).next (after w.next c x) base xs → P j ⊎ StmtsMeet j w.next c base (statement.more x xs)
  unfolding in_stmt in_else in_stmts InStmt InElse InStmts
  more_to w c base x xs P j (inl (inl p)) = inl p
  more_to w c base x xs P j (inl (inr q)) = inr (inl q)
  more_to w c base x xs P j (inr q) = inr (inr (subst (λ (n : ℕ). StmtsMeet j n (after w.next c x) base xs) (stmt_next a w x) q))

  more_back : (w : Walk) (c : Context) (base : ℕ) (x : statement.Stmt A) (xs : statement.Stmts A) (P : LocalKey → Type 0) (j : LocalKey)
      → P j ⊎ StmtsMeet j w.next c base (statement.more x xs) → (P j ⊎ StmtMeets j w.next c base x) ⊎ StmtsMeet j (in_stmt a w x).next (after w.next c x) base xs
  unfolding in_stmt in_else in_stmts InStmt InElse InStmts
  more_back w c base x xs P j (inl p) = inl (inl p)
  more_back w c base x xs P j (inr (inl q)) = inl (inr q)
  more_back w c base x xs P j (inr (inr q)) = inr (subst (λ (n : ℕ). StmtsMeet j n (after w.next c x) base xs) (sym (stmt_next a w x)) q)

  mutual
    unfolding in_stmt in_else in_stmts InStmt InElse InStmts

    pub stmt_least : (P : LocalKey → Type 0) (w : Walk) (c : Context) (base : ℕ) (s : statement.Stmt A) → Beside k.member c w.scope → LeastOf k.member P w.least
        → LeastOf k.member (λ j. P j ⊎ StmtMeets j w.next c base s) (in_stmt a w s).least
    stmt_least P w c base (statement.local m f t i e) b h =
        let both = least_both k.member P (λ j. MeetsAt begins k new j w.next c (statement.local m f t i e)) w.least _ h (local_met begins k new w.next c w.scope b m f t i e) in
        least_to k.member (λ j. P j ⊎ MeetsAt begins k new j w.next c (statement.local m f t i e)) (λ j. P j ⊎ StmtMeets j w.next c base (statement.local m f t i e)) (in_stmt a w (statement.local m f t i e)).least
        (λ j q. elim q [ inl p ↦ inl p | inr x ↦ inr (inl x) ]) (λ j q. elim q [ inl p ↦ inl p | inr x ↦ inr (elim x [ inl y ↦ y | inr y ↦ absurd (exp_none begins _ _ e y) ]) ]) both
    stmt_least P w c base (statement.eval m e) b h = least_left k.member P (λ j. StmtMeets j w.next c base (statement.eval m e)) w.least (λ j q. neither (no_meeting j) (exp_none begins _ _ e) q) h
    stmt_least P w c base (statement.branch m e x other) b h =
        let v = restored w (in_stmt a w x) in
        let first = stmt_least P w c (begins m base) x b h in
        let scope : v.scope ≡ w.scope = restores w (in_stmt a w x) (stmt_grows a w x) in
        let b' = subst (λ (hs : List Held). Beside k.member c hs) (sym scope) b in
        let second = else_least (λ j. P j ⊎ StmtMeets j w.next c (begins m base) x) v c (begins m base) other b' first in
        least_to k.member (λ j. (P j ⊎ StmtMeets j w.next c (begins m base) x) ⊎ ElseMeets j v.next c (begins m base) other) (λ j. P j ⊎ StmtMeets j w.next c base (statement.branch m e x other))
        (in_stmt a w (statement.branch m e x other)).least (branch_to w c base m e x other P) (branch_back w c base m e x other P) second
    stmt_least P w c base (statement.loop m e x) b h =
        least_to k.member (λ j. P j ⊎ StmtMeets j w.next c (begins m base) x) (λ j. P j ⊎ StmtMeets j w.next c base (statement.loop m e x)) (in_stmt a w x).least
        (λ j q. elim q [ inl p ↦ inl p | inr y ↦ inr (inr (inr y)) ])
        (λ j q. elim q [ inl p ↦ inl p | inr y ↦ inr (elim y [ inl z ↦ absurd (no_meeting j z) | inr z ↦ (elim z [ inl u ↦ absurd (exp_none begins _ _ e u) | inr u ↦ u ]) ]) ])
        (stmt_least P w c (begins m base) x b h)
    stmt_least P w c base (statement.return m None) b h = least_left k.member P (λ j. StmtMeets j w.next c base (statement.return m None)) w.least (λ j q. neither (no_meeting j) (λ x. x) q) h
    stmt_least P w c base (statement.return m (Some e)) b h =
        least_left k.member P (λ j. StmtMeets j w.next c base (statement.return m (Some e))) w.least (λ j q. neither (no_meeting j) (exp_none begins _ _ e) q) h
    stmt_least P w c base (statement.block m body) b h =
        least_to k.member (λ j. P j ⊎ StmtsMeet j w.next c (begins m base) body) (λ j. P j ⊎ StmtMeets j w.next c base (statement.block m body)) (in_stmts a w body).least
        (λ j q. elim q [ inl p ↦ inl p | inr y ↦ inr (inr (inr y)) ])
        (λ j q. elim q [ inl p ↦ inl p | inr y ↦ inr (elim y [ inl z ↦ absurd (no_meeting j z) | inr z ↦ (elim z [ inl u ↦ absurd u | inr u ↦ u ]) ]) ])
        (stmts_least P w c (begins m base) body b h)
    stmt_least P w c base (statement.sync m e body) b h =
        least_to k.member (λ j. P j ⊎ StmtsMeet j w.next c (begins m base) body) (λ j. P j ⊎ StmtMeets j w.next c base (statement.sync m e body)) (in_stmts a w body).least
        (λ j q. elim q [ inl p ↦ inl p | inr y ↦ inr (inr (inr (inr y))) ]) (sync_back w c base m e body P)
        (stmts_least P w c (begins m base) body b h)
    stmt_least P w c base (statement.empty m) b h = least_left k.member P (λ j. StmtMeets j w.next c base (statement.empty m)) w.least (λ j q. no_meeting j q) h

    else_least : (P : LocalKey → Type 0) (w : Walk) (c : Context) (base : ℕ) (s : statement.Else A) → Beside k.member c w.scope → LeastOf k.member P w.least
        → LeastOf k.member (λ j. P j ⊎ ElseMeets j w.next c base s) (in_else a w s).least
    else_least P w c base statement.no_else b h = least_left k.member P (λ j. ElseMeets j w.next c base statement.no_else) w.least (λ j q. q) h
    else_least P w c base (statement.otherwise x) b h = stmt_least P w c base x b h

    pub stmts_least : (P : LocalKey → Type 0) (w : Walk) (c : Context) (base : ℕ) (s : statement.Stmts A) → Beside k.member c w.scope → LeastOf k.member P w.least
        → LeastOf k.member (λ j. P j ⊎ StmtsMeet j w.next c base s) (in_stmts a w s).least
    stmts_least P w c base statement.end b h = least_left k.member P (λ j. StmtsMeet j w.next c base statement.end) w.least (λ j q. q) h
    stmts_least P w c base (statement.more x xs) b h =
        let v = in_stmt a w x in
        let first = stmt_least P w c base x b h in
        let second = stmts_least (λ j. P j ⊎ StmtMeets j w.next c base x) v (after w.next c x) base xs (stmt_beside a k.member w c x b) first in
        least_to k.member (λ j. (P j ⊎ StmtMeets j w.next c base x) ⊎ StmtsMeet j v.next (after w.next c x) base xs) (λ j. P j ⊎ StmtsMeet j w.next c base (statement.more x xs))
        (in_stmts a v xs).least (more_to w c base x xs P) (more_back w c base x xs P) second
