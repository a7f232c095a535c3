-- What a walk over a member finds is exactly the local or parameter whose declared name begins at
-- the byte.
use Rattle.std.proofs.Common.{◌≡◌, ℕ, suc, ◌+◌, List, [], ◌∷◌, Option, Some, None, Bool, true, false, length, refl, sym, ap, subst, inl, inr, arith}
use Rattle.std.specs.Prelude.{◌⊎◌, ◌==◌, if◌then◌else◌}
use Rattle.std.proofs.lemmas.Bool.Decides.{Decides-eqb}
use Rattle.jr_text.specs.declared.spans.Span.{Span}
use Rattle.jr_ast.specs.Tree as tree
use Rattle.jr_ast.specs.StatementTree as statement
use Rattle.jr_ast.specs.MemberTree as syntax
use Rattle.jr_table.specs.Decls.{MemberKey, Decl, local_decl}
use Rattle.jr_table.specs.Context.{Context, locals_in, locals_in_else, locals_in_row, after}
use Rattle.jr_table.specs.Somewhere.{InStmt, InElse, InStmts}
use Rattle.jr_program_laws.specs.FileParts.{begins}
use Rattle.jr_images.specs.Targets.{LocalDeclares, ParamDeclares}
use Rattle.jr_cursor.specs.declared.searches.Search.{Search}
use Rattle.jr_cursor.specs.Searches.{or_else, number_there, meet, in_params, in_stmt, in_else, in_stmts}
use Rattle.jr_cursor.proofs.Nowhere.{neither, exp_none}

-- the local of a member
abbrev pub numbered : MemberKey → ℕ → Decl
numbered k n = local_decl (record { member = k; number = n })

-- ---- one word

pub eq_is : (m n : ℕ) → (m == n) ≡ true → m ≡ n
eq_is m n e = (Decides-eqb m n).0 e

pub is_eq : (m n : ℕ) → m ≡ n → (m == n) ≡ true
is_eq m n e = (Decides-eqb m n).1 e

none_first : {X : Type 0} (a b : Option X) → or_else a b ≡ None → (a ≡ None) × (b ≡ None)
none_first None b e = (refl, e)
none_first (Some x) b e = absurd cc

some_first : {X : Type 0} (a b : Option X) (x : X) → or_else a b ≡ Some x → (a ≡ Some x) ⊎ (b ≡ Some x)
some_first None b x e = inr e
some_first (Some y) b x e = inl e

there_none : (b : Bool) (n : ℕ) → (if b then Some n else None) ≡ None → b ≡ true → ⊥
there_none true n e h = cc
there_none false n e h = cc

there_some : (b : Bool) (n k : ℕ) → (if b then Some n else None) ≡ Some k → (b ≡ true) × (n ≡ k)
there_some true n k e = (refl, cc)
there_some false n k e = absurd cc

pub word_none : (at n : ℕ) (w : tree.Word Span) → number_there at n w ≡ None → at ≡ w.mark.from → ⊥
word_none at n w e is = there_none (w.mark.from == at) n e (is_eq w.mark.from at (sym is))

pub word_some : (at n k : ℕ) (w : tree.Word Span) → number_there at n w ≡ Some k → (at ≡ w.mark.from) × (n ≡ k)
word_some at n k w e = let r = there_some (w.mark.from == at) n k e in (sym (eq_is w.mark.from at r.0), r.1)

-- ---- parameters

module _ (at : ℕ) (k : MemberKey) (base : ℕ) where
  pub params_next : (b : Search) (ps : List (syntax.Param Span)) → (in_params at b ps).next ≡ b.next + length ps
  params_next b [] = omega arith
  params_next b (p ∷ ps) = let e = params_next (meet at b p.name) ps in omega (arith, e)

  pub params_none : (b : Search) (ps : List (syntax.Param Span)) → (in_params at b ps).found ≡ None
      → (b.found ≡ None) × ((d : Decl) → ParamDeclares begins k b.next base ps at d → ⊥)
  params_none b [] e = (e, λ d h. h)
  params_none b (p ∷ ps) e =
      let r = params_none (meet at b p.name) ps e in
      let f = none_first b.found (number_there at b.next p.name) r.0 in
      (f.0, λ d h. neither (λ x. word_none at b.next p.name f.1 x.0) (r.1 d) h)

  pub params_some : (b : Search) (ps : List (syntax.Param Span)) (n : ℕ) → (in_params at b ps).found ≡ Some n
      → (b.found ≡ Some n) ⊎ ParamDeclares begins k b.next base ps at (numbered k n)
  params_some b [] n e = inl e
  params_some b (p ∷ ps) n e = by (params_some (meet at b p.name) ps n e)
    where
      word : (b.found ≡ Some n) ⊎ (number_there at b.next p.name ≡ Some n) → (b.found ≡ Some n) ⊎ ParamDeclares begins k b.next base (p ∷ ps) at (numbered k n)
      word (inl f) = inl f
      word (inr f) = let s = word_some at b.next n p.name f in inr (inl (s.0, ap (numbered k) (sym s.1)))

      by : ((meet at b p.name).found ≡ Some n) ⊎ ParamDeclares begins k (suc b.next) base ps at (numbered k n) → (b.found ≡ Some n) ⊎ ParamDeclares begins k b.next base (p ∷ ps) at (numbered k n)
      by (inl f) = word (some_first b.found (number_there at b.next p.name) n f)
      by (inr h) = inr (inr h)

-- ---- statements

after_member : (n : ℕ) (c : Context) (s : statement.Stmt Span) → (after n c s).member ≡ c.member
after_member n c (statement.local m f t w e) = refl
after_member n c (statement.eval m e) = refl
after_member n c (statement.branch m e x other) = refl
after_member n c (statement.loop m e x) = refl
after_member n c (statement.return m e) = refl
after_member n c (statement.block m body) = refl
after_member n c (statement.sync m e body) = refl
after_member n c (statement.empty m) = refl

module _ (at : ℕ) where
  -- the walk of the definition, for one declaration
  abbrev pub Stmt_has : Decl → (n : ℕ) → Context → (base : ℕ) → statement.Stmt Span → Type 0
  Stmt_has d = InStmt begins (λ c r b e. ⊥) (λ n c b s. LocalDeclares begins n c b s at d) (λ b ss. ⊥)

  abbrev pub Else_has : Decl → (n : ℕ) → Context → (base : ℕ) → statement.Else Span → Type 0
  Else_has d = InElse begins (λ c r b e. ⊥) (λ n c b s. LocalDeclares begins n c b s at d) (λ b ss. ⊥)

  abbrev pub Stmts_have : Decl → (n : ℕ) → Context → (base : ℕ) → statement.Stmts Span → Type 0
  Stmts_have d = InStmts begins (λ c r b e. ⊥) (λ n c b s. LocalDeclares begins n c b s at d) (λ b ss. ⊥)

  mutual
    unfolding in_stmt in_else in_stmts locals_in locals_in_else locals_in_row

    pub stmt_next : (b : Search) (s : statement.Stmt Span) → (in_stmt at b s).next ≡ b.next + locals_in s
    stmt_next b (statement.local m f t w e) = omega arith
    stmt_next b (statement.eval m e) = omega arith
    stmt_next b (statement.branch m e x other) = let p = stmt_next b x in let q = else_next (in_stmt at b x) other in omega (arith, p, q)
    stmt_next b (statement.loop m e x) = stmt_next b x
    stmt_next b (statement.return m e) = omega arith
    stmt_next b (statement.block m body) = stmts_next b body
    stmt_next b (statement.sync m e body) = stmts_next b body
    stmt_next b (statement.empty m) = omega arith

    else_next : (b : Search) (s : statement.Else Span) → (in_else at b s).next ≡ b.next + locals_in_else s
    else_next b statement.no_else = omega arith
    else_next b (statement.otherwise x) = stmt_next b x

    stmts_next : (b : Search) (s : statement.Stmts Span) → (in_stmts at b s).next ≡ b.next + locals_in_row s
    stmts_next b statement.end = omega arith
    stmts_next b (statement.more x xs) = let p = stmt_next b x in let q = stmts_next (in_stmt at b x) xs in omega (arith, p, q)

  mutual
    unfolding in_stmt in_else in_stmts InStmt InElse InStmts

    pub stmt_none : (b : Search) (s : statement.Stmt Span) → (in_stmt at b s).found ≡ None
        → (b.found ≡ None) × ((c : Context) (base : ℕ) (d : Decl) → Stmt_has d b.next c base s → ⊥)
    stmt_none b (statement.local m f t w e) is =
        let r = none_first b.found (number_there at b.next w) is in
        (r.0, λ c base d h. neither (λ x. word_none at b.next w r.1 x.0) (exp_none begins _ _ e) h)
    stmt_none b (statement.eval m e) is = (is, λ c base d h. neither (λ x. x) (exp_none begins _ _ e) h)
    stmt_none b (statement.branch m e x other) is =
        let r = else_none (in_stmt at b x) other is in
        let q = stmt_none b x r.0 in (
          q.0,
          λ c base d h. neither (λ y. y) (neither (exp_none begins _ _ e) (neither (q.1 c (begins m base) d) (λ y. r.1 c (begins m base) d (subst (λ (n : ℕ). Else_has d n c (begins m base) other) (sym (stmt_next b x)) y)))) h,
        )
    stmt_none b (statement.loop m e x) is =
        let q = stmt_none b x is in
        (q.0, λ c base d h. neither (λ y. y) (neither (exp_none begins _ _ e) (q.1 c (begins m base) d)) h)
    stmt_none b (statement.return m None) is = (is, λ c base d h. neither (λ x. x) (λ x. x) h)
    stmt_none b (statement.return m (Some e)) is = (is, λ c base d h. neither (λ x. x) (exp_none begins _ _ e) h)
    stmt_none b (statement.block m body) is =
        let q = stmts_none b body is in
        (q.0, λ c base d h. neither (λ y. y) (neither (λ y. y) (q.1 c (begins m base) d)) h)
    stmt_none b (statement.sync m e body) is =
        let q = stmts_none b body is in
        (q.0, λ c base d h. neither (λ y. y) (neither (exp_none begins _ _ e) (neither (λ y. y) (q.1 c (begins m base) d))) h)
    stmt_none b (statement.empty m) is = (is, λ c base d h. h)

    else_none : (b : Search) (s : statement.Else Span) → (in_else at b s).found ≡ None
        → (b.found ≡ None) × ((c : Context) (base : ℕ) (d : Decl) → Else_has d b.next c base s → ⊥)
    else_none b statement.no_else is = (is, λ c base d h. h)
    else_none b (statement.otherwise x) is = stmt_none b x is

    pub stmts_none : (b : Search) (s : statement.Stmts Span) → (in_stmts at b s).found ≡ None
        → (b.found ≡ None) × ((c : Context) (base : ℕ) (d : Decl) → Stmts_have d b.next c base s → ⊥)
    stmts_none b statement.end is = (is, λ c base d h. h)
    stmts_none b (statement.more x xs) is =
        let r = stmts_none (in_stmt at b x) xs is in
        let q = stmt_none b x r.0 in (
          q.0,
          λ c base d h. neither (q.1 c base d) (λ y. r.1 (after b.next c x) base d (subst (λ (n : ℕ). Stmts_have d n (after b.next c x) base xs) (sym (stmt_next b x)) y)) h,
        )

  -- the found one is declared there, or was found before
  abbrev Found : (before : Option ℕ) → (n : ℕ) → (Decl → Context → (base : ℕ) → Type 0) → Type 0
  Found before n Has = (before ≡ Some n) ⊎ ((c : Context) (base : ℕ) → Has (numbered c.member n) c base)

  -- the parts of a node
  local_some : (b : Search) (m : Span) (f : Bool) (t : tree.TypeName Span) (w : tree.Word Span) (e : tree.Exp Span) (n : ℕ) → (b.found ≡ Some n) ⊎ (number_there at b.next w ≡ Some n)
      → Found b.found n (λ d c base. Stmt_has d b.next c base (statement.local m f t w e))
  unfolding InStmt InElse InStmts
  local_some b m f t w e n (inl h) = inl h
  local_some b m f t w e n (inr h) = let s = word_some at b.next n w h in inr (λ c base. inl (s.0, ap (numbered c.member) (sym s.1)))

  first_some : (b : Search) (m : Span) (e : tree.Exp Span) (x : statement.Stmt Span) (other : statement.Else Span) (n : ℕ)
      → Found b.found n (λ d c base. Stmt_has d b.next c base x) → Found b.found n (λ d c base. Stmt_has d b.next c base (statement.branch m e x other))
  unfolding InStmt InElse InStmts
  first_some b m e x other n (inl h) = inl h
  first_some b m e x other n (inr h) = inr (λ c base. inr (inr (inl (h c (begins m base)))))

  branch_some : (b : Search) (m : Span) (e : tree.Exp Span) (x : statement.Stmt Span) (other : statement.Else Span) (n : ℕ)
      → ((in_stmt at b x).found ≡ Some n → Found b.found n (λ d c base. Stmt_has d b.next c base x))
      → Found (in_stmt at b x).found n (λ d c base. Else_has d (in_stmt at b x).next c base other) → Found b.found n (λ d c base. Stmt_has d b.next c base (statement.branch m e x other))
  unfolding InStmt InElse InStmts
  branch_some b m e x other n go (inl h) = first_some b m e x other n (go h)
  branch_some b m e x other n go (inr h) = inr (λ c base. inr (inr (inr (subst (λ (i : ℕ). Else_has (numbered c.member n) i c (begins m base) other) (stmt_next b x) (h c (begins m base))))))

  loop_some : (b : Search) (m : Span) (e : tree.Exp Span) (x : statement.Stmt Span) (n : ℕ)
      → Found b.found n (λ d c base. Stmt_has d b.next c base x) → Found b.found n (λ d c base. Stmt_has d b.next c base (statement.loop m e x))
  unfolding InStmt InElse InStmts
  loop_some b m e x n (inl h) = inl h
  loop_some b m e x n (inr h) = inr (λ c base. inr (inr (h c (begins m base))))

  block_some : (b : Search) (m : Span) (body : statement.Stmts Span) (n : ℕ)
      → Found b.found n (λ d c base. Stmts_have d b.next c base body) → Found b.found n (λ d c base. Stmt_has d b.next c base (statement.block m body))
  unfolding InStmt InElse InStmts
  block_some b m body n (inl h) = inl h
  block_some b m body n (inr h) = inr (λ c base. inr (inr (h c (begins m base))))

  sync_some : (b : Search) (m : Span) (e : tree.Exp Span) (body : statement.Stmts Span) (n : ℕ)
      → Found b.found n (λ d c base. Stmts_have d b.next c base body) → Found b.found n (λ d c base. Stmt_has d b.next c base (statement.sync m e body))
  unfolding InStmt InElse InStmts
  sync_some b m e body n (inl h) = inl h
  sync_some b m e body n (inr h) = inr (λ c base. inr (inr (inr (h c (begins m base)))))

  one_some : (b : Search) (x : statement.Stmt Span) (xs : statement.Stmts Span) (n : ℕ)
      → Found b.found n (λ d c base. Stmt_has d b.next c base x) → Found b.found n (λ d c base. Stmts_have d b.next c base (statement.more x xs))
  unfolding InStmt InElse InStmts
  one_some b x xs n (inl h) = inl h
  one_some b x xs n (inr h) = inr (λ c base. inl (h c base))

  behind : (b : Search) (x : statement.Stmt Span) (xs : statement.Stmts Span) (n : ℕ) (c : Context) (base : ℕ)
      → Stmts_have (numbered (after b.next c x).member n) (in_stmt at b x).next (after b.next c x) base xs
      → Stmts_have (numbered c.member n) (b.next + locals_in x) (after b.next c x) base xs
  behind b x xs n c base h =
      let k = subst (λ (k : MemberKey). Stmts_have (numbered k n) (in_stmt at b x).next (after b.next c x) base xs) (after_member b.next c x) h in
      subst (λ (i : ℕ). Stmts_have (numbered c.member n) i (after b.next c x) base xs) (stmt_next b x) k

  more_some : (b : Search) (x : statement.Stmt Span) (xs : statement.Stmts Span) (n : ℕ)
      → ((in_stmt at b x).found ≡ Some n → Found b.found n (λ d c base. Stmt_has d b.next c base x))
      → Found (in_stmt at b x).found n (λ d c base. Stmts_have d (in_stmt at b x).next c base xs) → Found b.found n (λ d c base. Stmts_have d b.next c base (statement.more x xs))
  unfolding InStmt InElse InStmts
  more_some b x xs n go (inl h) = one_some b x xs n (go h)
  more_some b x xs n go (inr h) = inr (λ c base. inr (behind b x xs n c base (h (after b.next c x) base)))

  mutual
    unfolding in_stmt in_else in_stmts InStmt InElse InStmts

    pub stmt_some : (b : Search) (s : statement.Stmt Span) (n : ℕ) → (in_stmt at b s).found ≡ Some n → Found b.found n (λ d c base. Stmt_has d b.next c base s)
    stmt_some b (statement.local m f t w e) n is = local_some b m f t w e n (some_first b.found (number_there at b.next w) n is)
    stmt_some b (statement.eval m e) n is = inl is
    stmt_some b (statement.branch m e x other) n is = branch_some b m e x other n (λ h. stmt_some b x n h) (else_some (in_stmt at b x) other n is)
    stmt_some b (statement.loop m e x) n is = loop_some b m e x n (stmt_some b x n is)
    stmt_some b (statement.return m e) n is = inl is
    stmt_some b (statement.block m body) n is = block_some b m body n (stmts_some b body n is)
    stmt_some b (statement.sync m e body) n is = sync_some b m e body n (stmts_some b body n is)
    stmt_some b (statement.empty m) n is = inl is

    else_some : (b : Search) (s : statement.Else Span) (n : ℕ) → (in_else at b s).found ≡ Some n → Found b.found n (λ d c base. Else_has d b.next c base s)
    else_some b statement.no_else n is = inl is
    else_some b (statement.otherwise x) n is = stmt_some b x n is

    pub stmts_some : (b : Search) (s : statement.Stmts Span) (n : ℕ) → (in_stmts at b s).found ≡ Some n → Found b.found n (λ d c base. Stmts_have d b.next c base s)
    stmts_some b statement.end n is = inl is
    stmts_some b (statement.more x xs) n is = more_some b x xs n (λ h. stmt_some b x n h) (stmts_some (in_stmt at b x) xs n is)
