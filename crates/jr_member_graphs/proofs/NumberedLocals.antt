-- The initializers of a member's locals stand in the order of their numbers.
use Rattle.std.proofs.Common.{◌≡◌, ℕ, zero, suc, ◌+◌, ◌<◌, List, [], ◌∷◌, ◌++◌, map, length, Some, None, refl, sym, ap, ◌∙◌, inl, inr, ⊎_elim, length-append, arith}
use Rattle.std.specs.Prelude.{slice_get, unwrap_or}
use Rattle.jr_ast.specs.Tree as tree
use Rattle.jr_ast.specs.StatementTree as statement
use Rattle.jr_ast.specs.MemberTree as declared
use Rattle.jr_runs.specs.Keys.{Keys}
use Rattle.jr_table.specs.Context.{locals_in, locals_in_else, locals_in_row}
use Rattle.jr_cover.specs.Facts.{Facts}
use Rattle.jr_cover.specs.NeverNullMembers.{StmtDeclares, ElseDeclares, StmtsDeclare}
use Rattle.jr_cover.specs.Spots.{Spot, onto, spot_params, spot_stmt, spot_else, spot_stmts}
use Rattle.jr_cfg.specs.Numbering.{NumbersStmt, NumbersElse, NumbersStmts}
use Rattle.jr_never_null.specs.Flags.{init_of}
use Rattle.jr_member_graphs.specs.MemberLocals.{stmt_inits, else_inits, stmts_inits, body_inits}

-- ---- lists

not_there : {X : Type 0} (x : X) → None ≡ Some x → ⊥
not_there x e = cc

in_front : {X : Type 0} (xs ys : List X) (n : ℕ) (x : X) → slice_get xs n ≡ Some x → slice_get (xs ++ ys) n ≡ Some x
in_front [] ys n x e = absurd (not_there x e)
in_front (z ∷ xs) ys zero x e = e
in_front (z ∷ xs) ys (suc n) x e = in_front xs ys n x e

further : (k n : ℕ) → suc k + n ≡ suc (k + n)
further k n = omega arith

behind : {X : Type 0} (xs ys : List X) (n : ℕ) → slice_get (xs ++ ys) (length xs + n) ≡ slice_get ys n
behind [] ys n = ap (slice_get ys) (omega arith)
behind (z ∷ xs) ys n = ap (slice_get (z ∷ (xs ++ ys))) (further (length xs) n) ∙ behind xs ys n

-- ---- statements

module _ {A : Type 0} (begins ends : A → ℕ → ℕ) where
  mutual
    unfolding spot_stmt spot_else spot_stmts stmt_inits else_inits stmts_inits locals_in locals_in_else locals_in_row

    stmt_count : (s : statement.Stmt A) (base : ℕ) (p : List ℕ) → length (stmt_inits (spot_stmt begins ends s base p)) ≡ locals_in s
    stmt_count (statement.local m f t w e) base p = refl
    stmt_count (statement.eval m e) base p = refl
    stmt_count (statement.branch m c s other) base p =
        length-append (stmt_inits (spot_stmt begins ends s (begins m base) (onto p 1))) (else_inits (spot_else begins ends other (begins m base) (onto p 2)))
        ∙ (λ i. stmt_count s (begins m base) (onto p 1) i + else_count other (begins m base) (onto p 2) i)
    stmt_count (statement.loop m c s) base p = stmt_count s (begins m base) (onto p 1)
    stmt_count (statement.«return» m v) base p = refl
    stmt_count (statement.block m body) base p = stmts_count body (begins m base) p 0
    stmt_count (statement.sync m e body) base p = stmts_count body (begins m base) p 1
    stmt_count (statement.empty m) base p = refl

    else_count : (other : statement.Else A) (at : ℕ) (p : List ℕ) → length (else_inits (spot_else begins ends other at p)) ≡ locals_in_else other
    else_count statement.no_else at p = refl
    else_count (statement.otherwise s) at p = stmt_count s at p

    stmts_count : (ss : statement.Stmts A) (at : ℕ) (p : List ℕ) (i : ℕ) → length (stmts_inits (spot_stmts begins ends ss at p i)) ≡ locals_in_row ss
    stmts_count statement.end at p i = refl
    stmts_count (statement.more s ss) at p i =
        length-append (stmt_inits (spot_stmt begins ends s at (onto p i))) (stmts_inits (spot_stmts begins ends ss at p (suc i))) ∙ (λ j. stmt_count s at (onto p i) j + stmts_count ss at p (suc i) j)

  module _ {K : Keys} (F : Facts K Spot) (k : ℕ) (x : tree.Exp Spot) where
    -- the local k begins with it, where numbers count from n
    record At (n : ℕ) (es : List (tree.Exp Spot)) : Type 0 where
      index : ℕ
      number : k ≡ n + index
      there : slice_get es index ≡ Some x

    first_at : (n : ℕ) (xs ys : List (tree.Exp Spot)) → At n xs → At n (xs ++ ys)
    first_at n xs ys h = record { index = h.index; number = h.number; there = in_front xs ys h.index x h.there }

    second_at : (n c : ℕ) (xs ys : List (tree.Exp Spot)) → length xs ≡ c → At (n + c) ys → At n (xs ++ ys)
    second_at n c xs ys size h =
        let number = h.number in
        record { index = length xs + h.index; number = omega (arith, number, size); there = behind xs ys h.index ∙ h.there }

    mutual
      unfolding spot_stmt spot_else spot_stmts stmt_inits else_inits stmts_inits NumbersStmt NumbersElse NumbersStmts

      stmt_at : (n : ℕ) (s : statement.Stmt A) (base : ℕ) (p : List ℕ) → NumbersStmt begins ends F.number n s base p → StmtDeclares F k x (spot_stmt begins ends s base p) → At n (stmt_inits (spot_stmt begins ends s base p))
      stmt_at n (statement.local m f t w e) base p numbers h = let number = sym h.0 ∙ numbers in record { index = 0; number = omega (arith, number); there = ap Some h.1 }
      stmt_at n (statement.eval m e) base p numbers h = absurd h
      stmt_at n (statement.branch m c s other) base p numbers h =
          let at = begins m base in
          let xs = stmt_inits (spot_stmt begins ends s at (onto p 1)) in
          let ys = else_inits (spot_else begins ends other at (onto p 2)) in
          ⊎_elim (λ q. first_at n xs ys (stmt_at n s at (onto p 1) numbers.0 q)) (λ q. second_at n (locals_in s) xs ys (stmt_count s at (onto p 1)) (else_at (n + locals_in s) other at (onto p 2) numbers.1 q)) h
      stmt_at n (statement.loop m c s) base p numbers h = stmt_at n s (begins m base) (onto p 1) numbers h
      stmt_at n (statement.«return» m v) base p numbers h = absurd h
      stmt_at n (statement.block m body) base p numbers h = stmts_at n body (begins m base) p 0 numbers h
      stmt_at n (statement.sync m e body) base p numbers h = stmts_at n body (begins m base) p 1 numbers h
      stmt_at n (statement.empty m) base p numbers h = absurd h

      else_at : (n : ℕ) (other : statement.Else A) (at : ℕ) (p : List ℕ) → NumbersElse begins ends F.number n other at p → ElseDeclares F k x (spot_else begins ends other at p) → At n (else_inits (spot_else begins ends other at p))
      else_at n statement.no_else at p numbers h = absurd h
      else_at n (statement.otherwise s) at p numbers h = stmt_at n s at p numbers h

      stmts_at : (n : ℕ) (ss : statement.Stmts A) (at : ℕ) (p : List ℕ) (i : ℕ) → NumbersStmts begins ends F.number n ss at p i → StmtsDeclare F k x (spot_stmts begins ends ss at p i) → At n (stmts_inits (spot_stmts begins ends ss at p i))
      stmts_at n statement.end at p i numbers h = absurd h
      stmts_at n (statement.more s ss) at p i numbers (inl q) = first_at n (stmt_inits (spot_stmt begins ends s at (onto p i))) (stmts_inits (spot_stmts begins ends ss at p (suc i))) (stmt_at n s at (onto p i) numbers.0 q)
      stmts_at n (statement.more s ss) at p i numbers (inr q) =
          second_at n (locals_in s) (stmt_inits (spot_stmt begins ends s at (onto p i))) (stmts_inits (spot_stmts begins ends ss at p (suc i))) (stmt_count s at (onto p i)) (stmts_at (n + locals_in s) ss at p (suc i) numbers.1 q)

-- ---- members

module _ {A : Type 0} where
  nones : {X : Type 0} (xs : List X) (es : List (tree.Exp A)) (n : ℕ) → n < length xs → slice_get (map (λ p. None) xs ++ map (λ e. Some e) es) n ≡ Some None
  nones [] es n lt = absurd (omega arith)
  nones (x ∷ xs) es zero lt = refl
  nones (x ∷ xs) es (suc n) lt = nones xs es n (omega arith)

  mapped : (es : List (tree.Exp A)) (n : ℕ) (e : tree.Exp A) → slice_get es n ≡ Some e → slice_get (map (λ x. Some x) es) n ≡ Some (Some e)
  mapped [] n e h = absurd (not_there e h)
  mapped (z ∷ es) zero e h = ap Some h
  mapped (z ∷ es) (suc n) e h = mapped es n e h

  somes : {X : Type 0} (xs : List X) (es : List (tree.Exp A)) (n : ℕ) (e : tree.Exp A) → slice_get es n ≡ Some e → slice_get (map (λ p. None) xs ++ map (λ x. Some x) es) (length xs + n) ≡ Some (Some e)
  somes [] es n e h = ap (slice_get (map (λ x. Some x) es)) (omega arith) ∙ mapped es n e h
  somes (x ∷ xs) es n e h = ap (slice_get (None ∷ (map (λ p. None) xs ++ map (λ y. Some y) es))) (further (length xs) n) ∙ somes xs es n e h

  pub of_parameter : (params : List (declared.Param A)) (body : statement.Stmts A) (n : ℕ) → n < length params → init_of (body_inits params body) n ≡ None
  of_parameter params body n lt = ap (λ o. unwrap_or o None) (nones params (stmts_inits body) n lt)

pub params_length : {A : Type 0} (begins ends : A → ℕ → ℕ) (ps : List (declared.Param A)) (base : ℕ) (p : List ℕ) (i : ℕ) → length (spot_params begins ends ps base p i) ≡ length ps
params_length begins ends [] base p i = refl
params_length begins ends (a ∷ ps) base p i = ap suc (params_length begins ends ps base p (suc i))

-- what a declared local of a body begins with
pub of_local : {A : Type 0} (begins ends : A → ℕ → ℕ) {K : Keys} (F : Facts K Spot) (ps : List (declared.Param Spot)) (count : ℕ) (body : statement.Stmts A) (at : ℕ) (p : List ℕ) (i : ℕ) → length ps ≡ count → NumbersStmts begins ends F.number count body at p i
    → (k : ℕ) (e : tree.Exp Spot) → StmtsDeclare F k e (spot_stmts begins ends body at p i) → init_of (body_inits ps (spot_stmts begins ends body at p i)) k ≡ Some e
of_local begins ends F ps count body at p i size numbers k e h =
    let a = stmts_at begins ends F k e count body at p i numbers h in
    let number = a.number in
    let is : k ≡ length ps + a.index = omega (arith, number, size) in
    ap (init_of (body_inits ps (spot_stmts begins ends body at p i))) is ∙ ap (λ o. unwrap_or o None) (somes ps (stmts_inits (spot_stmts begins ends body at p i)) a.index e a.there)
