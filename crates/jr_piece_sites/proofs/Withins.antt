-- The way of a statement to which a path leads stands in that of the piece from which it leads, behind
-- as many sites as stand in front on the path.
use Rattle.std.proofs.Common.{◌≡◌, ℕ, zero, suc, ◌+◌, Bool, true, false, List, [], ◌∷◌, length, Option, Some, None, option_map, sym, ap, subst, arith}
use Rattle.std.specs.Prelude.{option_and_then, unwrap_or}
use Rattle.std.proofs.lemmas.Option.{none-some, same_Some}
use Rattle.jr_ast.specs.Tree as tree
use Rattle.jr_ast.specs.StatementTree as statement
use Rattle.jr_ast.specs.MemberTree as declared
use Rattle.jr_runs.specs.Keys.{Keys}
use Rattle.jr_runs.specs.MemberTranslation.{is_synchronized}
use Rattle.jr_cover.specs.Ways.{Way, size, row, fork}
use Rattle.jr_cover.specs.Members.{member_way, constructor_way, super_way}
use Rattle.jr_cover.specs.Sites.{What, Site, at_place, Known, exp_way, exps_way, stmt_way, else_way, stmts_way, locked_way}
use Rattle.jr_effect.specs.Within.{Within, whole, row_first, row_second, fork_first, fork_second, turned}
use Rattle.jr_effect.specs.Within as within
use Rattle.jr_pieces.specs.Before.{lock_check}
use Rattle.jr_piece_sites.specs.Fronts.{before, stmts_front, method_body, constructor_body, exps_then_front}
use Rattle.jr_piece_sites.specs.Parts.{behind, parts_of, exp_in}
use Rattle.jr_piece_sites.specs.Pieces as piece
use Rattle.jr_piece_sites.specs.Pieces.{Piece, piece_at, nth_stmt, exps_then, in_constructor, maybe_at, method_front, constructor_front}

module _ {A : Type 0} where
  -- from a part on
  abbrev step : List ℕ → Option (Piece A) → Option (Piece A)
  step q o = option_and_then (λ c. piece_at c q) o

  -- below an expression stands no statement
  apart : (e : tree.Exp A) (z : statement.Stmt A) → Some (piece.exp e) ≡ Some (piece.stmt z) → ⊥
  apart e z k = cc

  none_there : (q : List ℕ) (z : statement.Stmt A) → ((e : tree.Exp A) → piece_at (piece.exp e) q ≡ Some (piece.stmt z) → ⊥) → (o : Option (tree.Exp A)) → step q (option_map piece.exp o) ≡ Some (piece.stmt z) → ⊥
  none_there q z on None h = none-some (piece.stmt z) h
  none_there q z on (Some e) h = on e h

  no_stmt : (q : List ℕ) (e : tree.Exp A) (z : statement.Stmt A) → piece_at (piece.exp e) q ≡ Some (piece.stmt z) → ⊥
  unfolding piece_at
  no_stmt [] e z h = apart e z h
  no_stmt (i ∷ q) e z h = none_there q z (λ f. no_stmt q f z) (exp_in (parts_of e) i) h

  below : (q : List ℕ) (z : statement.Stmt A) (o : Option (tree.Exp A)) → step q (option_map piece.exp o) ≡ Some (piece.stmt z) → ⊥
  below q z o h = none_there q z (λ f. no_stmt q f z) o h

module _ {K : Keys} {A : Type 0} (X : Known K A) (z : statement.Stmt A) where
  abbrev P : Way (Site K)
  P = stmt_way X z

  -- the path leads from the part to the statement
  abbrev Leads : List ℕ → Option (Piece A) → Type 0
  Leads q o = step q o ≡ Some (piece.stmt z)

  -- what stands in front from the part on
  abbrev onward : List ℕ → Option (Piece A) → ℕ
  onward q o = unwrap_or (option_map (λ c. before X c q) o) 0

  abbrev FromStmts : List ℕ → Type 0
  FromStmts q = (s : statement.Stmt A) → Leads q (Some (piece.stmt s)) → Within P (stmt_way X s) (before X (piece.stmt s) q)

  moved : (w : Way (Site K)) (j k : ℕ) → j ≡ k → Within P w j → Within P w k
  moved w j k e h = subst (λ (n : ℕ). Within P w n) e h

  list_within : (q : List ℕ) → FromStmts q → (b : statement.Stmts A) (i : ℕ) → Leads q (nth_stmt b i) → Within P (stmts_way X b) (stmts_front X b i + onward q (nth_stmt b i))
  list_within q from statement.end i h = absurd (none-some (piece.stmt z) h)
  list_within q from (statement.more s ss) zero h =
      let k = before X (piece.stmt s) q in
      moved (stmts_way X (statement.more s ss)) k (0 + k) (omega arith) (row_first (stmt_way X s) (stmts_way X ss) k (from s h))
  list_within q from (statement.more s ss) (suc i) h =
      let k = stmts_front X ss i in
      let r = onward q (nth_stmt ss i) in
      let n = size (stmt_way X s) in
      moved (stmts_way X (statement.more s ss)) (n + (k + r)) (n + k + r) (omega arith) (row_second (stmt_way X s) (stmts_way X ss) (k + r) (list_within q from ss i h))

  maybe_never : (q : List ℕ) (e : Option (tree.Exp A)) (i : ℕ) → Leads q (maybe_at 0 e i) → ⊥
  maybe_never q None i h = none-some (piece.stmt z) h
  maybe_never q (Some e) i h = below q z _ h

  pub stmt_within : (q : List ℕ) → FromStmts q
  unfolding piece_at before
  stmt_within [] s h = subst (λ (y : statement.Stmt A). Within P (stmt_way X y) 0) (same h) whole
    where
      back : Piece A → statement.Stmt A
      back (piece.stmt y) = y
      back (piece.member m) = z
      back (piece.exp e) = z

      same : Some (piece.stmt s) ≡ Some (piece.stmt z) → z ≡ s
      same k = ap back (sym (same_Some (piece.stmt s) (piece.stmt z) k))
  stmt_within (i ∷ q) (statement.local m f t w e) h = absurd (below q z _ h)
  stmt_within (i ∷ q) (statement.eval m e) h = absurd (below q z _ h)
  stmt_within (zero ∷ q) (statement.branch m c s o) h = absurd (no_stmt q c z h)
  stmt_within (suc zero ∷ q) (statement.branch m c s o) h =
      let k = before X (piece.stmt s) q in
      row_second (exp_way X c) (fork (stmt_way X s) (else_way X o)) k (fork_first (stmt_way X s) (else_way X o) k (stmt_within q s h))
  stmt_within (suc (suc zero) ∷ q) (statement.branch m c s statement.no_else) h = absurd (none-some (piece.stmt z) h)
  stmt_within (suc (suc zero) ∷ q) (statement.branch m c s (statement.otherwise o)) h =
      let k = before X (piece.stmt o) q in
      let a = size (exp_way X c) in
      let b = size (stmt_way X s) in
      moved (stmt_way X (statement.branch m c s (statement.otherwise o))) (a + (b + k)) (a + b + k) (omega arith) (row_second (exp_way X c) (fork (stmt_way X s) (stmt_way X o)) (b + k) (fork_second (stmt_way X s) (stmt_way X o) k (stmt_within q o h)))
  stmt_within (suc (suc (suc i)) ∷ q) (statement.branch m c s o) h = absurd (none-some (piece.stmt z) h)
  stmt_within (zero ∷ q) (statement.loop m c s) h = absurd (no_stmt q c z h)
  stmt_within (suc zero ∷ q) (statement.loop m c s) h =
      let k = before X (piece.stmt s) q in
      let a = size (exp_way X c) in
      moved (stmt_way X (statement.loop m c s)) (suc (a + k)) (suc a + k) (omega arith) (turned _ (exp_way X c) (stmt_way X s) k (stmt_within q s h))
  stmt_within (suc (suc i) ∷ q) (statement.loop m c s) h = absurd (none-some (piece.stmt z) h)
  stmt_within (i ∷ q) (statement.return m e) h = absurd (maybe_never q e i h)
  stmt_within (i ∷ q) (statement.block m b) h = list_within q (stmt_within q) b i h
  stmt_within (zero ∷ q) (statement.sync m e b) h = absurd (no_stmt q e z h)
  stmt_within (suc i ∷ q) (statement.sync m e b) h =
      let k = stmts_front X b i in
      let r = onward q (nth_stmt b i) in
      let a = size (exp_way X e) in
      let c = size (lock_check X m e) in
      moved (stmt_way X (statement.sync m e b)) (a + (c + suc (k + r))) (a + (c + (1 + k)) + r) (omega arith)
      (row_second (exp_way X e) _ (c + suc (k + r)) (row_second (lock_check X m e) _ (suc (k + r)) (within.locked _ _ (stmts_way X b) (k + r) (list_within q (stmt_within q) b i h))))
  stmt_within (i ∷ q) (statement.empty m) h = absurd (none-some (piece.stmt z) h)

  -- ---- members

  behind_never : (q : List ℕ) (k : ℕ) (f : ℕ → Option (Piece A)) → ((j : ℕ) → Leads q (f j) → ⊥) → (i : ℕ) → Leads q (behind None k f i) → ⊥
  behind_never q zero f no_way i h = no_way i h
  behind_never q (suc k) f no_way zero h = none-some (piece.stmt z) h
  behind_never q (suc k) f no_way (suc i) h = behind_never q k f no_way i h

  behind_within : (q : List ℕ) (w : Way (Site K)) (k : ℕ) (f : ℕ → Option (Piece A)) (l : ℕ → ℕ) → ((j : ℕ) → Leads q (f j) → Within P w (l j + onward q (f j))) → (i : ℕ) → Leads q (behind None k f i) → Within P w (behind 0 k l i + onward q (behind None k f i))
  behind_within q w zero f l to i h = to i h
  behind_within q w (suc k) f l to zero h = absurd (none-some (piece.stmt z) h)
  behind_within q w (suc k) f l to (suc i) h = behind_within q w k f l to i h

  method_within : (q : List ℕ) (is_locked : Bool) (p r : K.place) (b : statement.Stmts A) (j : ℕ) → Leads q (nth_stmt b j) → Within P (locked_way is_locked p r (stmts_way X b)) (method_body X is_locked b j + onward q (nth_stmt b j))
  method_within q true p r b j h =
      let k = stmts_front X b j in
      let n = onward q (nth_stmt b j) in
      moved (locked_way true p r (stmts_way X b)) (suc (k + n)) (1 + k + n) (omega arith) (within.locked _ _ (stmts_way X b) (k + n) (list_within q (stmt_within q) b j h))
  method_within q false p r b j h =
      let k = stmts_front X b j in
      let n = onward q (nth_stmt b j) in
      moved (stmts_way X b) (k + n) (0 + k + n) (omega arith) (list_within q (stmt_within q) b j h)

  -- behind arguments and the call
  args_within : (q : List ℕ) (es : tree.Exps A) (b : statement.Stmts A) (j : ℕ) → Leads q (exps_then es b j) → (k : ℕ) × Within P (stmts_way X b) k × (exps_then_front X es b j + onward q (exps_then es b j) ≡ size (exps_way X es) + (1 + k))
  args_within q tree.end b j h = (stmts_front X b j + onward q (nth_stmt b j), list_within q (stmt_within q) b j h, omega arith)
  args_within q (tree.more e es) b zero h = absurd (no_stmt q e z h)
  args_within q (tree.more e es) b (suc j) h = let r = args_within q es b j h in let n = r.2 in (r.0, r.1, omega (arith, n))

  constructor_within : (q : List ℕ) (p : K.place) (args : Option (tree.Exps A)) (b : statement.Stmts A) (j : ℕ) → Leads q (in_constructor args b j) → Within P (constructor_way X p args b) (constructor_body X args b j + onward q (in_constructor args b j))
  constructor_within q p None b j h =
      let k = stmts_front X b j in
      let n = onward q (nth_stmt b j) in
      moved (constructor_way X p None b) (0 + 1 + (k + n)) (suc k + n) (omega arith) (row_second (row (super_way X None) (at_place p What.calls)) (stmts_way X b) (k + n) (list_within q (stmt_within q) b j h))
  constructor_within q p (Some es) b j h =
      let r = args_within q es b j h in
      let n = r.2 in
      moved (constructor_way X p (Some es) b) (size (exps_way X es) + 1 + r.0) (exps_then_front X es b j + onward q (exps_then es b j)) (omega (arith, n)) (row_second (row (super_way X (Some es)) (at_place p What.calls)) (stmts_way X b) r.0 r.1)

  pub member_within : (q : List ℕ) (field : A → K.field) (called : A → K.place) (m : declared.Member A) → piece_at (piece.member m) q ≡ Some (piece.stmt z) → Within P (member_way X field called m) (before X (piece.member m) q)
  unfolding piece_at before
  member_within [] field called m h = absurd (apart h)
    where
      apart : Some (piece.member m) ≡ Some (piece.stmt z) → ⊥
      apart k = cc
  member_within (i ∷ q) field called (declared.field m mods t w init) h =
      absurd (behind_never q (suc (suc (length mods))) (maybe_at 0 init) (λ j k. maybe_never q init j k) i h)
  member_within (i ∷ q) field called (declared.method m mods t w ps body) h =
      behind_within q (member_way X field called (declared.method m mods t w ps body)) (method_front mods t ps) (nth_stmt body) (method_body X (is_synchronized mods) body)
      (method_within q (is_synchronized mods) (X.facts.first w.mark) (X.facts.last m) body) i h
  member_within (i ∷ q) field called (declared.constructor m mods w ps args body) h =
      behind_within q (member_way X field called (declared.constructor m mods w ps args body)) (constructor_front mods ps) (in_constructor args body) (constructor_body X args body) (constructor_within q (called m) args body) i h
  member_within (i ∷ q) field called (declared.inner m c) h = absurd (none-some (piece.stmt z) h)
