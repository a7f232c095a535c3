-- Of where a search goes from a statement and from a list: its ways are ways of the whole, and a
-- search by spans goes there.
use Rattle.std.proofs.Common.{◌≡◌, ℕ, suc, ◌<◌, ◌≤◌, Bool, true, false, List, ◌∷◌, Option, Some, None, if◌then◌else◌, refl, arith}
use Rattle.jr_text.specs.declared.spans.Span.{Span}
use Rattle.jr_ast.specs.Tree as tree
use Rattle.jr_ast.specs.StatementTree as statement
use Rattle.jr_ast.specs.Marks.{exp_mark, stmt_mark}
use Rattle.jr_ast.proofs.Sizes.{stmt_size, stmts_size, else_size}
use Rattle.jr_grammar.specs.Layout.{itself}
use Rattle.jr_pieces.specs.Ways.{ExpWay, StmtWay, in_init, in_eval, in_condition, in_then, in_else, in_turning, in_body, in_returned, in_block, in_lock, in_locked, ListWay, first, later}
use Rattle.jr_pieces.specs.Standings.{Standing, inside, behind, in_other}
use Rattle.jr_pieces.specs.Nearest.{or_element, element_within, nearest}
use Rattle.jr_pieces.specs.Finding.{onto, is_behind, find_exp, find_stmt, find_list, exp_path, stmt_path, list_path}
use Rattle.jr_pieces.specs.Uses.{Use, valued, exp_use, stmt_use, list_use}
use Rattle.jr_pieces.specs.Bars.{exp_barred, stmt_barred, list_barred}
use Rattle.jr_piece_search.specs.StatementSteps.{Inward, nowhere, to_exp, to_stmt, to_list, Chosen, in_branches, behind_test, in_return, inward, choose}
use Rattle.jr_piece_search.specs.Sought.{begins}
use Rattle.jr_piece_search.proofs.Leading.{Of}

-- ---- into an expression

pub record ToExp (x : statement.Stmt Span) (i : ℕ) (u : Use) (again : Bool) (f : tree.Exp Span) (part : tree.Exp Span) (d : ExpWay f part) : Type 0 where
  pub way : StmtWay f x
  pub path : stmt_path way ≡ i ∷ exp_path d
  pub used : stmt_use way ≡ exp_use u d
  pub barred : (base : ℕ) (o : Option ℕ) → stmt_barred begins base o way ≡ exp_barred begins (stmt_mark x).from (if again then Some (stmt_mark x).from else o) d
  pub within : (p : Standing) → element_within begins p way ≡ None

-- ---- into a statement

pub record ToStmt (x : statement.Stmt Span) (i : ℕ) (f : tree.Exp Span) (part : statement.Stmt Span) (d : StmtWay f part) : Type 0 where
  pub way : StmtWay f x
  pub path : stmt_path way ≡ i ∷ stmt_path d
  pub used : stmt_use way ≡ stmt_use d
  pub barred : (base : ℕ) (o : Option ℕ) → stmt_barred begins base o way ≡ stmt_barred begins (stmt_mark x).from (Some (stmt_mark x).from) d
  pub at : Standing → Standing
  pub within : (p : Standing) → element_within begins p way ≡ element_within begins (at p) d

-- ---- into a list

pub record ToList (x : statement.Stmt Span) (i : ℕ) (f : tree.Exp Span) (b : statement.Stmts Span) (d : ListWay f b) : Type 0 where
  pub way : StmtWay f x
  pub path : stmt_path way ≡ list_path i d
  pub used : stmt_use way ≡ list_use d
  pub barred : (base : ℕ) (o : Option ℕ) → stmt_barred begins base o way ≡ list_barred begins (stmt_mark x).from o d
  pub at : Standing → Standing
  pub within : (p : Standing) → element_within begins p way ≡ Some (nearest begins (at p) d)

abbrev pub Leads : statement.Stmt Span → Inward → Type 0
Leads x nowhere = Unit {0}
Leads x (to_exp i u again e) = (f : tree.Exp Span) (d : ExpWay f e) → ToExp x i u again f e d
Leads x (to_stmt i y) = (f : tree.Exp Span) (d : StmtWay f y) → ToStmt x i f y d
Leads x (to_list i b) = (f : tree.Exp Span) (d : ListWay f b) → ToList x i f b d

either : (P : Inward → Type 0) (b : Bool) (x y : Inward) → P x → P y → P (if b then x else y)
either P true x y p q = p
either P false x y p q = q

module _ (s : Span) where
  then_leads : (m : Span) (c : tree.Exp Span) (x : statement.Stmt Span) (o : statement.Else Span) → Leads (statement.branch m c x o) (to_stmt 1 x)
  then_leads m c x o = λ f d. record { way = in_then m c x o d; path = refl; used = refl; barred = λ base z. refl; at = λ p. inside begins m p; within = λ p. refl }

  else_leads : (m : Span) (c : tree.Exp Span) (x y : statement.Stmt Span) → Leads (statement.branch m c x (statement.otherwise y)) (to_stmt 2 y)
  else_leads m c x y = λ f d. record { way = in_else m c x y d; path = refl; used = refl; barred = λ base z. refl; at = λ p. in_other begins m x p; within = λ p. refl }

  branch_leads : (m : Span) (c : tree.Exp Span) (x : statement.Stmt Span) (o : statement.Else Span) → Leads (statement.branch m c x o) (behind_test s x o)
  branch_leads m c x statement.no_else = then_leads m c x statement.no_else
  branch_leads m c x (statement.otherwise y) = either (Leads (statement.branch m c x (statement.otherwise y))) (is_behind itself s (stmt_mark x)) (to_stmt 2 y) (to_stmt 1 x) (else_leads m c x y) (then_leads m c x (statement.otherwise y))

  return_leads : (m : Span) (v : Option (tree.Exp Span)) → Leads (statement.return m v) (in_return v)
  return_leads m None = tt
  return_leads m (Some e) = λ f d. record { way = in_returned m e d; path = refl; used = refl; barred = λ base z. refl; within = λ p. refl }

  pub leads : (x : statement.Stmt Span) → Leads x (inward s x)
  leads (statement.local m is_final t w e) = λ f d. record { way = in_init m is_final t w e d; path = refl; used = refl; barred = λ base z. refl; within = λ p. refl }
  leads (statement.eval m e) = λ f d. record { way = in_eval m e d; path = refl; used = refl; barred = λ base z. refl; within = λ p. refl }
  leads (statement.branch m c x o) = either (Leads (statement.branch m c x o)) (is_behind itself s (exp_mark c)) (behind_test s x o) (to_exp 0 valued false c) (branch_leads m c x o)
      (λ f d. record { way = in_condition m c x o d; path = refl; used = refl; barred = λ base z. refl; within = λ p. refl })
  leads (statement.loop m c x) = either (Leads (statement.loop m c x)) (is_behind itself s (exp_mark c)) (to_stmt 1 x) (to_exp 0 valued true c)
      (λ f d. record { way = in_body m c x d; path = refl; used = refl; barred = λ base z. refl; at = λ p. inside begins m p; within = λ p. refl })
      (λ f d. record { way = in_turning m c x d; path = refl; used = refl; barred = λ base z. refl; within = λ p. refl })
  leads (statement.return m v) = return_leads m v
  leads (statement.block m b) = λ f d. record { way = in_block m b d; path = refl; used = refl; barred = λ base z. refl; at = λ p. inside begins m p; within = λ p. refl }
  leads (statement.sync m e b) = either (Leads (statement.sync m e b)) (is_behind itself s (exp_mark e)) (to_list 1 b) (to_exp 0 valued false e)
      (λ f d. record { way = in_locked m e b d; path = refl; used = refl; barred = λ base z. refl; at = λ p. inside begins m p; within = λ p. refl })
      (λ f d. record { way = in_lock m e b d; path = refl; used = refl; barred = λ base z. refl; within = λ p. refl })
  leads (statement.empty m) = tt

-- ---- elements of a list

pub record ToElement (b : statement.Stmts Span) (i : ℕ) (w : Chosen) (rest : statement.Stmts Span) (f : tree.Exp Span) (d : StmtWay f w.stmt) : Type 0 where
  pub way : ListWay f b
  pub path : list_path i way ≡ w.number ∷ stmt_path d
  pub used : list_use way ≡ stmt_use d
  pub barred : (base : ℕ) (o : Option ℕ) → list_barred begins base o way ≡ stmt_barred begins base o d
  pub at : Standing → Standing
  pub nearest : (p : Standing) → nearest begins p way ≡ or_element (element_within begins (at p) d) (record { at = at p; stmt = w.stmt; rest = rest; way = d })

pub record LeadsIn (b : statement.Stmts Span) (i : ℕ) (w : Chosen) : Type 0 where
  pub rest : statement.Stmts Span
  pub list : w.list ≡ statement.more w.stmt rest
  pub ways : (f : tree.Exp Span) (d : StmtWay f w.stmt) → ToElement b i w rest f d

module _ (s : Span) where
  later_leads : (x : statement.Stmt Span) (xs : statement.Stmts Span) (i : ℕ) (o : Option Chosen) → Of (LeadsIn xs (suc i)) o → Of (LeadsIn (statement.more x xs) i) o
  later_leads x xs i None h = tt
  later_leads x xs i (Some w) h = record {
    rest = h.rest;
    list = h.list;
    ways = λ f d. let r = h.ways f d in record { way = later x xs r.way; path = r.path; used = r.used; barred = r.barred; at = λ p. r.at (behind begins x p); nearest = λ p. r.nearest (behind begins x p) };
  }

  either_chosen : (P : Chosen → Type 0) (b : Bool) (x y : Option Chosen) → Of P x → Of P y → Of P (if b then x else y)
  either_chosen P true x y p q = p
  either_chosen P false x y p q = q

  pub list_leads : (b : statement.Stmts Span) (i : ℕ) → Of (LeadsIn b i) (choose s i b)
  unfolding choose
  list_leads statement.end i = tt
  list_leads (statement.more x xs) i = either_chosen (LeadsIn (statement.more x xs) i) (is_behind itself s (stmt_mark x)) (choose s (suc i) xs) (Some (record { number = i; stmt = x; list = statement.more x xs }))
      (later_leads x xs i (choose s (suc i) xs) (list_leads xs (suc i)))
      (record {
        rest = xs;
        list = refl;
        ways = λ f d. record { way = first x xs d; path = refl; used = refl; barred = λ base o. refl; at = λ p. p; nearest = λ p. refl };
      })

-- ---- a search by spans

abbrev pub follow : Span → (at : ℕ) → Inward → Option (List ℕ)
follow s at nowhere = None
follow s at (to_exp i u again e) = onto i (find_exp itself s at e)
follow s at (to_stmt i y) = onto i (find_stmt itself s at y)
follow s at (to_list i b) = find_list itself s at i b

abbrev pub follow_chosen : Span → (at : ℕ) → Option Chosen → Option (List ℕ)
follow_chosen s at None = None
follow_chosen s at (Some w) = onto w.number (find_stmt itself s at w.stmt)

module _ (s : Span) where
  apart_by : (b : Bool) (at : ℕ) (x y : Inward) (u v : Option (List ℕ)) → u ≡ follow s at x → v ≡ follow s at y → (if b then u else v) ≡ follow s at (if b then x else y)
  apart_by true at x y u v p q = p
  apart_by false at x y u v p q = q

  pub follows : (base : ℕ) (x : statement.Stmt Span) → find_stmt itself s base x ≡ follow s (stmt_mark x).from (inward s x)
  follows base (statement.local m is_final t w e) = refl
  follows base (statement.eval m e) = refl
  follows base (statement.branch m c x statement.no_else) = apart_by (is_behind itself s (exp_mark c)) m.from (to_stmt 1 x) (to_exp 0 valued false c) (onto 1 (find_stmt itself s m.from x)) (onto 0 (find_exp itself s m.from c)) refl refl
  follows base (statement.branch m c x (statement.otherwise y)) = apart_by (is_behind itself s (exp_mark c)) m.from (in_branches s x y) (to_exp 0 valued false c)
      (if is_behind itself s (stmt_mark x) then onto 2 (find_stmt itself s m.from y) else onto 1 (find_stmt itself s m.from x)) (onto 0 (find_exp itself s m.from c))
      (apart_by (is_behind itself s (stmt_mark x)) m.from (to_stmt 2 y) (to_stmt 1 x) (onto 2 (find_stmt itself s m.from y)) (onto 1 (find_stmt itself s m.from x)) refl refl) refl
  follows base (statement.loop m c x) = apart_by (is_behind itself s (exp_mark c)) m.from (to_stmt 1 x) (to_exp 0 valued true c) (onto 1 (find_stmt itself s m.from x)) (onto 0 (find_exp itself s m.from c)) refl refl
  follows base (statement.return m None) = refl
  follows base (statement.return m (Some e)) = refl
  follows base (statement.block m b) = refl
  follows base (statement.sync m e b) = apart_by (is_behind itself s (exp_mark e)) m.from (to_list 1 b) (to_exp 0 valued false e) (find_list itself s m.from 1 b) (onto 0 (find_exp itself s m.from e)) refl refl
  follows base (statement.empty m) = refl

  pub list_follows : (b : statement.Stmts Span) (at i : ℕ) → find_list itself s at i b ≡ follow_chosen s at (choose s i b)
  unfolding choose
  list_follows statement.end at i = refl
  list_follows (statement.more x xs) at i = by (is_behind itself s (stmt_mark x)) (list_follows xs at (suc i))
    where
      by : (b : Bool) → find_list itself s at (suc i) xs ≡ follow_chosen s at (choose s (suc i) xs)
          → (if b then find_list itself s at (suc i) xs else onto i (find_stmt itself s at x)) ≡ follow_chosen s at (if b then choose s (suc i) xs else Some (record { number = i; stmt = x; list = statement.more x xs }))
      by true h = h
      by false h = refl

-- ---- it is smaller

abbrev pub Falls : ℕ → Inward → Type 0
Falls n nowhere = Unit {0}
Falls n (to_exp i u again e) = Unit {0}
Falls n (to_stmt i y) = stmt_size y < n
Falls n (to_list i b) = stmts_size b < n

module _ (s : Span) where
  branch_falls : (n : ℕ) (x : statement.Stmt Span) (o : statement.Else Span) → stmt_size x < n → else_size o < n → Falls n (behind_test s x o)
  unfolding stmt_size stmts_size else_size
  branch_falls n x statement.no_else p q = p
  branch_falls n x (statement.otherwise y) p q = either (Falls n) (is_behind itself s (stmt_mark x)) (to_stmt 2 y) (to_stmt 1 x) q p

  return_falls : (n : ℕ) (v : Option (tree.Exp Span)) → Falls n (in_return v)
  return_falls n None = tt
  return_falls n (Some e) = tt

  pub falls : (x : statement.Stmt Span) → Falls (stmt_size x) (inward s x)
  unfolding stmt_size stmts_size else_size
  falls (statement.local m is_final t w e) = tt
  falls (statement.eval m e) = tt
  falls (statement.branch m c x o) = either (Falls (stmt_size (statement.branch m c x o))) (is_behind itself s (exp_mark c)) (behind_test s x o) (to_exp 0 valued false c) (branch_falls (stmt_size (statement.branch m c x o)) x o (omega arith) (omega arith)) tt
  falls (statement.loop m c x) = either (Falls (stmt_size (statement.loop m c x))) (is_behind itself s (exp_mark c)) (to_stmt 1 x) (to_exp 0 valued true c) (omega arith) tt
  falls (statement.return m v) = return_falls (stmt_size (statement.return m v)) v
  falls (statement.block m b) = omega arith
  falls (statement.sync m e b) = either (Falls (stmt_size (statement.sync m e b))) (is_behind itself s (exp_mark e)) (to_list 1 b) (to_exp 0 valued false e) (omega arith) tt
  falls (statement.empty m) = tt

  pub list_falls : (b : statement.Stmts Span) (i : ℕ) → Of (λ (w : Chosen). stmt_size w.stmt ≤ stmts_size b) (choose s i b)
  unfolding stmt_size stmts_size else_size choose
  list_falls statement.end i = tt
  list_falls (statement.more x xs) i = by (is_behind itself s (stmt_mark x)) (choose s (suc i) xs) (list_falls xs (suc i))
    where
      by : (b : Bool) (o : Option Chosen) → Of (λ (w : Chosen). stmt_size w.stmt ≤ stmts_size xs) o
          → Of (λ (w : Chosen). stmt_size w.stmt ≤ stmts_size (statement.more x xs)) (if b then o else Some (record { number = i; stmt = x; list = statement.more x xs }))
      by true None h = tt
      by true (Some w) h = omega (arith, h)
      by false o h = omega arith
