-- A way is found again by its path: by the number of each child through which it goes.
use Rattle.std.proofs.Common.{◌≡◌, ℕ, zero, suc, ◌+◌, List, [], ◌∷◌, Option, Some, None, refl, sym, ap, ◌∙◌, arith}
use Rattle.jr_ast.specs.Tree as tree
use Rattle.jr_ast.specs.StatementTree as statement
use Rattle.jr_pieces.specs.Ways.{ExpWay, here, in_front, in_target, in_argument, in_super_argument, in_created, in_paren, in_cast, in_unary, in_bump, in_left, in_right, in_assigned, in_value, in_changed, in_change, ExpsWay, first_argument, later_argument, StmtWay, in_init, in_eval, in_condition, in_then, in_else, in_turning, in_body, in_returned, in_block, in_lock, in_locked, ListWay, first, later}
use Rattle.jr_pieces.specs.Finding.{exp_path, exps_path, stmt_path, list_path, list_end}
use Rattle.jr_pieces.specs.Nesting.{SpansTellWays}
use Rattle.jr_told_ways.specs.Told.{In, PathsTellWays, OneWayHasASpan}

module _ {A : Type 0} where
  -- what a way leads to, with the way; one way on
  abbrev Found : (tree.Exp A → Type 0) → Type 0
  Found V = Option (In V)

  abbrev on : (V W : tree.Exp A → Type 0) → ((f : tree.Exp A) → V f → W f) → Found V → Found W
  on V W k None = None
  on V W k (Some x) = Some (record { value = x.value; way = k x.value x.way })

  abbrev OfExp : tree.Exp A → tree.Exp A → Type 0
  OfExp e f = ExpWay f e

  abbrev OfRow : tree.Exps A → tree.Exp A → Type 0
  OfRow es f = ExpsWay f es

  abbrev OfStmt : statement.Stmt A → tree.Exp A → Type 0
  OfStmt s f = StmtWay f s

  abbrev OfList : statement.Stmts A → tree.Exp A → Type 0
  OfList b f = ListWay f b

  -- ---- by a path

  abbrev mutual
    exp_at : List ℕ → (e : tree.Exp A) → Found (OfExp e)
    exp_at [] e = Some (record { value = e; way = here })
    exp_at (i ∷ is) (tree.number m n) = None
    exp_at (i ∷ is) (tree.truth m b) = None
    exp_at (i ∷ is) (tree.null m) = None
    exp_at (i ∷ is) (tree.string m t) = None
    exp_at (i ∷ is) (tree.name m w) = None
    exp_at (i ∷ is) (tree.super_field m w) = None
    exp_at (i ∷ is) (tree.this m) = None
    exp_at (i ∷ is) (tree.class_literal m t) = None
    exp_at (i ∷ is) (tree.field m e w) = on (OfExp e) (OfExp (tree.field m e w)) (λ f d. in_front m e w d) (exp_at is e)
    exp_at (zero ∷ is) (tree.call m tree.no_target w es) = None
    exp_at (suc k ∷ is) (tree.call m tree.no_target w es) = on (OfRow es) (OfExp (tree.call m tree.no_target w es)) (λ f d. in_argument m tree.no_target w es d) (row_at k is es)
    exp_at (zero ∷ is) (tree.call m (tree.on e) w es) = on (OfExp e) (OfExp (tree.call m (tree.on e) w es)) (λ f d. in_target m e w es d) (exp_at is e)
    exp_at (suc zero ∷ is) (tree.call m (tree.on e) w es) = None
    exp_at (suc (suc k) ∷ is) (tree.call m (tree.on e) w es) = on (OfRow es) (OfExp (tree.call m (tree.on e) w es)) (λ f d. in_argument m (tree.on e) w es d) (row_at k is es)
    exp_at (zero ∷ is) (tree.super_call m w es) = None
    exp_at (suc k ∷ is) (tree.super_call m w es) = on (OfRow es) (OfExp (tree.super_call m w es)) (λ f d. in_super_argument m w es d) (row_at k is es)
    exp_at (zero ∷ is) (tree.create m t es) = None
    exp_at (suc k ∷ is) (tree.create m t es) = on (OfRow es) (OfExp (tree.create m t es)) (λ f d. in_created m t es d) (row_at k is es)
    exp_at (i ∷ is) (tree.paren m e) = on (OfExp e) (OfExp (tree.paren m e)) (λ f d. in_paren m e d) (exp_at is e)
    exp_at (i ∷ is) (tree.cast m t e) = on (OfExp e) (OfExp (tree.cast m t e)) (λ f d. in_cast m t e d) (exp_at is e)
    exp_at (i ∷ is) (tree.unary m o e) = on (OfExp e) (OfExp (tree.unary m o e)) (λ f d. in_unary m o e d) (exp_at is e)
    exp_at (i ∷ is) (tree.bump m o e) = on (OfExp e) (OfExp (tree.bump m o e)) (λ f d. in_bump m o e d) (exp_at is e)
    exp_at (zero ∷ is) (tree.binary m o l r) = on (OfExp l) (OfExp (tree.binary m o l r)) (λ f d. in_left m o l r d) (exp_at is l)
    exp_at (suc k ∷ is) (tree.binary m o l r) = on (OfExp r) (OfExp (tree.binary m o l r)) (λ f d. in_right m o l r d) (exp_at is r)
    exp_at (zero ∷ is) (tree.assign m l r) = on (OfExp l) (OfExp (tree.assign m l r)) (λ f d. in_assigned m l r d) (exp_at is l)
    exp_at (suc k ∷ is) (tree.assign m l r) = on (OfExp r) (OfExp (tree.assign m l r)) (λ f d. in_value m l r d) (exp_at is r)
    exp_at (zero ∷ is) (tree.compound m o l r) = on (OfExp l) (OfExp (tree.compound m o l r)) (λ f d. in_changed m o l r d) (exp_at is l)
    exp_at (suc k ∷ is) (tree.compound m o l r) = on (OfExp r) (OfExp (tree.compound m o l r)) (λ f d. in_change m o l r d) (exp_at is r)

    -- the argument of the number
    row_at : ℕ → List ℕ → (es : tree.Exps A) → Found (OfRow es)
    row_at n is tree.end = None
    row_at zero is (tree.more e es) = on (OfExp e) (OfRow (tree.more e es)) (λ f d. first_argument e es d) (exp_at is e)
    row_at (suc n) is (tree.more e es) = on (OfRow es) (OfRow (tree.more e es)) (λ f d. later_argument e es d) (row_at n is es)

  abbrev mutual
    stmt_at : List ℕ → (s : statement.Stmt A) → Found (OfStmt s)
    stmt_at [] s = None
    stmt_at (i ∷ is) (statement.local m b t w e) = on (OfExp e) (OfStmt (statement.local m b t w e)) (λ f d. in_init m b t w e d) (exp_at is e)
    stmt_at (i ∷ is) (statement.eval m e) = on (OfExp e) (OfStmt (statement.eval m e)) (λ f d. in_eval m e d) (exp_at is e)
    stmt_at (zero ∷ is) (statement.branch m c s o) = on (OfExp c) (OfStmt (statement.branch m c s o)) (λ f d. in_condition m c s o d) (exp_at is c)
    stmt_at (suc zero ∷ is) (statement.branch m c s o) = on (OfStmt s) (OfStmt (statement.branch m c s o)) (λ f d. in_then m c s o d) (stmt_at is s)
    stmt_at (suc (suc k) ∷ is) (statement.branch m c s statement.no_else) = None
    stmt_at (suc (suc k) ∷ is) (statement.branch m c s (statement.otherwise o)) = on (OfStmt o) (OfStmt (statement.branch m c s (statement.otherwise o))) (λ f d. in_else m c s o d) (stmt_at is o)
    stmt_at (zero ∷ is) (statement.loop m c s) = on (OfExp c) (OfStmt (statement.loop m c s)) (λ f d. in_turning m c s d) (exp_at is c)
    stmt_at (suc k ∷ is) (statement.loop m c s) = on (OfStmt s) (OfStmt (statement.loop m c s)) (λ f d. in_body m c s d) (stmt_at is s)
    stmt_at (i ∷ is) (statement.return m None) = None
    stmt_at (i ∷ is) (statement.return m (Some e)) = on (OfExp e) (OfStmt (statement.return m (Some e))) (λ f d. in_returned m e d) (exp_at is e)
    stmt_at (i ∷ is) (statement.block m b) = on (OfList b) (OfStmt (statement.block m b)) (λ f d. in_block m b d) (list_at i is b)
    stmt_at (zero ∷ is) (statement.sync m e b) = on (OfExp e) (OfStmt (statement.sync m e b)) (λ f d. in_lock m e b d) (exp_at is e)
    stmt_at (suc k ∷ is) (statement.sync m e b) = on (OfList b) (OfStmt (statement.sync m e b)) (λ f d. in_locked m e b d) (list_at k is b)
    stmt_at (i ∷ is) (statement.empty m) = None

    -- the statement of the number
    list_at : ℕ → List ℕ → (b : statement.Stmts A) → Found (OfList b)
    list_at n is statement.end = None
    list_at zero is (statement.more s ss) = on (OfStmt s) (OfList (statement.more s ss)) (λ f d. first s ss d) (stmt_at is s)
    list_at (suc n) is (statement.more s ss) = on (OfList ss) (OfList (statement.more s ss)) (λ f d. later s ss d) (list_at n is ss)

  -- ---- the number of a part of a row, or of a list, and the path behind it

  module _ {f : tree.Exp A} where
    abbrev row_number : {es : tree.Exps A} → ExpsWay f es → ℕ
    row_number (first_argument e es d) = 0
    row_number (later_argument e es d) = suc (row_number d)

    abbrev row_rest : {es : tree.Exps A} → ExpsWay f es → List ℕ
    row_rest (first_argument e es d) = exp_path d
    row_rest (later_argument e es d) = row_rest d

    abbrev list_number : {b : statement.Stmts A} → ListWay f b → ℕ
    list_number (first s ss d) = 0
    list_number (later s ss d) = suc (list_number d)

    abbrev list_rest : {b : statement.Stmts A} → ListWay f b → List ℕ
    list_rest (first s ss d) = stmt_path d
    list_rest (later s ss d) = list_rest d

    row_path_is : (i : ℕ) {es : tree.Exps A} (d : ExpsWay f es) → exps_path i d ≡ (i + row_number d) ∷ row_rest d
    row_path_is i (first_argument e es d) = ap (λ n. n ∷ exp_path d) (let none : i ≡ i + 0 = omega arith in none)
    row_path_is i (later_argument e es d) = row_path_is (suc i) d ∙ ap (λ n. n ∷ row_rest d) (let moved : suc i + row_number d ≡ i + suc (row_number d) = omega arith in moved)

    list_path_is : (i : ℕ) {b : statement.Stmts A} (d : ListWay f b) → list_path i d ≡ (i + list_number d) ∷ list_rest d
    list_path_is i (first s ss d) = ap (λ n. n ∷ stmt_path d) (let none : i ≡ i + 0 = omega arith in none)
    list_path_is i (later s ss d) = list_path_is (suc i) d ∙ ap (λ n. n ∷ list_rest d) (let moved : suc i + list_number d ≡ i + suc (list_number d) = omega arith in moved)

    row_from_one : {es : tree.Exps A} (d : ExpsWay f es) → exps_path 1 d ≡ suc (row_number d) ∷ row_rest d
    row_from_one d = row_path_is 1 d ∙ ap (λ n. n ∷ row_rest d) (let one : 1 + row_number d ≡ suc (row_number d) = omega arith in one)

    row_from_two : {es : tree.Exps A} (d : ExpsWay f es) → exps_path 2 d ≡ suc (suc (row_number d)) ∷ row_rest d
    row_from_two d = row_path_is 2 d ∙ ap (λ n. n ∷ row_rest d) (let two : 2 + row_number d ≡ suc (suc (row_number d)) = omega arith in two)

    list_from_none : {b : statement.Stmts A} (d : ListWay f b) → list_path 0 d ≡ list_number d ∷ list_rest d
    list_from_none d = list_path_is 0 d ∙ ap (λ n. n ∷ list_rest d) (let none : 0 + list_number d ≡ list_number d = omega arith in none)

    list_from_one : {b : statement.Stmts A} (d : ListWay f b) → list_path 1 d ≡ suc (list_number d) ∷ list_rest d
    list_from_one d = list_path_is 1 d ∙ ap (λ n. n ∷ list_rest d) (let one : 1 + list_number d ≡ suc (list_number d) = omega arith in one)

    -- ---- it is found again

    mutual
      exp_again : {e : tree.Exp A} (d : ExpWay f e) → exp_at (exp_path d) e ≡ Some (record { value = f; way = d })
      exp_again here = refl
      exp_again (in_front m e w d) = ap (on (OfExp e) (OfExp (tree.field m e w)) (λ g x. in_front m e w x)) (exp_again d)
      exp_again (in_target m e w es d) = ap (on (OfExp e) (OfExp (tree.call m (tree.on e) w es)) (λ g x. in_target m e w es x)) (exp_again d)
      exp_again (in_argument m tree.no_target w es d) = ap (λ p. exp_at p (tree.call m tree.no_target w es)) (row_from_one d) ∙ ap (on (OfRow es) (OfExp (tree.call m tree.no_target w es)) (λ g x. in_argument m tree.no_target w es x)) (row_again d)
      exp_again (in_argument m (tree.on e) w es d) = ap (λ p. exp_at p (tree.call m (tree.on e) w es)) (row_from_two d) ∙ ap (on (OfRow es) (OfExp (tree.call m (tree.on e) w es)) (λ g x. in_argument m (tree.on e) w es x)) (row_again d)
      exp_again (in_super_argument m w es d) = ap (λ p. exp_at p (tree.super_call m w es)) (row_from_one d) ∙ ap (on (OfRow es) (OfExp (tree.super_call m w es)) (λ g x. in_super_argument m w es x)) (row_again d)
      exp_again (in_created m t es d) = ap (λ p. exp_at p (tree.create m t es)) (row_from_one d) ∙ ap (on (OfRow es) (OfExp (tree.create m t es)) (λ g x. in_created m t es x)) (row_again d)
      exp_again (in_paren m e d) = ap (on (OfExp e) (OfExp (tree.paren m e)) (λ g x. in_paren m e x)) (exp_again d)
      exp_again (in_cast m t e d) = ap (on (OfExp e) (OfExp (tree.cast m t e)) (λ g x. in_cast m t e x)) (exp_again d)
      exp_again (in_unary m o e d) = ap (on (OfExp e) (OfExp (tree.unary m o e)) (λ g x. in_unary m o e x)) (exp_again d)
      exp_again (in_bump m o e d) = ap (on (OfExp e) (OfExp (tree.bump m o e)) (λ g x. in_bump m o e x)) (exp_again d)
      exp_again (in_left m o l r d) = ap (on (OfExp l) (OfExp (tree.binary m o l r)) (λ g x. in_left m o l r x)) (exp_again d)
      exp_again (in_right m o l r d) = ap (on (OfExp r) (OfExp (tree.binary m o l r)) (λ g x. in_right m o l r x)) (exp_again d)
      exp_again (in_assigned m l r d) = ap (on (OfExp l) (OfExp (tree.assign m l r)) (λ g x. in_assigned m l r x)) (exp_again d)
      exp_again (in_value m l r d) = ap (on (OfExp r) (OfExp (tree.assign m l r)) (λ g x. in_value m l r x)) (exp_again d)
      exp_again (in_changed m o l r d) = ap (on (OfExp l) (OfExp (tree.compound m o l r)) (λ g x. in_changed m o l r x)) (exp_again d)
      exp_again (in_change m o l r d) = ap (on (OfExp r) (OfExp (tree.compound m o l r)) (λ g x. in_change m o l r x)) (exp_again d)

      row_again : {es : tree.Exps A} (d : ExpsWay f es) → row_at (row_number d) (row_rest d) es ≡ Some (record { value = f; way = d })
      row_again (first_argument e es d) = ap (on (OfExp e) (OfRow (tree.more e es)) (λ g x. first_argument e es x)) (exp_again d)
      row_again (later_argument e es d) = ap (on (OfRow es) (OfRow (tree.more e es)) (λ g x. later_argument e es x)) (row_again d)

    mutual
      stmt_again : {s : statement.Stmt A} (d : StmtWay f s) → stmt_at (stmt_path d) s ≡ Some (record { value = f; way = d })
      stmt_again (in_init m b t w e d) = ap (on (OfExp e) (OfStmt (statement.local m b t w e)) (λ g x. in_init m b t w e x)) (exp_again d)
      stmt_again (in_eval m e d) = ap (on (OfExp e) (OfStmt (statement.eval m e)) (λ g x. in_eval m e x)) (exp_again d)
      stmt_again (in_condition m c s o d) = ap (on (OfExp c) (OfStmt (statement.branch m c s o)) (λ g x. in_condition m c s o x)) (exp_again d)
      stmt_again (in_then m c s o d) = ap (on (OfStmt s) (OfStmt (statement.branch m c s o)) (λ g x. in_then m c s o x)) (stmt_again d)
      stmt_again (in_else m c s o d) = ap (on (OfStmt o) (OfStmt (statement.branch m c s (statement.otherwise o))) (λ g x. in_else m c s o x)) (stmt_again d)
      stmt_again (in_turning m c s d) = ap (on (OfExp c) (OfStmt (statement.loop m c s)) (λ g x. in_turning m c s x)) (exp_again d)
      stmt_again (in_body m c s d) = ap (on (OfStmt s) (OfStmt (statement.loop m c s)) (λ g x. in_body m c s x)) (stmt_again d)
      stmt_again (in_returned m e d) = ap (on (OfExp e) (OfStmt (statement.return m (Some e))) (λ g x. in_returned m e x)) (exp_again d)
      stmt_again (in_block m b d) = ap (λ p. stmt_at p (statement.block m b)) (list_from_none d) ∙ ap (on (OfList b) (OfStmt (statement.block m b)) (λ g x. in_block m b x)) (list_again d)
      stmt_again (in_lock m e b d) = ap (on (OfExp e) (OfStmt (statement.sync m e b)) (λ g x. in_lock m e b x)) (exp_again d)
      stmt_again (in_locked m e b d) = ap (λ p. stmt_at p (statement.sync m e b)) (list_from_one d) ∙ ap (on (OfList b) (OfStmt (statement.sync m e b)) (λ g x. in_locked m e b x)) (list_again d)

      list_again : {b : statement.Stmts A} (d : ListWay f b) → list_at (list_number d) (list_rest d) b ≡ Some (record { value = f; way = d })
      list_again (first s ss d) = ap (on (OfStmt s) (OfList (statement.more s ss)) (λ g x. first s ss x)) (stmt_again d)
      list_again (later s ss d) = ap (on (OfList ss) (OfList (statement.more s ss)) (λ g x. later s ss x)) (list_again d)

-- ---- so the path tells it

same_head : (x y : ℕ) (xs ys : List ℕ) → x ∷ xs ≡ y ∷ ys → x ≡ y
same_head x y xs ys e = cc

same_tail : (x y : ℕ) (xs ys : List ℕ) → x ∷ xs ≡ y ∷ ys → xs ≡ ys
same_tail x y xs ys e = cc

same_found : {T : Type 0} (x y : T) → (let a : Option T = Some x in a ≡ Some y) → x ≡ y
same_found x y e = cc

pub paths_tell : {A : Type 0} → PathsTellWays A
paths_tell {A} b i f g d e is =
    let whole : (i + list_number d) ∷ list_rest d ≡ (i + list_number e) ∷ list_rest e = sym (list_path_is i d) ∙ is ∙ list_path_is i e in
    let number : list_number d ≡ list_number e = cancelled i (list_number d) (list_number e) (same_head _ _ _ _ whole) in
    let rest : list_rest d ≡ list_rest e = same_tail _ _ _ _ whole in
    same_found {T = In (λ (h : tree.Exp A). ListWay h b)} (record { value = f; way = d }) (record { value = g; way = e }) (sym (list_again d) ∙ (λ j. list_at (number j) (rest j) b) ∙ list_again e)
  where
    cancelled : (n x y : ℕ) → n + x ≡ n + y → x ≡ y
    cancelled n x y e = omega (arith, e)

pub one_way : {A : Type 0} → SpansTellWays A → OneWayHasASpan A
one_way {A} spans tells whole lo b nested f g d e same =
    paths_tell b 0 f g d e (same_found (list_path 0 d) (list_path 0 e)
    (sym (spans tells whole lo 0 b nested f d (list_end tells whole.from e) same) ∙ spans tells whole lo 0 b nested g e (list_end tells whole.from e) refl))
