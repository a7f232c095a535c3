-- Each way of a tree has one on the tree's spots, which leads to the spots of the same expression; in
-- front of both come the same sites.
use Rattle.std.proofs.Common.{◌≡◌, ℕ, suc, List, [], ◌∷◌, ◌++◌, Some, refl, sym, ap, ◌∙◌, append_assoc, append-nil}
use Rattle.jr_ast.specs.Tree as tree
use Rattle.jr_ast.specs.StatementTree as statement
use Rattle.jr_runs.specs.Keys.{Keys}
use Rattle.jr_cover.specs.Ways.{row, sites_of}
use Rattle.jr_cover.specs.Sites.{What, Site, Known, at_place, unless}
use Rattle.jr_cover.specs.Spots.{Spot, onto, spot, spot_word, spot_type, spot_exp, spot_exps, spot_stmt, spot_else, spot_stmts}
use Rattle.jr_pieces.specs.Ways.{ExpWay, here, in_front, in_target, in_argument, in_super_argument, in_created, in_paren, in_cast, in_unary, in_bump, in_left, in_right, in_assigned, in_value, in_changed, in_change, ExpsWay, first_argument, later_argument}
use Rattle.jr_pieces.specs.Ways.{StmtWay, in_init, in_eval, in_condition, in_then, in_else, in_turning, in_body, in_returned, in_block, in_lock, in_locked, ListWay, first, later}
use Rattle.jr_pieces.specs.Finding.{exp_path, exps_path, stmt_path, list_path}
use Rattle.jr_pieces.specs.Before.{exp_before, exps_before, stmt_before, list_before}
use Rattle.jr_local_moves.specs.SpotWays.{IsSame, ExpCasts, RowCasts, StmtCasts, ListCasts}
use Rattle.jr_local_moves.proofs.SpotsSeen.{class_same, load_same, exp_same, operand_same, stmt_same}

-- one step further down
pub further : (p : List ℕ) (i : ℕ) (q r : List ℕ) → r ≡ onto p i ++ q → r ≡ p ++ i ∷ q
further p i q r e = e ∙ append_assoc p (i ∷ []) q

module _ {K : Keys} {A : Type 0} (B E : A → ℕ → ℕ) (X : Known K A) (Y : Known K Spot) (same : IsSame B E X Y) {f : tree.Exp A} where
  -- base: where the parent of the whole begins; p: the path to the whole
  pub record ExpSpotted {e : tree.Exp A} (d : ExpWay f e) (base : ℕ) (p : List ℕ) : Type 0 where
    pub at : ℕ
    pub place : List ℕ
    pub way : ExpWay (spot_exp B E f at place) (spot_exp B E e base p)
    pub path : exp_path way ≡ exp_path d
    pub place_is : place ≡ p ++ exp_path d
    pub casts : ExpCasts B E X Y f at place
    pub before : exp_before X d ≡ exp_before Y way

  -- n: the number of the first of a row
  pub record ExpsSpotted {es : tree.Exps A} (d : ExpsWay f es) (base : ℕ) (p : List ℕ) (n : ℕ) : Type 0 where
    pub at : ℕ
    pub place : List ℕ
    pub way : ExpsWay (spot_exp B E f at place) (spot_exps B E es base p n)
    pub path : exps_path n way ≡ exps_path n d
    pub place_is : place ≡ p ++ exps_path n d
    pub casts : ExpCasts B E X Y f at place
    pub before : exps_before X d ≡ exps_before Y way

  mutual
    unfolding spot_exp spot_exps

    pub exp_spotted : (e : tree.Exp A) (d : ExpWay f e) (base : ℕ) (p : List ℕ) → ExpCasts B E X Y e base p → ExpSpotted d base p
    exp_spotted _ here base p c = record { at = base; place = p; way = here; path = refl; place_is = sym (append-nil p); casts = c; before = refl }
    exp_spotted _ (in_front m e w d) base p c =
        let r = exp_spotted e d (B m base) (onto p 0) c in record {
          at = r.at;
          place = r.place;
          way = in_front (spot B E m base p) (spot_exp B E e (B m base) (onto p 0)) (spot_word B E w (B m base) (onto p 1)) r.way;
          path = ap (λ (q : List ℕ). 0 ∷ q) r.path;
          place_is = further p 0 (exp_path d) r.place r.place_is;
          casts = r.casts;
          before = r.before;
        }
    exp_spotted _ (in_target m e w es d) base p c =
        let r = exp_spotted e d (B m base) (onto p 0) c.0 in record {
          at = r.at;
          place = r.place;
          way = in_target (spot B E m base p) (spot_exp B E e (B m base) (onto p 0)) (spot_word B E w (B m base) (onto p 1)) (spot_exps B E es (B m base) p 2) r.way;
          path = ap (λ (q : List ℕ). 0 ∷ q) r.path;
          place_is = further p 0 (exp_path d) r.place r.place_is;
          casts = r.casts;
          before = r.before;
        }
    exp_spotted _ (in_argument m tree.no_target w es d) base p c =
        let r = exps_spotted es d (B m base) p 1 c in record {
          at = r.at;
          place = r.place;
          way = in_argument (spot B E m base p) tree.no_target (spot_word B E w (B m base) (onto p 0)) (spot_exps B E es (B m base) p 1) r.way;
          path = r.path;
          place_is = r.place_is;
          casts = r.casts;
          before = r.before;
        }
    exp_spotted _ (in_argument m (tree.on e) w es d) base p c =
        let at = B m base in
        let r = exps_spotted es d at p 2 c.1 in
        let own = exp_same B E X Y same e at (onto p 0) c.0 in record {
          at = r.at;
          place = r.place;
          way = in_argument (spot B E m base p) (tree.on (spot_exp B E e at (onto p 0))) (spot_word B E w at (onto p 1)) (spot_exps B E es at p 2) r.way;
          path = r.path;
          place_is = r.place_is;
          casts = r.casts;
          before = λ i. sites_of (unless (class_same B E X Y same e at (onto p 0) i) (own i)) ++ r.before i;
        }
    exp_spotted _ (in_super_argument m w es d) base p c =
        let r = exps_spotted es d (B m base) p 1 c in record {
          at = r.at;
          place = r.place;
          way = in_super_argument (spot B E m base p) (spot_word B E w (B m base) (onto p 0)) (spot_exps B E es (B m base) p 1) r.way;
          path = r.path;
          place_is = r.place_is;
          casts = r.casts;
          before = r.before;
        }
    exp_spotted _ (in_created m t es d) base p c =
        let r = exps_spotted es d (B m base) p 1 c in
        let k = same.marks m base p in record {
          at = r.at;
          place = r.place;
          way = in_created (spot B E m base p) (spot_type B E t (B m base) (onto p 0)) (spot_exps B E es (B m base) p 1) r.way;
          path = r.path;
          place_is = r.place_is;
          casts = r.casts;
          before = λ i. sites_of (at_place (k.first i) What.creates) ++ r.before i;
        }
    exp_spotted _ (in_paren m e d) base p c =
        let r = exp_spotted e d (B m base) (onto p 0) c in record {
          at = r.at;
          place = r.place;
          way = in_paren (spot B E m base p) (spot_exp B E e (B m base) (onto p 0)) r.way;
          path = ap (λ (q : List ℕ). 0 ∷ q) r.path;
          place_is = further p 0 (exp_path d) r.place r.place_is;
          casts = r.casts;
          before = r.before;
        }
    exp_spotted _ (in_cast m t e d) base p c =
        let r = exp_spotted e d (B m base) (onto p 1) c.1 in record {
          at = r.at;
          place = r.place;
          way = in_cast (spot B E m base p) (spot_type B E t (B m base) (onto p 0)) (spot_exp B E e (B m base) (onto p 1)) r.way;
          path = ap (λ (q : List ℕ). 1 ∷ q) r.path;
          place_is = further p 1 (exp_path d) r.place r.place_is;
          casts = r.casts;
          before = r.before;
        }
    exp_spotted _ (in_unary m o e d) base p c =
        let r = exp_spotted e d (B m base) (onto p 0) c in record {
          at = r.at;
          place = r.place;
          way = in_unary (spot B E m base p) o (spot_exp B E e (B m base) (onto p 0)) r.way;
          path = ap (λ (q : List ℕ). 0 ∷ q) r.path;
          place_is = further p 0 (exp_path d) r.place r.place_is;
          casts = r.casts;
          before = r.before;
        }
    exp_spotted _ (in_bump m o e d) base p c =
        let r = exp_spotted e d (B m base) (onto p 0) c in record {
          at = r.at;
          place = r.place;
          way = in_bump (spot B E m base p) o (spot_exp B E e (B m base) (onto p 0)) r.way;
          path = ap (λ (q : List ℕ). 0 ∷ q) r.path;
          place_is = further p 0 (exp_path d) r.place r.place_is;
          casts = r.casts;
          before = r.before;
        }
    exp_spotted _ (in_left m o x y d) base p c =
        let r = exp_spotted x d (B m base) (onto p 0) c.0 in record {
          at = r.at;
          place = r.place;
          way = in_left (spot B E m base p) o (spot_exp B E x (B m base) (onto p 0)) (spot_exp B E y (B m base) (onto p 1)) r.way;
          path = ap (λ (q : List ℕ). 0 ∷ q) r.path;
          place_is = further p 0 (exp_path d) r.place r.place_is;
          casts = r.casts;
          before = r.before;
        }
    exp_spotted _ (in_right m o x y d) base p c =
        let r = exp_spotted y d (B m base) (onto p 1) c.1 in
        let own = exp_same B E X Y same x (B m base) (onto p 0) c.0 in record {
          at = r.at;
          place = r.place;
          way = in_right (spot B E m base p) o (spot_exp B E x (B m base) (onto p 0)) (spot_exp B E y (B m base) (onto p 1)) r.way;
          path = ap (λ (q : List ℕ). 1 ∷ q) r.path;
          place_is = further p 1 (exp_path d) r.place r.place_is;
          casts = r.casts;
          before = λ i. sites_of (own i) ++ r.before i;
        }
    exp_spotted _ (in_assigned m t e d) base p c =
        let r = exp_spotted t d (B m base) (onto p 0) c.0 in record {
          at = r.at;
          place = r.place;
          way = in_assigned (spot B E m base p) (spot_exp B E t (B m base) (onto p 0)) (spot_exp B E e (B m base) (onto p 1)) r.way;
          path = ap (λ (q : List ℕ). 0 ∷ q) r.path;
          place_is = further p 0 (exp_path d) r.place r.place_is;
          casts = r.casts;
          before = r.before;
        }
    exp_spotted _ (in_value m t e d) base p c =
        let r = exp_spotted e d (B m base) (onto p 1) c.1 in
        let operand = operand_same B E X Y same t (B m base) (onto p 0) c.0 in record {
          at = r.at;
          place = r.place;
          way = in_value (spot B E m base p) (spot_exp B E t (B m base) (onto p 0)) (spot_exp B E e (B m base) (onto p 1)) r.way;
          path = ap (λ (q : List ℕ). 1 ∷ q) r.path;
          place_is = further p 1 (exp_path d) r.place r.place_is;
          casts = r.casts;
          before = λ i. sites_of (operand i) ++ r.before i;
        }
    exp_spotted _ (in_changed m o t e d) base p c =
        let r = exp_spotted t d (B m base) (onto p 0) c.0 in record {
          at = r.at;
          place = r.place;
          way = in_changed (spot B E m base p) o (spot_exp B E t (B m base) (onto p 0)) (spot_exp B E e (B m base) (onto p 1)) r.way;
          path = ap (λ (q : List ℕ). 0 ∷ q) r.path;
          place_is = further p 0 (exp_path d) r.place r.place_is;
          casts = r.casts;
          before = r.before;
        }
    exp_spotted _ (in_change m o t e d) base p c =
        let r = exp_spotted e d (B m base) (onto p 1) c.1 in
        let operand = operand_same B E X Y same t (B m base) (onto p 0) c.0 in
        let load = load_same B E X Y same t (B m base) (onto p 0) in record {
          at = r.at;
          place = r.place;
          way = in_change (spot B E m base p) o (spot_exp B E t (B m base) (onto p 0)) (spot_exp B E e (B m base) (onto p 1)) r.way;
          path = ap (λ (q : List ℕ). 1 ∷ q) r.path;
          place_is = further p 1 (exp_path d) r.place r.place_is;
          casts = r.casts;
          before = λ i. sites_of (row (operand i) (load i)) ++ r.before i;
        }

    exps_spotted : (es : tree.Exps A) (d : ExpsWay f es) (base : ℕ) (p : List ℕ) (n : ℕ) → RowCasts B E X Y es base p n → ExpsSpotted d base p n
    exps_spotted _ (first_argument e es d) base p n c =
        let r = exp_spotted e d base (onto p n) c.0 in record {
          at = r.at;
          place = r.place;
          way = first_argument (spot_exp B E e base (onto p n)) (spot_exps B E es base p (suc n)) r.way;
          path = ap (λ (q : List ℕ). n ∷ q) r.path;
          place_is = further p n (exp_path d) r.place r.place_is;
          casts = r.casts;
          before = r.before;
        }
    exps_spotted _ (later_argument e es d) base p n c =
        let r = exps_spotted es d base p (suc n) c.1 in
        let own = exp_same B E X Y same e base (onto p n) c.0 in record {
          at = r.at;
          place = r.place;
          way = later_argument (spot_exp B E e base (onto p n)) (spot_exps B E es base p (suc n)) r.way;
          path = r.path;
          place_is = r.place_is;
          casts = r.casts;
          before = λ i. sites_of (own i) ++ r.before i;
        }

  -- ---- statements

  pub record StmtSpotted {s : statement.Stmt A} (d : StmtWay f s) (base : ℕ) (p : List ℕ) : Type 0 where
    pub at : ℕ
    pub place : List ℕ
    pub way : StmtWay (spot_exp B E f at place) (spot_stmt B E s base p)
    pub path : stmt_path way ≡ stmt_path d
    pub place_is : place ≡ p ++ stmt_path d
    pub casts : ExpCasts B E X Y f at place
    pub before : stmt_before X d ≡ stmt_before Y way

  pub record ListSpotted {b : statement.Stmts A} (d : ListWay f b) (base : ℕ) (p : List ℕ) (n : ℕ) : Type 0 where
    pub at : ℕ
    pub place : List ℕ
    pub way : ListWay (spot_exp B E f at place) (spot_stmts B E b base p n)
    pub path : list_path n way ≡ list_path n d
    pub place_is : place ≡ p ++ list_path n d
    pub casts : ExpCasts B E X Y f at place
    pub before : list_before X d ≡ list_before Y way

  mutual
    unfolding spot_stmt spot_else spot_stmts

    pub stmt_spotted : (s : statement.Stmt A) (d : StmtWay f s) (base : ℕ) (p : List ℕ) → StmtCasts B E X Y s base p → StmtSpotted d base p
    stmt_spotted _ (in_init m is_final t w e d) base p c =
        let r = exp_spotted e d (B m base) (onto p 2) c.1 in record {
          at = r.at;
          place = r.place;
          way = in_init (spot B E m base p) is_final (spot_type B E t (B m base) (onto p 0)) (spot_word B E w (B m base) (onto p 1)) (spot_exp B E e (B m base) (onto p 2)) r.way;
          path = ap (λ (q : List ℕ). 2 ∷ q) r.path;
          place_is = further p 2 (exp_path d) r.place r.place_is;
          casts = r.casts;
          before = r.before;
        }
    stmt_spotted _ (in_eval m e d) base p c =
        let r = exp_spotted e d (B m base) (onto p 0) c in record {
          at = r.at;
          place = r.place;
          way = in_eval (spot B E m base p) (spot_exp B E e (B m base) (onto p 0)) r.way;
          path = ap (λ (q : List ℕ). 0 ∷ q) r.path;
          place_is = further p 0 (exp_path d) r.place r.place_is;
          casts = r.casts;
          before = r.before;
        }
    stmt_spotted _ (in_condition m x s o d) base p c =
        let r = exp_spotted x d (B m base) (onto p 0) c.0 in record {
          at = r.at;
          place = r.place;
          way = in_condition (spot B E m base p) (spot_exp B E x (B m base) (onto p 0)) (spot_stmt B E s (B m base) (onto p 1)) (spot_else B E o (B m base) (onto p 2)) r.way;
          path = ap (λ (q : List ℕ). 0 ∷ q) r.path;
          place_is = further p 0 (exp_path d) r.place r.place_is;
          casts = r.casts;
          before = r.before;
        }
    stmt_spotted _ (in_then m x s o d) base p c =
        let r = stmt_spotted s d (B m base) (onto p 1) c.1 in
        let test = exp_same B E X Y same x (B m base) (onto p 0) c.0 in record {
          at = r.at;
          place = r.place;
          way = in_then (spot B E m base p) (spot_exp B E x (B m base) (onto p 0)) (spot_stmt B E s (B m base) (onto p 1)) (spot_else B E o (B m base) (onto p 2)) r.way;
          path = ap (λ (q : List ℕ). 1 ∷ q) r.path;
          place_is = further p 1 (stmt_path d) r.place r.place_is;
          casts = r.casts;
          before = λ i. sites_of (test i) ++ r.before i;
        }
    stmt_spotted _ (in_else m x s o d) base p c =
        let r = stmt_spotted o d (B m base) (onto p 2) c.2 in
        let test = exp_same B E X Y same x (B m base) (onto p 0) c.0 in
        let other = stmt_same B E X Y same s (B m base) (onto p 1) c.1 in record {
          at = r.at;
          place = r.place;
          way = in_else (spot B E m base p) (spot_exp B E x (B m base) (onto p 0)) (spot_stmt B E s (B m base) (onto p 1)) (spot_stmt B E o (B m base) (onto p 2)) r.way;
          path = ap (λ (q : List ℕ). 2 ∷ q) r.path;
          place_is = further p 2 (stmt_path d) r.place r.place_is;
          casts = r.casts;
          before = λ i. sites_of (row (test i) (other i)) ++ r.before i;
        }
    stmt_spotted _ (in_turning m x s d) base p c =
        let r = exp_spotted x d (B m base) (onto p 0) c.0 in
        let k = same.marks m base p in record {
          at = r.at;
          place = r.place;
          way = in_turning (spot B E m base p) (spot_exp B E x (B m base) (onto p 0)) (spot_stmt B E s (B m base) (onto p 1)) r.way;
          path = ap (λ (q : List ℕ). 0 ∷ q) r.path;
          place_is = further p 0 (exp_path d) r.place r.place_is;
          casts = r.casts;
          before = λ i. sites_of (at_place (k.first i) What.loops) ++ r.before i;
        }
    stmt_spotted _ (in_body m x s d) base p c =
        let r = stmt_spotted s d (B m base) (onto p 1) c.1 in
        let k = same.marks m base p in
        let test = exp_same B E X Y same x (B m base) (onto p 0) c.0 in record {
          at = r.at;
          place = r.place;
          way = in_body (spot B E m base p) (spot_exp B E x (B m base) (onto p 0)) (spot_stmt B E s (B m base) (onto p 1)) r.way;
          path = ap (λ (q : List ℕ). 1 ∷ q) r.path;
          place_is = further p 1 (stmt_path d) r.place r.place_is;
          casts = r.casts;
          before = λ i. sites_of (row (at_place (k.first i) What.loops) (test i)) ++ r.before i;
        }
    stmt_spotted _ (in_returned m e d) base p c =
        let r = exp_spotted e d (B m base) (onto p 0) c in record {
          at = r.at;
          place = r.place;
          way = in_returned (spot B E m base p) (spot_exp B E e (B m base) (onto p 0)) r.way;
          path = ap (λ (q : List ℕ). 0 ∷ q) r.path;
          place_is = further p 0 (exp_path d) r.place r.place_is;
          casts = r.casts;
          before = r.before;
        }
    stmt_spotted _ (in_block m b d) base p c =
        let r = list_spotted b d (B m base) p 0 c in record {
          at = r.at;
          place = r.place;
          way = in_block (spot B E m base p) (spot_stmts B E b (B m base) p 0) r.way;
          path = r.path;
          place_is = r.place_is;
          casts = r.casts;
          before = r.before;
        }
    stmt_spotted _ (in_lock m e b d) base p c =
        let r = exp_spotted e d (B m base) (onto p 0) c.0 in record {
          at = r.at;
          place = r.place;
          way = in_lock (spot B E m base p) (spot_exp B E e (B m base) (onto p 0)) (spot_stmts B E b (B m base) p 1) r.way;
          path = ap (λ (q : List ℕ). 0 ∷ q) r.path;
          place_is = further p 0 (exp_path d) r.place r.place_is;
          casts = r.casts;
          before = r.before;
        }
    stmt_spotted _ (in_locked m e b d) base p c =
        let r = list_spotted b d (B m base) p 1 c.1 in
        let k = same.marks m base p in
        let own = exp_same B E X Y same e (B m base) (onto p 0) c.0 in
        let never = same.never_null e (B m base) (onto p 0) in record {
          at = r.at;
          place = r.place;
          way = in_locked (spot B E m base p) (spot_exp B E e (B m base) (onto p 0)) (spot_stmts B E b (B m base) p 1) r.way;
          path = r.path;
          place_is = r.place_is;
          casts = r.casts;
          before = λ i. sites_of (row (own i) (row (unless (never i) (at_place (k.first i) What.checks)) (at_place (k.first i) What.enters))) ++ r.before i;
        }

    pub list_spotted : (b : statement.Stmts A) (d : ListWay f b) (base : ℕ) (p : List ℕ) (n : ℕ) → ListCasts B E X Y b base p n → ListSpotted d base p n
    list_spotted _ (first s ss d) base p n c =
        let r = stmt_spotted s d base (onto p n) c.0 in record {
          at = r.at;
          place = r.place;
          way = first (spot_stmt B E s base (onto p n)) (spot_stmts B E ss base p (suc n)) r.way;
          path = ap (λ (q : List ℕ). n ∷ q) r.path;
          place_is = further p n (stmt_path d) r.place r.place_is;
          casts = r.casts;
          before = r.before;
        }
    list_spotted _ (later s ss d) base p n c =
        let r = list_spotted ss d base p (suc n) c.1 in
        let own = stmt_same B E X Y same s base (onto p n) c.0 in record {
          at = r.at;
          place = r.place;
          way = later (spot_stmt B E s base (onto p n)) (spot_stmts B E ss base p (suc n)) r.way;
          path = r.path;
          place_is = r.place_is;
          casts = r.casts;
          before = λ i. sites_of (own i) ++ r.before i;
        }
