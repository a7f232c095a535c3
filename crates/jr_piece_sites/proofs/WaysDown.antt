-- What stands in front on a path is what is evaluated before the expression to which the way of the
-- path leads.
use Rattle.std.proofs.Common.{◌≡◌, ℕ, suc, ◌+◌, List, ◌∷◌, ◌++◌, length, Option, Some, option_map, refl, sym, ap, ◌∙◌, arith}
use Rattle.std.specs.Prelude.{unwrap_or}
use Rattle.std.proofs.lemmas.List.{length-append}
use Rattle.jr_ast.specs.Tree as tree
use Rattle.jr_ast.specs.StatementTree as statement
use Rattle.jr_runs.specs.Keys.{Keys}
use Rattle.jr_cover.specs.Ways.{sites_of, row}
use Rattle.jr_cover.specs.Sites.{Site, Known, exp_way, receiver_way, operand_way, target_load, stmt_way}
use Rattle.jr_cfg.proofs.StepLaws.{sites_size}
use Rattle.jr_pieces.specs.Ways.{ExpWay, here, in_front, in_target, in_argument, in_super_argument, in_created, in_paren, in_cast, in_unary, in_bump, in_left, in_right, in_assigned, in_value, in_changed, in_change, ExpsWay, first_argument, later_argument}
use Rattle.jr_pieces.specs.Ways.{StmtWay, in_init, in_eval, in_condition, in_then, in_else, in_turning, in_body, in_returned, in_block, in_lock, in_locked, ListWay, first, later}
use Rattle.jr_pieces.specs.Before.{locked, exp_before, exps_before, stmt_before, list_before}
use Rattle.jr_pieces.specs.Finding.{exp_path, exps_path, stmt_path, list_path}
use Rattle.jr_piece_sites.specs.Fronts.{before, front, exps_front, stmts_front}
use Rattle.jr_piece_sites.specs.Parts.{nth}
use Rattle.jr_piece_sites.specs.Pieces as piece
use Rattle.jr_piece_sites.specs.Pieces.{Piece, part_of, nth_stmt}

module _ {K : Keys} {A : Type 0} (X : Known K A) where
  -- one step down
  down : (x c : Piece A) (i : ℕ) (q : List ℕ) → part_of x i ≡ Some c → before X x (i ∷ q) ≡ front X x i + before X c q
  unfolding before
  down x c i q is = ap (λ (o : Option (Piece A)). front X x i + unwrap_or (option_map (λ z. before X z q) o) 0) is

  -- nothing stands in front
  straight : (x c : Piece A) (i : ℕ) (q : List ℕ) (l : List (Site K)) → part_of x i ≡ Some c → front X x i ≡ 0 → before X c q ≡ length l → before X x (i ∷ q) ≡ length l
  straight x c i q l is none h = let d = down x c i q is in omega (arith, d, none, h)

  -- these sites stand in front
  behind_sites : (x c : Piece A) (i : ℕ) (q : List ℕ) (s l : List (Site K)) → part_of x i ≡ Some c → front X x i ≡ length s → before X c q ≡ length l → before X x (i ∷ q) ≡ length (s ++ l)
  behind_sites x c i q s l is some h = let d = down x c i q is in let n = length-append s l in omega (arith, d, some, h, n)

  module _ {f : tree.Exp A} where
    -- the step into a row, and the way from there on
    record Into (es : tree.Exps A) (d : ExpsWay f es) (i : ℕ) : Type 0 where
      at : ℕ
      rest : List ℕ
      to : tree.Exp A
      path : (j : ℕ) → j ≡ i + at → exps_path i d ≡ j ∷ rest
      is : nth es at ≡ Some to
      count : exps_front X es at + before X (piece.exp to) rest ≡ length (exps_before X d)

    mutual
      unfolding before

      exp_counts : (e : tree.Exp A) (d : ExpWay f e) → before X (piece.exp e) (exp_path d) ≡ length (exp_before X d)
      exp_counts _ here = refl
      exp_counts _ (in_front m e w d) = straight (piece.exp (tree.field m e w)) (piece.exp e) 0 (exp_path d) (exp_before X d) refl refl (exp_counts e d)
      exp_counts _ (in_target m e w es d) = straight (piece.exp (tree.call m (tree.on e) w es)) (piece.exp e) 0 (exp_path d) (exp_before X d) refl refl (exp_counts e d)
      exp_counts _ (in_argument m tree.no_target w es d) =
          let r = exps_count es d 1 in
          let p = r.path (suc r.at) (omega arith) in
          let s = down (piece.exp (tree.call m tree.no_target w es)) (piece.exp r.to) (suc r.at) r.rest (ap (option_map piece.exp) r.is) in
          let n = r.count in
          ap (before X (piece.exp (tree.call m tree.no_target w es))) p ∙ omega (arith, s, n)
      exp_counts _ (in_argument m (tree.on t) w es d) =
          let r = exps_count es d 2 in
          let p = r.path (suc (suc r.at)) (omega arith) in
          let s = down (piece.exp (tree.call m (tree.on t) w es)) (piece.exp r.to) (suc (suc r.at)) r.rest (ap (option_map piece.exp) r.is) in
          let n = r.count in
          let a = length-append (sites_of (receiver_way X (tree.on t))) (exps_before X d) in
          let z = sites_size (receiver_way X (tree.on t)) in
          ap (before X (piece.exp (tree.call m (tree.on t) w es))) p ∙ omega (arith, s, n, a, z)
      exp_counts _ (in_super_argument m w es d) =
          let r = exps_count es d 1 in
          let p = r.path (suc r.at) (omega arith) in
          let s = down (piece.exp (tree.super_call m w es)) (piece.exp r.to) (suc r.at) r.rest (ap (option_map piece.exp) r.is) in
          let n = r.count in
          ap (before X (piece.exp (tree.super_call m w es))) p ∙ omega (arith, s, n)
      exp_counts _ (in_created m t es d) =
          let r = exps_count es d 1 in
          let p = r.path (suc r.at) (omega arith) in
          let s = down (piece.exp (tree.create m t es)) (piece.exp r.to) (suc r.at) r.rest (ap (option_map piece.exp) r.is) in
          let n = r.count in
          ap (before X (piece.exp (tree.create m t es))) p ∙ omega (arith, s, n)
      exp_counts _ (in_paren m e d) = straight (piece.exp (tree.paren m e)) (piece.exp e) 0 (exp_path d) (exp_before X d) refl refl (exp_counts e d)
      exp_counts _ (in_cast m t e d) = straight (piece.exp (tree.cast m t e)) (piece.exp e) 1 (exp_path d) (exp_before X d) refl refl (exp_counts e d)
      exp_counts _ (in_unary m o e d) = straight (piece.exp (tree.unary m o e)) (piece.exp e) 0 (exp_path d) (exp_before X d) refl refl (exp_counts e d)
      exp_counts _ (in_bump m o e d) = straight (piece.exp (tree.bump m o e)) (piece.exp e) 0 (exp_path d) (exp_before X d) refl refl (exp_counts e d)
      exp_counts _ (in_left m o l r d) = straight (piece.exp (tree.binary m o l r)) (piece.exp l) 0 (exp_path d) (exp_before X d) refl refl (exp_counts l d)
      exp_counts _ (in_right m o l r d) = behind_sites (piece.exp (tree.binary m o l r)) (piece.exp r) 1 (exp_path d) (sites_of (exp_way X l)) (exp_before X d) refl (sym (sites_size (exp_way X l))) (exp_counts r d)
      exp_counts _ (in_assigned m t e d) = straight (piece.exp (tree.assign m t e)) (piece.exp t) 0 (exp_path d) (exp_before X d) refl refl (exp_counts t d)
      exp_counts _ (in_value m t e d) = behind_sites (piece.exp (tree.assign m t e)) (piece.exp e) 1 (exp_path d) (sites_of (operand_way X t)) (exp_before X d) refl (sym (sites_size (operand_way X t))) (exp_counts e d)
      exp_counts _ (in_changed m o t e d) = straight (piece.exp (tree.compound m o t e)) (piece.exp t) 0 (exp_path d) (exp_before X d) refl refl (exp_counts t d)
      exp_counts _ (in_change m o t e d) =
          let w = row (operand_way X t) (target_load X t) in
          behind_sites (piece.exp (tree.compound m o t e)) (piece.exp e) 1 (exp_path d) (sites_of w) (exp_before X d) refl (sym (sites_size w)) (exp_counts e d)

      exps_count : (es : tree.Exps A) (d : ExpsWay f es) (i : ℕ) → Into es d i
      exps_count _ (first_argument e es d) i = record {
        at = 0;
        rest = exp_path d;
        to = e;
        path = λ j is. let same : i ≡ j = omega (arith, is) in ap (λ (n : ℕ). n ∷ exp_path d) same;
        is = refl;
        count = let h = exp_counts e d in omega (arith, h);
      }
      exps_count _ (later_argument e es d) i =
          let r = exps_count es d (suc i) in record {
            at = suc r.at;
            rest = r.rest;
            to = r.to;
            path = λ j is. r.path j (omega (arith, is));
            is = r.is;
            count =
                let n = r.count in
                let a = length-append (sites_of (exp_way X e)) (exps_before X d) in
                let z = sites_size (exp_way X e) in
                omega (arith, n, a, z);
          }

    record IntoList (b : statement.Stmts A) (d : ListWay f b) (i : ℕ) : Type 0 where
      at : ℕ
      rest : List ℕ
      to : statement.Stmt A
      path : (j : ℕ) → j ≡ i + at → list_path i d ≡ j ∷ rest
      is : nth_stmt b at ≡ Some (piece.stmt to)
      count : stmts_front X b at + before X (piece.stmt to) rest ≡ length (list_before X d)

    mutual
      pub stmt_counts : (s : statement.Stmt A) (d : StmtWay f s) → before X (piece.stmt s) (stmt_path d) ≡ length (stmt_before X d)
      stmt_counts _ (in_init m is_final t w e d) = straight (piece.stmt (statement.local m is_final t w e)) (piece.exp e) 2 (exp_path d) (exp_before X d) refl refl (exp_counts e d)
      stmt_counts _ (in_eval m e d) = straight (piece.stmt (statement.eval m e)) (piece.exp e) 0 (exp_path d) (exp_before X d) refl refl (exp_counts e d)
      stmt_counts _ (in_condition m c s o d) = straight (piece.stmt (statement.branch m c s o)) (piece.exp c) 0 (exp_path d) (exp_before X d) refl refl (exp_counts c d)
      stmt_counts _ (in_then m c s o d) = behind_sites (piece.stmt (statement.branch m c s o)) (piece.stmt s) 1 (stmt_path d) (sites_of (exp_way X c)) (stmt_before X d) refl (sym (sites_size (exp_way X c))) (stmt_counts s d)
      stmt_counts _ (in_else m c s o d) =
          let w = row (exp_way X c) (stmt_way X s) in
          behind_sites (piece.stmt (statement.branch m c s (statement.otherwise o))) (piece.stmt o) 2 (stmt_path d) (sites_of w) (stmt_before X d) refl (sym (sites_size w)) (stmt_counts o d)
      stmt_counts _ (in_turning m c s d) =
          let h = exp_counts c d in
          let n = down (piece.stmt (statement.loop m c s)) (piece.exp c) 0 (exp_path d) refl in
          omega (arith, h, n)
      stmt_counts _ (in_body m c s d) =
          let h = stmt_counts s d in
          let n = down (piece.stmt (statement.loop m c s)) (piece.stmt s) 1 (stmt_path d) refl in
          let a = length-append (sites_of (exp_way X c)) (stmt_before X d) in
          let z = sites_size (exp_way X c) in
          omega (arith, h, n, a, z)
      stmt_counts _ (in_returned m e d) = straight (piece.stmt (statement.return m (Some e))) (piece.exp e) 0 (exp_path d) (exp_before X d) refl refl (exp_counts e d)
      stmt_counts _ (in_block m b d) =
          let r = list_count b d 0 in
          let p = r.path r.at (omega arith) in
          let s = down (piece.stmt (statement.block m b)) (piece.stmt r.to) r.at r.rest r.is in
          let n = r.count in
          ap (before X (piece.stmt (statement.block m b))) p ∙ omega (arith, s, n)
      stmt_counts _ (in_lock m e b d) = straight (piece.stmt (statement.sync m e b)) (piece.exp e) 0 (exp_path d) (exp_before X d) refl refl (exp_counts e d)
      stmt_counts _ (in_locked m e b d) =
          let r = list_count b d 1 in
          let p = r.path (suc r.at) (omega arith) in
          let s = down (piece.stmt (statement.sync m e b)) (piece.stmt r.to) (suc r.at) r.rest r.is in
          let n = r.count in
          let w = locked X m e in
          let a = length-append (sites_of w) (list_before X d) in
          let z = sites_size w in
          ap (before X (piece.stmt (statement.sync m e b))) p ∙ omega (arith, s, n, a, z)

      list_count : (b : statement.Stmts A) (d : ListWay f b) (i : ℕ) → IntoList b d i
      list_count _ (first s ss d) i = record {
        at = 0;
        rest = stmt_path d;
        to = s;
        path = λ j is. let same : i ≡ j = omega (arith, is) in ap (λ (n : ℕ). n ∷ stmt_path d) same;
        is = refl;
        count = let h = stmt_counts s d in omega (arith, h);
      }
      list_count _ (later s ss d) i =
          let r = list_count ss d (suc i) in record {
            at = suc r.at;
            rest = r.rest;
            to = r.to;
            path = λ j is. r.path j (omega (arith, is));
            is = r.is;
            count =
                let n = r.count in
                let a = length-append (sites_of (stmt_way X s)) (list_before X d) in
                let z = sites_size (stmt_way X s) in
                omega (arith, n, a, z);
          }
