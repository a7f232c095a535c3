-- The path of a way leads to the expression to which the way leads, and what stands in front on one
-- path behind another.
use Rattle.std.proofs.Common.{◌≡◌, ℕ, suc, ◌+◌, List, [], ◌∷◌, ◌++◌, Option, Some, None, option_map, refl, ap, ◌∙◌, arith}
use Rattle.std.specs.Prelude.{option_and_then, unwrap_or}
use Rattle.std.proofs.lemmas.Option.{none-some, same_Some}
use Rattle.jr_ast.specs.Tree as tree
use Rattle.jr_ast.specs.StatementTree as statement
use Rattle.jr_runs.specs.Keys.{Keys}
use Rattle.jr_cover.specs.Sites.{Known}
use Rattle.jr_pieces.specs.Ways.{ExpWay, here, in_front, in_target, in_argument, in_super_argument, in_created, in_paren, in_cast, in_unary, in_bump, in_left, in_right, in_assigned, in_value, in_changed, in_change, ExpsWay, first_argument, later_argument}
use Rattle.jr_pieces.specs.Ways.{StmtWay, in_init, in_eval, in_condition, in_then, in_else, in_turning, in_body, in_returned, in_block, in_lock, in_locked, ListWay, first, later}
use Rattle.jr_pieces.specs.Finding.{exp_path, exps_path, stmt_path, list_path}
use Rattle.jr_piece_sites.specs.Fronts.{before, front}
use Rattle.jr_piece_sites.specs.Parts.{nth}
use Rattle.jr_piece_sites.specs.Pieces as piece
use Rattle.jr_piece_sites.specs.Pieces.{Piece, part_of, piece_at, nth_stmt}
use Rattle.jr_piece_sites.proofs.Descents.{step_down, step_end}

module _ {A : Type 0} (f : tree.Exp A) where
  abbrev pub Leads : Piece A → List ℕ → Type 0
  Leads x q = piece_at x q ≡ Some (piece.exp f)

  on : (x c : Piece A) (i : ℕ) (q : List ℕ) → part_of x i ≡ Some c → Leads c q → Leads x (i ∷ q)
  on x c i q is h = step_down x c i q is ∙ h

  -- the step into a row, and the way from there on
  record Into (es : tree.Exps A) (d : ExpsWay f es) (i : ℕ) : Type 0 where
    at : ℕ
    rest : List ℕ
    to : tree.Exp A
    path : (j : ℕ) → j ≡ i + at → exps_path i d ≡ j ∷ rest
    is : nth es at ≡ Some to
    leads : Leads (piece.exp to) rest

  mutual
    exp_leads : (e : tree.Exp A) (d : ExpWay f e) → Leads (piece.exp e) (exp_path d)
    exp_leads _ here = step_end (piece.exp f)
    exp_leads _ (in_front m e w d) = on (piece.exp (tree.field m e w)) (piece.exp e) 0 (exp_path d) refl (exp_leads e d)
    exp_leads _ (in_target m e w es d) = on (piece.exp (tree.call m (tree.on e) w es)) (piece.exp e) 0 (exp_path d) refl (exp_leads e d)
    exp_leads _ (in_argument m tree.no_target w es d) =
        let r = exps_lead es d 1 in
        ap (piece_at (piece.exp (tree.call m tree.no_target w es))) (r.path (suc r.at) (omega arith))
        ∙ on (piece.exp (tree.call m tree.no_target w es)) (piece.exp r.to) (suc r.at) r.rest (ap (option_map piece.exp) r.is) r.leads
    exp_leads _ (in_argument m (tree.on t) w es d) =
        let r = exps_lead es d 2 in
        ap (piece_at (piece.exp (tree.call m (tree.on t) w es))) (r.path (suc (suc r.at)) (omega arith))
        ∙ on (piece.exp (tree.call m (tree.on t) w es)) (piece.exp r.to) (suc (suc r.at)) r.rest (ap (option_map piece.exp) r.is) r.leads
    exp_leads _ (in_super_argument m w es d) =
        let r = exps_lead es d 1 in
        ap (piece_at (piece.exp (tree.super_call m w es))) (r.path (suc r.at) (omega arith))
        ∙ on (piece.exp (tree.super_call m w es)) (piece.exp r.to) (suc r.at) r.rest (ap (option_map piece.exp) r.is) r.leads
    exp_leads _ (in_created m t es d) =
        let r = exps_lead es d 1 in
        ap (piece_at (piece.exp (tree.create m t es))) (r.path (suc r.at) (omega arith))
        ∙ on (piece.exp (tree.create m t es)) (piece.exp r.to) (suc r.at) r.rest (ap (option_map piece.exp) r.is) r.leads
    exp_leads _ (in_paren m e d) = on (piece.exp (tree.paren m e)) (piece.exp e) 0 (exp_path d) refl (exp_leads e d)
    exp_leads _ (in_cast m t e d) = on (piece.exp (tree.cast m t e)) (piece.exp e) 1 (exp_path d) refl (exp_leads e d)
    exp_leads _ (in_unary m o e d) = on (piece.exp (tree.unary m o e)) (piece.exp e) 0 (exp_path d) refl (exp_leads e d)
    exp_leads _ (in_bump m o e d) = on (piece.exp (tree.bump m o e)) (piece.exp e) 0 (exp_path d) refl (exp_leads e d)
    exp_leads _ (in_left m o l r d) = on (piece.exp (tree.binary m o l r)) (piece.exp l) 0 (exp_path d) refl (exp_leads l d)
    exp_leads _ (in_right m o l r d) = on (piece.exp (tree.binary m o l r)) (piece.exp r) 1 (exp_path d) refl (exp_leads r d)
    exp_leads _ (in_assigned m t e d) = on (piece.exp (tree.assign m t e)) (piece.exp t) 0 (exp_path d) refl (exp_leads t d)
    exp_leads _ (in_value m t e d) = on (piece.exp (tree.assign m t e)) (piece.exp e) 1 (exp_path d) refl (exp_leads e d)
    exp_leads _ (in_changed m o t e d) = on (piece.exp (tree.compound m o t e)) (piece.exp t) 0 (exp_path d) refl (exp_leads t d)
    exp_leads _ (in_change m o t e d) = on (piece.exp (tree.compound m o t e)) (piece.exp e) 1 (exp_path d) refl (exp_leads e d)

    exps_lead : (es : tree.Exps A) (d : ExpsWay f es) (i : ℕ) → Into es d i
    exps_lead _ (first_argument e es d) i = record {
      at = 0;
      rest = exp_path d;
      to = e;
      path = λ j is. let same : i ≡ j = omega (arith, is) in ap (λ (n : ℕ). n ∷ exp_path d) same;
      is = refl;
      leads = exp_leads e d;
    }
    exps_lead _ (later_argument e es d) i =
        let r = exps_lead es d (suc i) in record {
          at = suc r.at;
          rest = r.rest;
          to = r.to;
          path = λ j is. r.path j (omega (arith, is));
          is = r.is;
          leads = r.leads;
        }

  pub record IntoList (b : statement.Stmts A) (d : ListWay f b) (i : ℕ) : Type 0 where
    pub at : ℕ
    pub rest : List ℕ
    pub to : statement.Stmt A
    pub path : (j : ℕ) → j ≡ i + at → list_path i d ≡ j ∷ rest
    pub is : nth_stmt b at ≡ Some (piece.stmt to)
    pub leads : Leads (piece.stmt to) rest

  mutual
    pub stmt_leads : (s : statement.Stmt A) (d : StmtWay f s) → Leads (piece.stmt s) (stmt_path d)
    stmt_leads _ (in_init m is_final t w e d) = on (piece.stmt (statement.local m is_final t w e)) (piece.exp e) 2 (exp_path d) refl (exp_leads e d)
    stmt_leads _ (in_eval m e d) = on (piece.stmt (statement.eval m e)) (piece.exp e) 0 (exp_path d) refl (exp_leads e d)
    stmt_leads _ (in_condition m c s o d) = on (piece.stmt (statement.branch m c s o)) (piece.exp c) 0 (exp_path d) refl (exp_leads c d)
    stmt_leads _ (in_then m c s o d) = on (piece.stmt (statement.branch m c s o)) (piece.stmt s) 1 (stmt_path d) refl (stmt_leads s d)
    stmt_leads _ (in_else m c s o d) = on (piece.stmt (statement.branch m c s (statement.otherwise o))) (piece.stmt o) 2 (stmt_path d) refl (stmt_leads o d)
    stmt_leads _ (in_turning m c s d) = on (piece.stmt (statement.loop m c s)) (piece.exp c) 0 (exp_path d) refl (exp_leads c d)
    stmt_leads _ (in_body m c s d) = on (piece.stmt (statement.loop m c s)) (piece.stmt s) 1 (stmt_path d) refl (stmt_leads s d)
    stmt_leads _ (in_returned m e d) = on (piece.stmt (statement.return m (Some e))) (piece.exp e) 0 (exp_path d) refl (exp_leads e d)
    stmt_leads _ (in_block m b d) =
        let r = list_leads b d 0 in
        ap (piece_at (piece.stmt (statement.block m b))) (r.path r.at (omega arith))
        ∙ on (piece.stmt (statement.block m b)) (piece.stmt r.to) r.at r.rest r.is r.leads
    stmt_leads _ (in_lock m e b d) = on (piece.stmt (statement.sync m e b)) (piece.exp e) 0 (exp_path d) refl (exp_leads e d)
    stmt_leads _ (in_locked m e b d) =
        let r = list_leads b d 1 in
        ap (piece_at (piece.stmt (statement.sync m e b))) (r.path (suc r.at) (omega arith))
        ∙ on (piece.stmt (statement.sync m e b)) (piece.stmt r.to) (suc r.at) r.rest r.is r.leads

    pub list_leads : (b : statement.Stmts A) (d : ListWay f b) (i : ℕ) → IntoList b d i
    list_leads _ (first s ss d) i = record {
      at = 0;
      rest = stmt_path d;
      to = s;
      path = λ j is. let same : i ≡ j = omega (arith, is) in ap (λ (n : ℕ). n ∷ stmt_path d) same;
      is = refl;
      leads = stmt_leads s d;
    }
    list_leads _ (later s ss d) i =
        let r = list_leads ss d (suc i) in record {
          at = suc r.at;
          rest = r.rest;
          to = r.to;
          path = λ j is. r.path j (omega (arith, is));
          is = r.is;
          leads = r.leads;
        }

module _ {K : Keys} {A : Type 0} (X : Known K A) where
  pub both_paths : (p q : List ℕ) (x y : Piece A) → piece_at x p ≡ Some y → before X x (p ++ q) ≡ before X x p + before X y q
  unfolding before piece_at
  both_paths [] q x y e = let h = ap (λ (z : Piece A). before X z q) (same_Some x y e) in omega (arith, h)
  both_paths (i ∷ p) q x y e = go (part_of x i) (front X x i) (λ c. both_paths p q c y) e
    where
      go : (o : Option (Piece A)) (n : ℕ) → ((c : Piece A) → piece_at c p ≡ Some y → before X c (p ++ q) ≡ before X c p + before X y q) → option_and_then (λ c. piece_at c p) o ≡ Some y
          → n + unwrap_or (option_map (λ c. before X c (p ++ q)) o) 0 ≡ n + unwrap_or (option_map (λ c. before X c p) o) 0 + before X y q
      go None n on h = absurd (none-some y h)
      go (Some c) n on h = let k = on c h in omega (arith, k)
