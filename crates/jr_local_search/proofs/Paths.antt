-- A path leads to one expression alone.
use Rattle.std.proofs.Common.{◌≡◌, ℕ, zero, suc, ◌+◌, ◌<◌, ◌≤◌, ◌==◌, Bool, true, false, List, [], ◌∷◌, Option, Some, None, if◌then◌else◌, refl, ap, sym, ◌∙◌, arith}
use Rattle.jr_text.specs.declared.spans.Span.{Span}
use Rattle.jr_ast.specs.Tree as tree
use Rattle.jr_ast.specs.StatementTree as statement
use Rattle.jr_pieces.specs.Ways.{ExpWay, here, in_front, in_target, in_argument, in_super_argument, in_created, in_paren, in_cast, in_unary, in_bump, in_left, in_right, in_assigned, in_value, in_changed, in_change}
use Rattle.jr_pieces.specs.Ways.{ExpsWay, first_argument, later_argument, StmtWay, in_init, in_eval, in_condition, in_then, in_else, in_turning, in_body, in_returned, in_block, in_lock, in_locked, ListWay, first, later}
use Rattle.jr_ast.specs.Marks.{exp_mark}
use Rattle.jr_grammar.specs.Layout.{itself}
use Rattle.jr_pieces.specs.Finding.{exp_path, exps_path, stmt_path, list_path, exp_end, exps_end, stmt_end, list_end}
use Rattle.jr_local_search.proofs.Descents.{same, apart, if_true, if_false}

abbrev of_two : ℕ → Option (tree.Exp Span) → Option (tree.Exp Span) → Option (tree.Exp Span)
of_two k x y = if k == 0 then x else y

abbrev mutual
  exp_at : List ℕ → tree.Exp Span → Option (tree.Exp Span)
  exp_at [] e = Some e
  exp_at (k ∷ ks) (tree.number m n) = None
  exp_at (k ∷ ks) (tree.truth m b) = None
  exp_at (k ∷ ks) (tree.null m) = None
  exp_at (k ∷ ks) (tree.string m t) = None
  exp_at (k ∷ ks) (tree.name m w) = None
  exp_at (k ∷ ks) (tree.field m e w) = exp_at ks e
  exp_at (k ∷ ks) (tree.super_field m w) = None
  exp_at (k ∷ ks) (tree.this m) = None
  exp_at (k ∷ ks) (tree.class_literal m t) = None
  exp_at (k ∷ ks) (tree.call m tree.no_target w es) = exps_at 1 k ks es
  exp_at (k ∷ ks) (tree.call m (tree.on e) w es) = of_two k (exp_at ks e) (exps_at 2 k ks es)
  exp_at (k ∷ ks) (tree.super_call m w es) = exps_at 1 k ks es
  exp_at (k ∷ ks) (tree.create m t es) = exps_at 1 k ks es
  exp_at (k ∷ ks) (tree.paren m e) = exp_at ks e
  exp_at (k ∷ ks) (tree.cast m t e) = exp_at ks e
  exp_at (k ∷ ks) (tree.unary m o e) = exp_at ks e
  exp_at (k ∷ ks) (tree.bump m o e) = exp_at ks e
  exp_at (k ∷ ks) (tree.binary m o l r) = of_two k (exp_at ks l) (exp_at ks r)
  exp_at (k ∷ ks) (tree.assign m l r) = of_two k (exp_at ks l) (exp_at ks r)
  exp_at (k ∷ ks) (tree.compound m o l r) = of_two k (exp_at ks l) (exp_at ks r)

  exps_at : (i k : ℕ) → List ℕ → tree.Exps Span → Option (tree.Exp Span)
  exps_at i k ks tree.end = None
  exps_at i k ks (tree.more e es) = if i == k then exp_at ks e else exps_at (suc i) k ks es

-- no step leads nowhere
stays : (e : tree.Exp Span) → exp_at [] e ≡ Some e
stays (tree.number m v) = refl
stays (tree.truth m v) = refl
stays (tree.null m) = refl
stays (tree.string m t) = refl
stays (tree.name m w) = refl
stays (tree.field m e w) = refl
stays (tree.super_field m w) = refl
stays (tree.this m) = refl
stays (tree.class_literal m t) = refl
stays (tree.call m tree.no_target w es) = refl
stays (tree.call m (tree.on x) w es) = refl
stays (tree.super_call m w es) = refl
stays (tree.create m t es) = refl
stays (tree.paren m e) = refl
stays (tree.cast m t e) = refl
stays (tree.unary m o e) = refl
stays (tree.bump m o e) = refl
stays (tree.binary m o l r) = refl
stays (tree.assign m t e) = refl
stays (tree.compound m o t e) = refl

-- a row's path begins with the number of an element, in which the rest leads on
record RowPath {X : Type 0} (at : (k : ℕ) → List ℕ → Option X) (i : ℕ) (path : List ℕ) (f : X) : Type 0 where
  k : ℕ
  rest : List ℕ
  is : path ≡ k ∷ rest
  least : i ≤ k
  found : at k rest ≡ Some f

module _ (f : tree.Exp Span) where
  mutual
    exp_leads : (e : tree.Exp Span) (d : ExpWay f e) → exp_at (exp_path d) e ≡ Some f
    exp_leads e here = stays f
    exp_leads e (in_front m x w d) = exp_leads x d
    exp_leads e (in_target m x w es d) = exp_leads x d
    exp_leads e (in_argument m tree.no_target w es d) = let r = exps_lead es 1 d in ap (λ p. exp_at p (tree.call m tree.no_target w es)) r.is ∙ r.found
    exp_leads e (in_argument m (tree.on x) w es d) =
        let r = exps_lead es 2 d in
        let l = r.least in
        ap (λ p. exp_at p (tree.call m (tree.on x) w es)) r.is ∙ if_false (r.k == 0) (exp_at r.rest x) (exps_at 2 r.k r.rest es) (apart r.k 0 (λ j. omega (arith, j, l))) ∙ r.found
    exp_leads e (in_super_argument m w es d) = let r = exps_lead es 1 d in ap (λ p. exp_at p (tree.super_call m w es)) r.is ∙ r.found
    exp_leads e (in_created m t es d) = let r = exps_lead es 1 d in ap (λ p. exp_at p (tree.create m t es)) r.is ∙ r.found
    exp_leads e (in_paren m x d) = exp_leads x d
    exp_leads e (in_cast m t x d) = exp_leads x d
    exp_leads e (in_unary m o x d) = exp_leads x d
    exp_leads e (in_bump m o x d) = exp_leads x d
    exp_leads e (in_left m o l r d) = exp_leads l d
    exp_leads e (in_right m o l r d) = exp_leads r d
    exp_leads e (in_assigned m l r d) = exp_leads l d
    exp_leads e (in_value m l r d) = exp_leads r d
    exp_leads e (in_changed m o l r d) = exp_leads l d
    exp_leads e (in_change m o l r d) = exp_leads r d

    exps_lead : (es : tree.Exps Span) (i : ℕ) (d : ExpsWay f es) → RowPath (λ k ks. exps_at i k ks es) i (exps_path i d) f
    exps_lead es i (first_argument e xs d) = record {
      k = i;
      rest = exp_path d;
      is = refl;
      least = omega arith;
      found = if_true (i == i) (exp_at (exp_path d) e) (exps_at (suc i) i (exp_path d) xs) (same i i refl) ∙ exp_leads e d;
    }
    exps_lead es i (later_argument e xs d) =
        let r = exps_lead xs (suc i) d in
        let l = r.least in
        record {
          k = r.k;
          rest = r.rest;
          is = r.is;
          least = omega (arith, l);
          found = if_false (i == r.k) (exp_at r.rest e) (exps_at (suc i) r.k r.rest xs) (apart i r.k (λ j. omega (arith, j, l))) ∙ r.found;
        }

-- ---- statements

abbrev with_rest : List ℕ → (ℕ → List ℕ → Option (tree.Exp Span)) → Option (tree.Exp Span)
with_rest [] g = None
with_rest (k ∷ ks) g = g k ks

abbrev mutual
  stmt_at : statement.Stmt Span → List ℕ → Option (tree.Exp Span)
  stmt_at (statement.local m is_final t w e) path = with_rest path (λ k ks. exp_at ks e)
  stmt_at (statement.eval m e) path = with_rest path (λ k ks. exp_at ks e)
  stmt_at (statement.branch m c s o) path = with_rest path (λ k ks. of_two k (exp_at ks c) (branch_at (stmt_at s ks) o k ks))
  stmt_at (statement.loop m c s) path = with_rest path (λ k ks. of_two k (exp_at ks c) (stmt_at s ks))
  stmt_at (statement.return m None) path = None
  stmt_at (statement.return m (Some e)) path = with_rest path (λ k ks. exp_at ks e)
  stmt_at (statement.block m b) path = with_rest path (λ k ks. list_at 0 b k ks)
  stmt_at (statement.sync m e b) path = with_rest path (λ k ks. of_two k (exp_at ks e) (list_at 1 b k ks))
  stmt_at (statement.empty m) path = None

  branch_at : Option (tree.Exp Span) → statement.Else Span → (k : ℕ) → List ℕ → Option (tree.Exp Span)
  branch_at first_one statement.no_else k ks = first_one
  branch_at first_one (statement.otherwise o) k ks = if k == 1 then first_one else stmt_at o ks

  list_at : (i : ℕ) → statement.Stmts Span → (k : ℕ) → List ℕ → Option (tree.Exp Span)
  list_at i statement.end k ks = None
  list_at i (statement.more s ss) k ks = if i == k then stmt_at s ks else list_at (suc i) ss k ks

module _ (f : tree.Exp Span) where
  mutual
    stmt_leads : (s : statement.Stmt Span) (d : StmtWay f s) → stmt_at s (stmt_path d) ≡ Some f
    stmt_leads s (in_init m is_final t w e d) = exp_leads f e d
    stmt_leads s (in_eval m e d) = exp_leads f e d
    stmt_leads s (in_condition m c y o d) = exp_leads f c d
    stmt_leads s (in_then m c y statement.no_else d) = stmt_leads y d
    stmt_leads s (in_then m c y (statement.otherwise o) d) = stmt_leads y d
    stmt_leads s (in_else m c y o d) = stmt_leads o d
    stmt_leads s (in_turning m c y d) = exp_leads f c d
    stmt_leads s (in_body m c y d) = stmt_leads y d
    stmt_leads s (in_returned m e d) = exp_leads f e d
    stmt_leads s (in_block m b d) = let r = list_leads b 0 d in ap (λ p. stmt_at (statement.block m b) p) r.is ∙ r.found
    stmt_leads s (in_lock m e b d) = exp_leads f e d
    stmt_leads s (in_locked m e b d) =
        let r = list_leads b 1 d in
        let l = r.least in
        ap (λ p. stmt_at (statement.sync m e b) p) r.is ∙ if_false (r.k == 0) (exp_at r.rest e) (list_at 1 b r.k r.rest) (apart r.k 0 (λ j. omega (arith, j, l))) ∙ r.found

    list_leads : (b : statement.Stmts Span) (i : ℕ) (d : ListWay f b) → RowPath (λ k ks. list_at i b k ks) i (list_path i d) f
    list_leads b i (first s ss d) = record {
      k = i;
      rest = stmt_path d;
      is = refl;
      least = omega arith;
      found = if_true (i == i) (stmt_at s (stmt_path d)) (list_at (suc i) ss i (stmt_path d)) (same i i refl) ∙ stmt_leads s d;
    }
    list_leads b i (later s ss d) =
        let r = list_leads ss (suc i) d in
        let l = r.least in
        record {
          k = r.k;
          rest = r.rest;
          is = r.is;
          least = omega (arith, l);
          found = if_false (i == r.k) (stmt_at s r.rest) (list_at (suc i) ss r.k r.rest) (apart i r.k (λ j. omega (arith, j, l))) ∙ r.found;
        }

abbrev row_at : (i : ℕ) → List ℕ → statement.Stmts Span → Option (tree.Exp Span)
row_at i path b = with_rest path (λ k ks. list_at i b k ks)

-- two ways of one path lead to one expression
pub paths_tell : (b : statement.Stmts Span) (i : ℕ) (f g : tree.Exp Span) (d : ListWay f b) (e : ListWay g b) → list_path i d ≡ list_path i e → f ≡ g
paths_tell b i f g d e is =
    let r = list_leads f b i d in
    let q = list_leads g b i e in
    some f g (sym (ap (λ p. row_at i p b) r.is ∙ r.found) ∙ ap (λ p. row_at i p b) is ∙ (ap (λ p. row_at i p b) q.is ∙ q.found))
  where
    some : (x y : tree.Exp Span) → Some x ≡ Some y → x ≡ y
    some x y j = cc

-- ---- a way ends at the span of its expression

module _ (f : tree.Exp Span) where
  mutual
    exp_ends : (e : tree.Exp Span) (d : ExpWay f e) (base : ℕ) → exp_end itself base d ≡ exp_mark f
    exp_ends e here base = refl
    exp_ends e (in_front m x w d) base = exp_ends x d m.from
    exp_ends e (in_target m x w es d) base = exp_ends x d m.from
    exp_ends e (in_argument m t w es d) base = exps_ends es d m.from
    exp_ends e (in_super_argument m w es d) base = exps_ends es d m.from
    exp_ends e (in_created m t es d) base = exps_ends es d m.from
    exp_ends e (in_paren m x d) base = exp_ends x d m.from
    exp_ends e (in_cast m t x d) base = exp_ends x d m.from
    exp_ends e (in_unary m o x d) base = exp_ends x d m.from
    exp_ends e (in_bump m o x d) base = exp_ends x d m.from
    exp_ends e (in_left m o l r d) base = exp_ends l d m.from
    exp_ends e (in_right m o l r d) base = exp_ends r d m.from
    exp_ends e (in_assigned m t x d) base = exp_ends t d m.from
    exp_ends e (in_value m t x d) base = exp_ends x d m.from
    exp_ends e (in_changed m o t x d) base = exp_ends t d m.from
    exp_ends e (in_change m o t x d) base = exp_ends x d m.from

    exps_ends : (es : tree.Exps Span) (d : ExpsWay f es) (base : ℕ) → exps_end itself base d ≡ exp_mark f
    exps_ends es (first_argument e xs d) base = exp_ends e d base
    exps_ends es (later_argument e xs d) base = exps_ends xs d base

  mutual
    stmt_ends : (x : statement.Stmt Span) (d : StmtWay f x) (base : ℕ) → stmt_end itself base d ≡ exp_mark f
    stmt_ends x (in_init m is_final t w e d) base = exp_ends e d m.from
    stmt_ends x (in_eval m e d) base = exp_ends e d m.from
    stmt_ends x (in_condition m c y o d) base = exp_ends c d m.from
    stmt_ends x (in_then m c y o d) base = stmt_ends y d m.from
    stmt_ends x (in_else m c y o d) base = stmt_ends o d m.from
    stmt_ends x (in_turning m c y d) base = exp_ends c d m.from
    stmt_ends x (in_body m c y d) base = stmt_ends y d m.from
    stmt_ends x (in_returned m e d) base = exp_ends e d m.from
    stmt_ends x (in_block m b d) base = list_ends b d m.from
    stmt_ends x (in_lock m e b d) base = exp_ends e d m.from
    stmt_ends x (in_locked m e b d) base = list_ends b d m.from

    pub list_ends : (b : statement.Stmts Span) (d : ListWay f b) (base : ℕ) → list_end itself base d ≡ exp_mark f
    list_ends b (first x xs d) base = stmt_ends x d base
    list_ends b (later x xs d) base = list_ends xs d base
