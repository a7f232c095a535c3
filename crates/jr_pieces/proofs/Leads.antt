-- What is found by its span has a way that leads there: by induction on trees.
use Rattle.std.proofs.Common.{◌≡◌, ℕ, suc, nat_eq, Bool, true, false, ◌&&◌, List, [], ◌∷◌, Option, Some, None, if◌then◌else◌, refl, ap, subst}
use Rattle.std.proofs.lemmas.Bool.{eqb-true}
use Rattle.jr_text.specs.declared.spans.Span.{Span}
use Rattle.jr_ast.specs.declared.operators.UnOp.{UnOp}
use Rattle.jr_ast.specs.declared.operators.BinOp.{BinOp}
use Rattle.jr_ast.specs.declared.operators.BumpOp.{BumpOp}
use Rattle.jr_ast.specs.Tree as tree
use Rattle.jr_ast.specs.StatementTree as statement
use Rattle.jr_pieces.specs.Ways.{ExpWay, here, in_front, in_target, in_argument, in_super_argument, in_created, in_paren, in_cast, in_unary, in_bump, in_left, in_right, in_assigned, in_value, in_changed, in_change}
use Rattle.jr_pieces.specs.Ways.{ExpsWay, first_argument, later_argument, StmtWay, in_init, in_eval, in_condition, in_then, in_else, in_turning, in_body, in_returned, in_block, in_lock, in_locked, first, later}
use Rattle.jr_pieces.specs.Finding.{same_span, onto, here_or, exp_span, stmt_span, is_behind, find_exp, find_exps, find_stmt, find_list, exp_end, exps_end, stmt_end, exp_path, exps_path, stmt_path, LeadsTo, WhatIsFoundHasAWay}

-- ---- tests

both_true : (a b : Bool) → (a && b) ≡ true → (a ≡ true) × (b ≡ true)
both_true true b e = (refl, e)
both_true false b e = absurd (apart e)
  where
    apart : false ≡ true → ⊥
    apart j = cc

is_span : (x s : Span) → same_span x s ≡ true → x ≡ s
is_span x s e =
    let p = both_true (nat_eq x.from s.from) (nat_eq x.to s.to) e in
    let from : x.from ≡ s.from = eqb-true x.from s.from p.0 in
    let to : x.to ≡ s.to = eqb-true x.to s.to p.1 in
    λ i. record { from = from i; to = to i }

none_is : {P : Type 0} (path : List ℕ) → None ≡ Some path → P
none_is path e = absurd (apart path e)
  where
    apart : (q : List ℕ) → None ≡ Some q → ⊥
    apart q j = cc

some_is : (x y : List ℕ) → Some x ≡ Some y → x ≡ y
some_is x y e = cc

choose : (b : Bool) (x y : Option (List ℕ)) (path : List ℕ) (P : Type 0) → (if b then x else y) ≡ Some path
    → (x ≡ Some path → P) → (y ≡ Some path → P) → P
choose true x y path P e f g = f e
choose false x y path P e f g = g e

onto_then : (i : ℕ) (r : Option (List ℕ)) (path : List ℕ) (P : List ℕ → Type 0) → onto i r ≡ Some path
    → ((q : List ℕ) → r ≡ Some q → P (i ∷ q)) → P path
onto_then i None path P e f = none_is path e
onto_then i (Some q) path P e f = subst P (some_is (i ∷ q) path e) (f q refl)

-- ---- expressions

module _ {A : Type 0} (tells : A → ℕ → Span) (s : Span) where
  record ExpLeads (e : tree.Exp A) (base : ℕ) (path : List ℕ) : Type 0 where
    at : tree.Exp A
    way : ExpWay at e
    span : exp_end tells base way ≡ s
    is : exp_path way ≡ path

  record RowLeads (es : tree.Exps A) (base i : ℕ) (path : List ℕ) : Type 0 where
    at : tree.Exp A
    way : ExpsWay at es
    span : exps_end tells base way ≡ s
    is : exps_path i way ≡ path

  record StmtLeads (x : statement.Stmt A) (base : ℕ) (path : List ℕ) : Type 0 where
    at : tree.Exp A
    way : StmtWay at x
    span : stmt_end tells base way ≡ s
    is : stmt_path way ≡ path

  -- the node itself, or a part of it
  or_within : (e : tree.Exp A) (base : ℕ) (path : List ℕ) (w : Option (List ℕ)) → here_or (same_span (exp_span tells base e) s) w ≡ Some path
      → (w ≡ Some path → ExpLeads e base path) → ExpLeads e base path
  or_within e base path w h f = by (same_span (exp_span tells base e) s) refl h
    where
      by : (b : Bool) → same_span (exp_span tells base e) s ≡ b → here_or b w ≡ Some path → ExpLeads e base path
      by true q k = record { at = e; way = here; span = is_span (exp_span tells base e) s q; is = some_is [] path k }
      by false q k = f k

  by_front : (m : A) (e : tree.Exp A) (w : tree.Word A) (base : ℕ) (q : List ℕ) → ExpLeads e (tells m base).from q → ExpLeads (tree.field m e w) base (0 ∷ q)
  by_front m e w base q r = record { at = r.at; way = in_front m e w r.way; span = r.span; is = ap (λ l. 0 ∷ l) r.is }

  by_target : (m : A) (e : tree.Exp A) (w : tree.Word A) (es : tree.Exps A) (base : ℕ) (q : List ℕ) → ExpLeads e (tells m base).from q → ExpLeads (tree.call m (tree.on e) w es) base (0 ∷ q)
  by_target m e w es base q r = record { at = r.at; way = in_target m e w es r.way; span = r.span; is = ap (λ l. 0 ∷ l) r.is }

  by_paren : (m : A) (e : tree.Exp A) (base : ℕ) (q : List ℕ) → ExpLeads e (tells m base).from q → ExpLeads (tree.paren m e) base (0 ∷ q)
  by_paren m e base q r = record { at = r.at; way = in_paren m e r.way; span = r.span; is = ap (λ l. 0 ∷ l) r.is }

  by_cast : (m : A) (t : tree.TypeName A) (e : tree.Exp A) (base : ℕ) (q : List ℕ) → ExpLeads e (tells m base).from q → ExpLeads (tree.cast m t e) base (1 ∷ q)
  by_cast m t e base q r = record { at = r.at; way = in_cast m t e r.way; span = r.span; is = ap (λ l. 1 ∷ l) r.is }

  by_unary : (m : A) (o : UnOp) (e : tree.Exp A) (base : ℕ) (q : List ℕ) → ExpLeads e (tells m base).from q → ExpLeads (tree.unary m o e) base (0 ∷ q)
  by_unary m o e base q r = record { at = r.at; way = in_unary m o e r.way; span = r.span; is = ap (λ l. 0 ∷ l) r.is }

  by_bump : (m : A) (o : BumpOp) (e : tree.Exp A) (base : ℕ) (q : List ℕ) → ExpLeads e (tells m base).from q → ExpLeads (tree.bump m o e) base (0 ∷ q)
  by_bump m o e base q r = record { at = r.at; way = in_bump m o e r.way; span = r.span; is = ap (λ l. 0 ∷ l) r.is }

  by_left : (m : A) (o : BinOp) (l r2 : tree.Exp A) (base : ℕ) (q : List ℕ) → ExpLeads l (tells m base).from q → ExpLeads (tree.binary m o l r2) base (0 ∷ q)
  by_left m o l r2 base q r = record { at = r.at; way = in_left m o l r2 r.way; span = r.span; is = ap (λ l. 0 ∷ l) r.is }

  by_right : (m : A) (o : BinOp) (l r2 : tree.Exp A) (base : ℕ) (q : List ℕ) → ExpLeads r2 (tells m base).from q → ExpLeads (tree.binary m o l r2) base (1 ∷ q)
  by_right m o l r2 base q r = record { at = r.at; way = in_right m o l r2 r.way; span = r.span; is = ap (λ l. 1 ∷ l) r.is }

  by_assigned : (m : A) (l r2 : tree.Exp A) (base : ℕ) (q : List ℕ) → ExpLeads l (tells m base).from q → ExpLeads (tree.assign m l r2) base (0 ∷ q)
  by_assigned m l r2 base q r = record { at = r.at; way = in_assigned m l r2 r.way; span = r.span; is = ap (λ l. 0 ∷ l) r.is }

  by_value : (m : A) (l r2 : tree.Exp A) (base : ℕ) (q : List ℕ) → ExpLeads r2 (tells m base).from q → ExpLeads (tree.assign m l r2) base (1 ∷ q)
  by_value m l r2 base q r = record { at = r.at; way = in_value m l r2 r.way; span = r.span; is = ap (λ l. 1 ∷ l) r.is }

  by_changed : (m : A) (o : BinOp) (l r2 : tree.Exp A) (base : ℕ) (q : List ℕ) → ExpLeads l (tells m base).from q → ExpLeads (tree.compound m o l r2) base (0 ∷ q)
  by_changed m o l r2 base q r = record { at = r.at; way = in_changed m o l r2 r.way; span = r.span; is = ap (λ l. 0 ∷ l) r.is }

  by_change : (m : A) (o : BinOp) (l r2 : tree.Exp A) (base : ℕ) (q : List ℕ) → ExpLeads r2 (tells m base).from q → ExpLeads (tree.compound m o l r2) base (1 ∷ q)
  by_change m o l r2 base q r = record { at = r.at; way = in_change m o l r2 r.way; span = r.span; is = ap (λ l. 1 ∷ l) r.is }

  mutual
    exp_leads : (e : tree.Exp A) (base : ℕ) (path : List ℕ) → find_exp tells s base e ≡ Some path → ExpLeads e base path
    exp_leads (tree.number m n) base path h = or_within (tree.number m n) base path None h (λ k. none_is path k)
    exp_leads (tree.truth m b) base path h = or_within (tree.truth m b) base path None h (λ k. none_is path k)
    exp_leads (tree.null m) base path h = or_within (tree.null m) base path None h (λ k. none_is path k)
    exp_leads (tree.string m t) base path h = or_within (tree.string m t) base path None h (λ k. none_is path k)
    exp_leads (tree.name m w) base path h = or_within (tree.name m w) base path None h (λ k. none_is path k)
    exp_leads (tree.super_field m w) base path h = or_within (tree.super_field m w) base path None h (λ k. none_is path k)
    exp_leads (tree.this m) base path h = or_within (tree.this m) base path None h (λ k. none_is path k)
    exp_leads (tree.class_literal m t) base path h = or_within (tree.class_literal m t) base path None h (λ k. none_is path k)
    exp_leads (tree.field m e w) base path h = or_within (tree.field m e w) base path (onto 0 (find_exp tells s (tells m base).from e)) h
        (λ k. onto_then 0 (find_exp tells s (tells m base).from e) path (λ q. ExpLeads (tree.field m e w) base q) k (λ q z. by_front m e w base q (exp_leads e (tells m base).from q z)))
    exp_leads (tree.paren m e) base path h = or_within (tree.paren m e) base path (onto 0 (find_exp tells s (tells m base).from e)) h
        (λ k. onto_then 0 (find_exp tells s (tells m base).from e) path (λ q. ExpLeads (tree.paren m e) base q) k (λ q z. by_paren m e base q (exp_leads e (tells m base).from q z)))
    exp_leads (tree.cast m t e) base path h = or_within (tree.cast m t e) base path (onto 1 (find_exp tells s (tells m base).from e)) h
        (λ k. onto_then 1 (find_exp tells s (tells m base).from e) path (λ q. ExpLeads (tree.cast m t e) base q) k (λ q z. by_cast m t e base q (exp_leads e (tells m base).from q z)))
    exp_leads (tree.unary m o e) base path h = or_within (tree.unary m o e) base path (onto 0 (find_exp tells s (tells m base).from e)) h
        (λ k. onto_then 0 (find_exp tells s (tells m base).from e) path (λ q. ExpLeads (tree.unary m o e) base q) k (λ q z. by_unary m o e base q (exp_leads e (tells m base).from q z)))
    exp_leads (tree.bump m o e) base path h = or_within (tree.bump m o e) base path (onto 0 (find_exp tells s (tells m base).from e)) h
        (λ k. onto_then 0 (find_exp tells s (tells m base).from e) path (λ q. ExpLeads (tree.bump m o e) base q) k (λ q z. by_bump m o e base q (exp_leads e (tells m base).from q z)))
    exp_leads (tree.binary m o l r) base path h = or_within (tree.binary m o l r) base path (if is_behind tells s (exp_span tells (tells m base).from l) then onto 1 (find_exp tells s (tells m base).from r) else onto 0 (find_exp tells s (tells m base).from l)) h
        (λ k. choose (is_behind tells s (exp_span tells (tells m base).from l)) (onto 1 (find_exp tells s (tells m base).from r)) (onto 0 (find_exp tells s (tells m base).from l)) path (ExpLeads (tree.binary m o l r) base path) k
        (λ x. onto_then 1 (find_exp tells s (tells m base).from r) path (λ q. ExpLeads (tree.binary m o l r) base q) x (λ q z. by_right m o l r base q (exp_leads r (tells m base).from q z)))
        (λ x. onto_then 0 (find_exp tells s (tells m base).from l) path (λ q. ExpLeads (tree.binary m o l r) base q) x (λ q z. by_left m o l r base q (exp_leads l (tells m base).from q z))))
    exp_leads (tree.assign m l r) base path h = or_within (tree.assign m l r) base path (if is_behind tells s (exp_span tells (tells m base).from l) then onto 1 (find_exp tells s (tells m base).from r) else onto 0 (find_exp tells s (tells m base).from l)) h
        (λ k. choose (is_behind tells s (exp_span tells (tells m base).from l)) (onto 1 (find_exp tells s (tells m base).from r)) (onto 0 (find_exp tells s (tells m base).from l)) path (ExpLeads (tree.assign m l r) base path) k
        (λ x. onto_then 1 (find_exp tells s (tells m base).from r) path (λ q. ExpLeads (tree.assign m l r) base q) x (λ q z. by_value m l r base q (exp_leads r (tells m base).from q z)))
        (λ x. onto_then 0 (find_exp tells s (tells m base).from l) path (λ q. ExpLeads (tree.assign m l r) base q) x (λ q z. by_assigned m l r base q (exp_leads l (tells m base).from q z))))
    exp_leads (tree.compound m o l r) base path h = or_within (tree.compound m o l r) base path (if is_behind tells s (exp_span tells (tells m base).from l) then onto 1 (find_exp tells s (tells m base).from r) else onto 0 (find_exp tells s (tells m base).from l)) h
        (λ k. choose (is_behind tells s (exp_span tells (tells m base).from l)) (onto 1 (find_exp tells s (tells m base).from r)) (onto 0 (find_exp tells s (tells m base).from l)) path (ExpLeads (tree.compound m o l r) base path) k
        (λ x. onto_then 1 (find_exp tells s (tells m base).from r) path (λ q. ExpLeads (tree.compound m o l r) base q) x (λ q z. by_change m o l r base q (exp_leads r (tells m base).from q z)))
        (λ x. onto_then 0 (find_exp tells s (tells m base).from l) path (λ q. ExpLeads (tree.compound m o l r) base q) x (λ q z. by_changed m o l r base q (exp_leads l (tells m base).from q z))))
    exp_leads (tree.super_call m w es) base path h = or_within (tree.super_call m w es) base path (find_exps tells s (tells m base).from 1 es) h
        (λ k. let r = row_leads es (tells m base).from 1 path k in record { at = r.at; way = in_super_argument m w es r.way; span = r.span; is = r.is })
    exp_leads (tree.create m t es) base path h = or_within (tree.create m t es) base path (find_exps tells s (tells m base).from 1 es) h
        (λ k. let r = row_leads es (tells m base).from 1 path k in record { at = r.at; way = in_created m t es r.way; span = r.span; is = r.is })
    exp_leads (tree.call m tree.no_target w es) base path h = or_within (tree.call m tree.no_target w es) base path (find_exps tells s (tells m base).from 1 es) h
        (λ k. let r = row_leads es (tells m base).from 1 path k in record { at = r.at; way = in_argument m tree.no_target w es r.way; span = r.span; is = r.is })
    exp_leads (tree.call m (tree.on e) w es) base path h = or_within (tree.call m (tree.on e) w es) base path (if is_behind tells s (exp_span tells (tells m base).from e) then find_exps tells s (tells m base).from 2 es else onto 0 (find_exp tells s (tells m base).from e)) h
        (λ k. choose (is_behind tells s (exp_span tells (tells m base).from e)) (find_exps tells s (tells m base).from 2 es) (onto 0 (find_exp tells s (tells m base).from e)) path (ExpLeads (tree.call m (tree.on e) w es) base path) k
        (λ x. let r = row_leads es (tells m base).from 2 path x in record { at = r.at; way = in_argument m (tree.on e) w es r.way; span = r.span; is = r.is })
        (λ x. onto_then 0 (find_exp tells s (tells m base).from e) path (λ q. ExpLeads (tree.call m (tree.on e) w es) base q) x (λ q z. by_target m e w es base q (exp_leads e (tells m base).from q z))))

    row_leads : (es : tree.Exps A) (base i : ℕ) (path : List ℕ) → find_exps tells s base i es ≡ Some path → RowLeads es base i path
    row_leads tree.end base i path h = none_is path h
    row_leads (tree.more e es) base i path h =
        choose (is_behind tells s (exp_span tells base e)) (find_exps tells s base (suc i) es) (onto i (find_exp tells s base e)) path (RowLeads (tree.more e es) base i path) h
        (λ x. let r = row_leads es base (suc i) path x in record { at = r.at; way = later_argument e es r.way; span = r.span; is = r.is })
        (λ x. onto_then i (find_exp tells s base e) path (λ q. RowLeads (tree.more e es) base i q) x
        (λ q z. let r = exp_leads e base q z in record { at = r.at; way = first_argument e es r.way; span = r.span; is = ap (λ l. i ∷ l) r.is }))

  -- ---- statements

  -- in an expression, by the number of the child
  in_expression : (x : statement.Stmt A) (base : ℕ) (e : tree.Exp A) (m : A) (i : ℕ) (path : List ℕ) → onto i (find_exp tells s (tells m base).from e) ≡ Some path
      → ((q : List ℕ) → ExpLeads e (tells m base).from q → StmtLeads x base (i ∷ q)) → StmtLeads x base path
  in_expression x base e m i path h f = onto_then i (find_exp tells s (tells m base).from e) path (λ q. StmtLeads x base q) h (λ q z. f q (exp_leads e (tells m base).from q z))

  mutual
    stmt_leads : (x : statement.Stmt A) (base : ℕ) (path : List ℕ) → find_stmt tells s base x ≡ Some path → StmtLeads x base path
    stmt_leads (statement.return m None) base path h = none_is path h
    stmt_leads (statement.empty m) base path h = none_is path h
    stmt_leads (statement.local m is_final t w e) base path h = in_expression (statement.local m is_final t w e) base e m 2 path h (λ q r. record { at = r.at; way = in_init m is_final t w e r.way; span = r.span; is = ap (λ l. 2 ∷ l) r.is })
    stmt_leads (statement.eval m e) base path h = in_expression (statement.eval m e) base e m 0 path h (λ q r. record { at = r.at; way = in_eval m e r.way; span = r.span; is = ap (λ l. 0 ∷ l) r.is })
    stmt_leads (statement.return m (Some e)) base path h = in_expression (statement.return m (Some e)) base e m 0 path h (λ q r. record { at = r.at; way = in_returned m e r.way; span = r.span; is = ap (λ l. 0 ∷ l) r.is })
    stmt_leads (statement.loop m c x) base path h =
        choose (is_behind tells s (exp_span tells (tells m base).from c)) (onto 1 (find_stmt tells s (tells m base).from x)) (onto 0 (find_exp tells s (tells m base).from c)) path (StmtLeads (statement.loop m c x) base path) h
        (λ x1. onto_then 1 (find_stmt tells s (tells m base).from x) path (λ q. StmtLeads (statement.loop m c x) base q) x1 (λ q z. let r = stmt_leads x (tells m base).from q z in record { at = r.at; way = in_body m c x r.way; span = r.span; is = ap (λ l. 1 ∷ l) r.is }))
        (λ x1. in_expression (statement.loop m c x) base c m 0 path x1 (λ q r. record { at = r.at; way = in_turning m c x r.way; span = r.span; is = ap (λ l. 0 ∷ l) r.is }))
    stmt_leads (statement.branch m c x statement.no_else) base path h =
        choose (is_behind tells s (exp_span tells (tells m base).from c)) (onto 1 (find_stmt tells s (tells m base).from x)) (onto 0 (find_exp tells s (tells m base).from c)) path (StmtLeads (statement.branch m c x statement.no_else) base path) h
        (λ x1. onto_then 1 (find_stmt tells s (tells m base).from x) path (λ q. StmtLeads (statement.branch m c x statement.no_else) base q) x1 (λ q z. let r = stmt_leads x (tells m base).from q z in record { at = r.at; way = in_then m c x statement.no_else r.way; span = r.span; is = ap (λ l. 1 ∷ l) r.is }))
        (λ x1. in_expression (statement.branch m c x statement.no_else) base c m 0 path x1 (λ q r. record { at = r.at; way = in_condition m c x statement.no_else r.way; span = r.span; is = ap (λ l. 0 ∷ l) r.is }))
    stmt_leads (statement.branch m c x (statement.otherwise y)) base path h =
        choose (is_behind tells s (exp_span tells (tells m base).from c)) (if is_behind tells s (stmt_span tells (tells m base).from x) then onto 2 (find_stmt tells s (tells m base).from y) else onto 1 (find_stmt tells s (tells m base).from x)) (onto 0 (find_exp tells s (tells m base).from c)) path (StmtLeads (statement.branch m c x (statement.otherwise y)) base path) h
        (λ x2. choose (is_behind tells s (stmt_span tells (tells m base).from x)) (onto 2 (find_stmt tells s (tells m base).from y)) (onto 1 (find_stmt tells s (tells m base).from x)) path (StmtLeads (statement.branch m c x (statement.otherwise y)) base path) x2
        (λ x1. onto_then 2 (find_stmt tells s (tells m base).from y) path (λ q. StmtLeads (statement.branch m c x (statement.otherwise y)) base q) x1 (λ q z. let r = stmt_leads y (tells m base).from q z in record { at = r.at; way = in_else m c x y r.way; span = r.span; is = ap (λ l. 2 ∷ l) r.is }))
        (λ x1. onto_then 1 (find_stmt tells s (tells m base).from x) path (λ q. StmtLeads (statement.branch m c x (statement.otherwise y)) base q) x1 (λ q z. let r = stmt_leads x (tells m base).from q z in record { at = r.at; way = in_then m c x (statement.otherwise y) r.way; span = r.span; is = ap (λ l. 1 ∷ l) r.is })))
        (λ x1. in_expression (statement.branch m c x (statement.otherwise y)) base c m 0 path x1 (λ q r. record { at = r.at; way = in_condition m c x (statement.otherwise y) r.way; span = r.span; is = ap (λ l. 0 ∷ l) r.is }))
    stmt_leads (statement.block m b) base path h =
        let r = list_leads b (tells m base).from 0 path h in record { at = r.at; way = in_block m b r.way; span = r.span; is = r.is }
    stmt_leads (statement.sync m e b) base path h =
        choose (is_behind tells s (exp_span tells (tells m base).from e)) (find_list tells s (tells m base).from 1 b) (onto 0 (find_exp tells s (tells m base).from e)) path (StmtLeads (statement.sync m e b) base path) h
        (λ x1. let r = list_leads b (tells m base).from 1 path x1 in record { at = r.at; way = in_locked m e b r.way; span = r.span; is = r.is })
        (λ x1. in_expression (statement.sync m e b) base e m 0 path x1 (λ q r. record { at = r.at; way = in_lock m e b r.way; span = r.span; is = ap (λ l. 0 ∷ l) r.is }))

    list_leads : (b : statement.Stmts A) (base i : ℕ) (path : List ℕ) → find_list tells s base i b ≡ Some path → LeadsTo tells base i b s path
    list_leads statement.end base i path h = none_is path h
    list_leads (statement.more x xs) base i path h =
        choose (is_behind tells s (stmt_span tells base x)) (find_list tells s base (suc i) xs) (onto i (find_stmt tells s base x)) path (LeadsTo tells base i (statement.more x xs) s path) h
        (λ x1. let r = list_leads xs base (suc i) path x1 in record { at = r.at; way = later x xs r.way; span = r.span; is = r.is })
        (λ x1. onto_then i (find_stmt tells s base x) path (λ q. LeadsTo tells base i (statement.more x xs) s q) x1
        (λ q z. let r = stmt_leads x base q z in record { at = r.at; way = first x xs r.way; span = r.span; is = ap (λ l. i ∷ l) r.is }))

pub what_is_found_has_a_way : {A : Type 0} → WhatIsFoundHasAWay A
what_is_found_has_a_way tells s base i b path h = list_leads tells s b base i path h
