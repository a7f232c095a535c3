-- Where an expression is found by its span: from a list inward, each time into the first part that
-- doesn't end in front of the span's end. What is found is told by its path, the numbers of
-- children.
use Rattle.std.specs.Prelude.{
  ◌≡◌,
  ℕ,
  suc,
  nat_lt,
  nat_eq,
  Bool,
  ◌&&◌,
  List,
  [],
  ◌∷◌,
  Option,
  Some,
  None,
  option_map,
  if◌then◌else◌,
}
use Rattle.jr_text.specs.declared.spans.Span.{Span}
use Rattle.jr_ast.specs.Tree as tree
use Rattle.jr_ast.specs.StatementTree as statement
use Rattle.jr_ast.specs.Marks.{exp_mark, stmt_mark}
use Rattle.jr_pieces.specs.Ways.{
  ExpWay,
  here,
  in_front,
  in_target,
  in_argument,
  in_super_argument,
  in_created,
  in_paren,
  in_cast,
  in_unary,
  in_bump,
  in_left,
  in_right,
  in_assigned,
  in_value,
  in_changed,
  in_change,
  ExpsWay,
  first_argument,
  later_argument,
  StmtWay,
  in_init,
  in_eval,
  in_condition,
  in_then,
  in_else,
  in_turning,
  in_body,
  in_returned,
  in_block,
  in_lock,
  in_locked,
  ListWay,
  first,
  later,
}

abbrev pub same_span : Span → Span → Bool
same_span a b = nat_eq a.from b.from && nat_eq a.to b.to

-- a step to the child of the number, in front of a path
abbrev pub onto : ℕ → Option (List ℕ) → Option (List ℕ)
onto i path = option_map (λ is. i ∷ is) path

-- the node itself, or what is found within it
abbrev pub here_or : Bool → Option (List ℕ) → Option (List ℕ)
here_or is_here within = if is_here then Some [] else within

abbrev pub behind_target : {A : Type 0} → tree.Target A → ℕ
behind_target tree.no_target = 1
behind_target (tree.on e) = 2

module _ {A : Type 0} (tells : A → ℕ → Span) where
  abbrev pub exp_span : (base : ℕ) → tree.Exp A → Span
  exp_span base e = tells (exp_mark e) base

  abbrev pub stmt_span : (base : ℕ) → statement.Stmt A → Span
  stmt_span base s = tells (stmt_mark s) base

  -- whether the span that is looked for ends behind a part
  abbrev pub is_behind : Span → Span → Bool
  is_behind s part = nat_lt part.to s.to

-- s: the span; base: where the parent begins
module _ {A : Type 0} (tells : A → ℕ → Span) (s : Span) where
  abbrev pub is_here : A → ℕ → Bool
  is_here m base = same_span (tells m base) s

  abbrev mutual
    pub find_exp : (base : ℕ) → tree.Exp A → Option (List ℕ)
    find_exp base (tree.number m n) = here_or (is_here m base) None
    find_exp base (tree.truth m b) = here_or (is_here m base) None
    find_exp base (tree.null m) = here_or (is_here m base) None
    find_exp base (tree.string m t) = here_or (is_here m base) None
    find_exp base (tree.name m w) = here_or (is_here m base) None
    find_exp base (tree.field m e w) =
        here_or (is_here m base) (onto 0 (find_exp (tells m base).from e))
    find_exp base (tree.super_field m w) = here_or (is_here m base) None
    find_exp base (tree.this m) = here_or (is_here m base) None
    find_exp base (tree.class_literal m t) = here_or (is_here m base) None
    find_exp base (tree.call m tree.no_target w es) =
        here_or (is_here m base) (find_exps (tells m base).from 1 es)
    find_exp base (tree.call m (tree.on e) w es) = here_or (is_here m base)
        (if is_behind tells s (exp_span tells (tells m base).from e)
        then find_exps (tells m base).from 2 es else onto 0 (find_exp (tells m base).from e))
    find_exp base (tree.super_call m w es) =
        here_or (is_here m base) (find_exps (tells m base).from 1 es)
    find_exp base (tree.create m t es) =
        here_or (is_here m base) (find_exps (tells m base).from 1 es)
    find_exp base (tree.paren m e) =
        here_or (is_here m base) (onto 0 (find_exp (tells m base).from e))
    find_exp base (tree.cast m t e) =
        here_or (is_here m base) (onto 1 (find_exp (tells m base).from e))
    find_exp base (tree.unary m o e) =
        here_or (is_here m base) (onto 0 (find_exp (tells m base).from e))
    find_exp base (tree.bump m o e) =
        here_or (is_here m base) (onto 0 (find_exp (tells m base).from e))
    find_exp base (tree.binary m o l r) = here_or (is_here m base)
        (if is_behind tells s (exp_span tells (tells m base).from l)
        then onto 1 (find_exp (tells m base).from r) else onto 0 (find_exp (tells m base).from l))
    find_exp base (tree.assign m l r) = here_or (is_here m base)
        (if is_behind tells s (exp_span tells (tells m base).from l)
        then onto 1 (find_exp (tells m base).from r) else onto 0 (find_exp (tells m base).from l))
    find_exp base (tree.compound m o l r) = here_or (is_here m base)
        (if is_behind tells s (exp_span tells (tells m base).from l)
        then onto 1 (find_exp (tells m base).from r) else onto 0 (find_exp (tells m base).from l))

    -- arguments, which have numbers from this one on
    pub find_exps : (base : ℕ) → (first : ℕ) → tree.Exps A → Option (List ℕ)
    find_exps base i tree.end = None
    find_exps base i (tree.more e es) = if is_behind tells s (exp_span tells base e)
        then find_exps base (suc i) es else onto i (find_exp base e)

  abbrev mutual
    pub find_stmt : (base : ℕ) → statement.Stmt A → Option (List ℕ)
    find_stmt base (statement.local m is_final t w e) = onto 2 (find_exp (tells m base).from e)
    find_stmt base (statement.eval m e) = onto 0 (find_exp (tells m base).from e)
    find_stmt base (statement.branch m c x statement.no_else) =
        if is_behind tells s (exp_span tells (tells m base).from c)
        then onto 1 (find_stmt (tells m base).from x) else onto 0 (find_exp (tells m base).from c)
    find_stmt base (statement.branch m c x (statement.otherwise y)) =
        if is_behind tells s (exp_span tells (tells m base).from c)
        then (if is_behind tells s (stmt_span tells (tells m base).from x)
        then onto 2 (find_stmt (tells m base).from y) else onto 1 (find_stmt (tells m base).from x))
        else onto 0 (find_exp (tells m base).from c)
    find_stmt base (statement.loop m c x) =
        if is_behind tells s (exp_span tells (tells m base).from c)
        then onto 1 (find_stmt (tells m base).from x)
        else onto 0 (find_exp (tells m base).from c)
    find_stmt base (statement.return m None) = None
    find_stmt base (statement.return m (Some e)) = onto 0 (find_exp (tells m base).from e)
    find_stmt base (statement.block m b) = find_list (tells m base).from 0 b
    find_stmt base (statement.sync m e b) =
        if is_behind tells s (exp_span tells (tells m base).from e)
        then find_list (tells m base).from 1 b else onto 0 (find_exp (tells m base).from e)
    find_stmt base (statement.empty m) = None

    -- statements, which have numbers from this one on
    pub find_list : (base : ℕ) → (first : ℕ) → statement.Stmts A → Option (List ℕ)
    find_list base i statement.end = None
    find_list base i (statement.more x xs) = if is_behind tells s (stmt_span tells base x)
        then find_list base (suc i) xs else onto i (find_stmt base x)

-- ---- ways

module _ {A : Type 0} (tells : A → ℕ → Span) {f : tree.Exp A} where
  -- the span of what the way leads to
  abbrev mutual
    pub exp_end : {e : tree.Exp A} → (base : ℕ) → ExpWay f e → Span
    exp_end base here = exp_span tells base f
    exp_end base (in_front m e w d) = exp_end (tells m base).from d
    exp_end base (in_target m e w es d) = exp_end (tells m base).from d
    exp_end base (in_argument m t w es d) = exps_end (tells m base).from d
    exp_end base (in_super_argument m w es d) = exps_end (tells m base).from d
    exp_end base (in_created m t es d) = exps_end (tells m base).from d
    exp_end base (in_paren m e d) = exp_end (tells m base).from d
    exp_end base (in_cast m t e d) = exp_end (tells m base).from d
    exp_end base (in_unary m o e d) = exp_end (tells m base).from d
    exp_end base (in_bump m o e d) = exp_end (tells m base).from d
    exp_end base (in_left m o l r d) = exp_end (tells m base).from d
    exp_end base (in_right m o l r d) = exp_end (tells m base).from d
    exp_end base (in_assigned m t e d) = exp_end (tells m base).from d
    exp_end base (in_value m t e d) = exp_end (tells m base).from d
    exp_end base (in_changed m o t e d) = exp_end (tells m base).from d
    exp_end base (in_change m o t e d) = exp_end (tells m base).from d

    pub exps_end : {es : tree.Exps A} → (base : ℕ) → ExpsWay f es → Span
    exps_end base (first_argument e es d) = exp_end base d
    exps_end base (later_argument e es d) = exps_end base d

  abbrev mutual
    pub stmt_end : {x : statement.Stmt A} → (base : ℕ) → StmtWay f x → Span
    stmt_end base (in_init m is_final t w e d) = exp_end (tells m base).from d
    stmt_end base (in_eval m e d) = exp_end (tells m base).from d
    stmt_end base (in_condition m c x o d) = exp_end (tells m base).from d
    stmt_end base (in_then m c x o d) = stmt_end (tells m base).from d
    stmt_end base (in_else m c x o d) = stmt_end (tells m base).from d
    stmt_end base (in_turning m c x d) = exp_end (tells m base).from d
    stmt_end base (in_body m c x d) = stmt_end (tells m base).from d
    stmt_end base (in_returned m e d) = exp_end (tells m base).from d
    stmt_end base (in_block m b d) = list_end (tells m base).from d
    stmt_end base (in_lock m e b d) = exp_end (tells m base).from d
    stmt_end base (in_locked m e b d) = list_end (tells m base).from d

    pub list_end : {b : statement.Stmts A} → (base : ℕ) → ListWay f b → Span
    list_end base (first x xs d) = stmt_end base d
    list_end base (later x xs d) = list_end base d

module _ {A : Type 0} {f : tree.Exp A} where
  -- the numbers of the children through which the way goes
  abbrev mutual
    pub exp_path : {e : tree.Exp A} → ExpWay f e → List ℕ
    exp_path here = []
    exp_path (in_front m e w d) = 0 ∷ exp_path d
    exp_path (in_target m e w es d) = 0 ∷ exp_path d
    exp_path (in_argument m t w es d) = exps_path (behind_target t) d
    exp_path (in_super_argument m w es d) = exps_path 1 d
    exp_path (in_created m t es d) = exps_path 1 d
    exp_path (in_paren m e d) = 0 ∷ exp_path d
    exp_path (in_cast m t e d) = 1 ∷ exp_path d
    exp_path (in_unary m o e d) = 0 ∷ exp_path d
    exp_path (in_bump m o e d) = 0 ∷ exp_path d
    exp_path (in_left m o l r d) = 0 ∷ exp_path d
    exp_path (in_right m o l r d) = 1 ∷ exp_path d
    exp_path (in_assigned m t e d) = 0 ∷ exp_path d
    exp_path (in_value m t e d) = 1 ∷ exp_path d
    exp_path (in_changed m o t e d) = 0 ∷ exp_path d
    exp_path (in_change m o t e d) = 1 ∷ exp_path d

    pub exps_path : {es : tree.Exps A} → (first : ℕ) → ExpsWay f es → List ℕ
    exps_path i (first_argument e es d) = i ∷ exp_path d
    exps_path i (later_argument e es d) = exps_path (suc i) d

  abbrev mutual
    pub stmt_path : {x : statement.Stmt A} → StmtWay f x → List ℕ
    stmt_path (in_init m is_final t w e d) = 2 ∷ exp_path d
    stmt_path (in_eval m e d) = 0 ∷ exp_path d
    stmt_path (in_condition m c x o d) = 0 ∷ exp_path d
    stmt_path (in_then m c x o d) = 1 ∷ stmt_path d
    stmt_path (in_else m c x o d) = 2 ∷ stmt_path d
    stmt_path (in_turning m c x d) = 0 ∷ exp_path d
    stmt_path (in_body m c x d) = 1 ∷ stmt_path d
    stmt_path (in_returned m e d) = 0 ∷ exp_path d
    stmt_path (in_block m b d) = list_path 0 d
    stmt_path (in_lock m e b d) = 0 ∷ exp_path d
    stmt_path (in_locked m e b d) = list_path 1 d

    pub list_path : {b : statement.Stmts A} → (first : ℕ) → ListWay f b → List ℕ
    list_path i (first x xs d) = i ∷ stmt_path d
    list_path i (later x xs d) = list_path (suc i) d

-- ---- the law

-- the way of this path leads to an expression of the span
pub record LeadsTo {A : Type 0} (tells : A → ℕ → Span) (base first : ℕ) (b : statement.Stmts A)
    (s : Span) (path : List ℕ) : Type 0 where
  pub at : tree.Exp A
  pub way : ListWay at b
  pub span : list_end tells base way ≡ s
  pub is : list_path first way ≡ path

abbrev pub WhatIsFoundHasAWay : (A : Type 0) → Type 0
WhatIsFoundHasAWay A = (tells : A → ℕ → Span) (s : Span) (base first : ℕ) (b : statement.Stmts A)
    (path : List ℕ) → find_list tells s base first b ≡ Some path
    → LeadsTo tells base first b s path
