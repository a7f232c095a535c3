-- By marks of their own and by spots pieces have the same ways: one line a node.
use Rattle.std.proofs.Common.{◌≡◌, ℕ, suc, ◌&&◌, ◌||◌, not, List, Option, Some, None, refl, sym, ◌∙◌}
use Rattle.std.specs.Prelude.{is_none}
use Rattle.jr_ast.specs.declared.operators.BinOp.{BinOp}
use Rattle.jr_ast.specs.Tree as tree
use Rattle.jr_ast.specs.StatementTree as statement
use Rattle.jr_runs.specs.Keys.{Keys}
use Rattle.jr_cover.specs.Ways.{pass, row, fork, leave, turns, inside}
use Rattle.jr_cover.specs.Sites.{What, Known, at_place, unless, is_class_name, null_check, load_of, store_of, field_load, field_store, field_check, is_nonzero, mark_of, divides, divisor_check, operands}
use Rattle.jr_cover.specs.Sites.{exp_way, exps_way, operand_way, target_check, target_load, target_store, returned_way, stmt_way, else_way, stmts_way}
use Rattle.jr_cover.specs.Spots.{Spot, onto, spot, spot_exp, spot_exps, spot_maybe, spot_stmt, spot_else, spot_stmts}
use Rattle.jr_local_moves.specs.SpotWays.{IsSame, ExpCasts, RowCasts, MaybeCasts, StmtCasts, ElseCasts, ListCasts, SpotsHaveTheWays}

module _ {A : Type 0} (begins ends : A → ℕ → ℕ) where
  -- the mark of a node, and whether it is a literal other than 0
  mark_same : (e : tree.Exp A) (base : ℕ) (p : List ℕ) → mark_of (spot_exp begins ends e base p) ≡ spot begins ends (mark_of e) base p
  unfolding spot_exp spot_exps
  mark_same (tree.number m v) base p = refl
  mark_same (tree.truth m v) base p = refl
  mark_same (tree.null m) base p = refl
  mark_same (tree.string m t) base p = refl
  mark_same (tree.name m w) base p = refl
  mark_same (tree.field m e w) base p = refl
  mark_same (tree.super_field m w) base p = refl
  mark_same (tree.this m) base p = refl
  mark_same (tree.class_literal m t) base p = refl
  mark_same (tree.call m tree.no_target w es) base p = refl
  mark_same (tree.call m (tree.on e) w es) base p = refl
  mark_same (tree.super_call m w es) base p = refl
  mark_same (tree.create m t es) base p = refl
  mark_same (tree.paren m e) base p = refl
  mark_same (tree.cast m t e) base p = refl
  mark_same (tree.unary m o e) base p = refl
  mark_same (tree.bump m o e) base p = refl
  mark_same (tree.binary m o l r) base p = refl
  mark_same (tree.assign m t e) base p = refl
  mark_same (tree.compound m o t e) base p = refl

  nonzero_same : (e : tree.Exp A) (base : ℕ) (p : List ℕ) → is_nonzero (spot_exp begins ends e base p) ≡ is_nonzero e
  unfolding spot_exp spot_exps
  nonzero_same (tree.number m v) base p = refl
  nonzero_same (tree.truth m v) base p = refl
  nonzero_same (tree.null m) base p = refl
  nonzero_same (tree.string m t) base p = refl
  nonzero_same (tree.name m w) base p = refl
  nonzero_same (tree.field m e w) base p = refl
  nonzero_same (tree.super_field m w) base p = refl
  nonzero_same (tree.this m) base p = refl
  nonzero_same (tree.class_literal m t) base p = refl
  nonzero_same (tree.call m tree.no_target w es) base p = refl
  nonzero_same (tree.call m (tree.on e) w es) base p = refl
  nonzero_same (tree.super_call m w es) base p = refl
  nonzero_same (tree.create m t es) base p = refl
  nonzero_same (tree.paren m e) base p = refl
  nonzero_same (tree.cast m t e) base p = refl
  nonzero_same (tree.unary m o e) base p = refl
  nonzero_same (tree.bump m o e) base p = refl
  nonzero_same (tree.binary m o l r) base p = refl
  nonzero_same (tree.assign m t e) base p = refl
  nonzero_same (tree.compound m o t e) base p = refl

module _ {K : Keys} {A : Type 0} (begins ends : A → ℕ → ℕ) (X : Known K A) (Y : Known K Spot) (same : IsSame begins ends X Y) where
  abbrev at : A → ℕ → List ℕ → Spot
  at m base p = spot begins ends m base p

  abbrev seen : tree.Exp A → ℕ → List ℕ → tree.Exp Spot
  seen e base p = spot_exp begins ends e base p

  pub class_same : (e : tree.Exp A) (base : ℕ) (p : List ℕ) → is_class_name X e ≡ is_class_name Y (seen e base p)
  unfolding spot_exp spot_exps
  class_same (tree.name m w) base p = let k = same.marks w.mark (begins m base) (onto p 0) in λ i. is_none (k.variable i) && k.is_class i
  class_same (tree.field m e w) base p = let k = same.marks w.mark (begins m base) (onto p 1) in λ i. is_none (k.variable i) && k.is_class i
  class_same (tree.number m v) base p = refl
  class_same (tree.truth m v) base p = refl
  class_same (tree.null m) base p = refl
  class_same (tree.string m t) base p = refl
  class_same (tree.super_field m w) base p = refl
  class_same (tree.this m) base p = refl
  class_same (tree.class_literal m t) base p = refl
  class_same (tree.call m tree.no_target w es) base p = refl
  class_same (tree.call m (tree.on e) w es) base p = refl
  class_same (tree.super_call m w es) base p = refl
  class_same (tree.create m t es) base p = refl
  class_same (tree.paren m e) base p = refl
  class_same (tree.cast m t e) base p = refl
  class_same (tree.unary m o e) base p = refl
  class_same (tree.bump m o e) base p = refl
  class_same (tree.binary m o l r) base p = refl
  class_same (tree.assign m t e) base p = refl
  class_same (tree.compound m o t e) base p = refl

  null_same : (e : tree.Exp A) (base : ℕ) (p : List ℕ) (q r : K.place) → q ≡ r → null_check X e q ≡ null_check Y (seen e base p) r
  null_same e base p q r is = λ i. unless (class_same e base p i || same.never_null e base p i) (at_place (is i) What.checks)

  divisor_same : (o : BinOp) (e : tree.Exp A) (base : ℕ) (p : List ℕ) → divisor_check X o e ≡ divisor_check Y o (seen e base p)
  divisor_same o e base p =
      let k = same.marks (mark_of e) base p in
      (λ i. unless (not (divides o) || is_nonzero e) (at_place (k.first i) What.checks))
      ∙ (λ i. unless (not (divides o) || sym (nonzero_same begins ends e base p) i) (at_place (Y.facts.first (sym (mark_same begins ends e base p) i)) What.checks))

  -- ---- targets

  check_same : (t : tree.Exp A) (base : ℕ) (p : List ℕ) → target_check X t ≡ target_check Y (seen t base p)
  unfolding spot_exp spot_exps
  check_same (tree.field m e w) base p = let k = same.marks w.mark (begins m base) (onto p 1) in λ i. field_check (null_same e (begins m base) (onto p 0) (X.facts.first w.mark) (Y.facts.first (at w.mark (begins m base) (onto p 1))) k.first i) (k.variable i)
  check_same (tree.number m v) base p = refl
  check_same (tree.truth m v) base p = refl
  check_same (tree.null m) base p = refl
  check_same (tree.string m t) base p = refl
  check_same (tree.name m w) base p = refl
  check_same (tree.super_field m w) base p = refl
  check_same (tree.this m) base p = refl
  check_same (tree.class_literal m t) base p = refl
  check_same (tree.call m tree.no_target w es) base p = refl
  check_same (tree.call m (tree.on e) w es) base p = refl
  check_same (tree.super_call m w es) base p = refl
  check_same (tree.create m t es) base p = refl
  check_same (tree.paren m e) base p = refl
  check_same (tree.cast m t e) base p = refl
  check_same (tree.unary m o e) base p = refl
  check_same (tree.bump m o e) base p = refl
  check_same (tree.binary m o l r) base p = refl
  check_same (tree.assign m t e) base p = refl
  check_same (tree.compound m o t e) base p = refl

  pub load_same : (t : tree.Exp A) (base : ℕ) (p : List ℕ) → target_load X t ≡ target_load Y (seen t base p)
  unfolding spot_exp spot_exps
  load_same (tree.name m w) base p = let k = same.marks w.mark (begins m base) (onto p 0) in λ i. load_of (k.first i) (k.variable i)
  load_same (tree.field m e w) base p = let k = same.marks w.mark (begins m base) (onto p 1) in
      λ i. row (field_check (null_same e (begins m base) (onto p 0) (X.facts.first w.mark) (Y.facts.first (at w.mark (begins m base) (onto p 1))) k.first i) (k.variable i)) (field_load (k.first i) (k.variable i))
  load_same (tree.super_field m w) base p = let k = same.marks w.mark (begins m base) (onto p 0) in λ i. field_load (k.first i) (k.variable i)
  load_same (tree.number m v) base p = refl
  load_same (tree.truth m v) base p = refl
  load_same (tree.null m) base p = refl
  load_same (tree.string m t) base p = refl
  load_same (tree.this m) base p = refl
  load_same (tree.class_literal m t) base p = refl
  load_same (tree.call m tree.no_target w es) base p = refl
  load_same (tree.call m (tree.on e) w es) base p = refl
  load_same (tree.super_call m w es) base p = refl
  load_same (tree.create m t es) base p = refl
  load_same (tree.paren m e) base p = refl
  load_same (tree.cast m t e) base p = refl
  load_same (tree.unary m o e) base p = refl
  load_same (tree.bump m o e) base p = refl
  load_same (tree.binary m o l r) base p = refl
  load_same (tree.assign m t e) base p = refl
  load_same (tree.compound m o t e) base p = refl

  store_same : (t : tree.Exp A) (base : ℕ) (p : List ℕ) → target_store X t ≡ target_store Y (seen t base p)
  unfolding spot_exp spot_exps
  store_same (tree.name m w) base p = let k = same.marks w.mark (begins m base) (onto p 0) in λ i. store_of (k.first i) (k.variable i)
  store_same (tree.field m e w) base p = let k = same.marks w.mark (begins m base) (onto p 1) in λ i. field_store (k.first i) (k.variable i)
  store_same (tree.super_field m w) base p = let k = same.marks w.mark (begins m base) (onto p 0) in λ i. field_store (k.first i) (k.variable i)
  store_same (tree.number m v) base p = refl
  store_same (tree.truth m v) base p = refl
  store_same (tree.null m) base p = refl
  store_same (tree.string m t) base p = refl
  store_same (tree.this m) base p = refl
  store_same (tree.class_literal m t) base p = refl
  store_same (tree.call m tree.no_target w es) base p = refl
  store_same (tree.call m (tree.on e) w es) base p = refl
  store_same (tree.super_call m w es) base p = refl
  store_same (tree.create m t es) base p = refl
  store_same (tree.paren m e) base p = refl
  store_same (tree.cast m t e) base p = refl
  store_same (tree.unary m o e) base p = refl
  store_same (tree.bump m o e) base p = refl
  store_same (tree.binary m o l r) base p = refl
  store_same (tree.assign m t e) base p = refl
  store_same (tree.compound m o t e) base p = refl

  -- ---- expressions

  mutual
    unfolding spot_exp spot_exps

    pub exp_same : (e : tree.Exp A) (base : ℕ) (p : List ℕ) → ExpCasts begins ends X Y e base p → exp_way X e ≡ exp_way Y (seen e base p)
    exp_same (tree.number m v) base p c = refl
    exp_same (tree.truth m v) base p c = refl
    exp_same (tree.null m) base p c = refl
    exp_same (tree.string m t) base p c = refl
    exp_same (tree.name m w) base p c = let k = same.marks w.mark (begins m base) (onto p 0) in λ i. load_of (k.first i) (k.variable i)
    exp_same (tree.field m e w) base p c =
        let k = same.marks w.mark (begins m base) (onto p 1) in
        let own = exp_same e (begins m base) (onto p 0) c in
        λ i. row (unless (class_same e (begins m base) (onto p 0) i) (own i))
        (row (field_check (null_same e (begins m base) (onto p 0) (X.facts.first w.mark) (Y.facts.first (at w.mark (begins m base) (onto p 1))) k.first i) (k.variable i)) (field_load (k.first i) (k.variable i)))
    exp_same (tree.super_field m w) base p c = let k = same.marks w.mark (begins m base) (onto p 0) in λ i. field_load (k.first i) (k.variable i)
    exp_same (tree.this m) base p c = refl
    exp_same (tree.class_literal m t) base p c = refl
    exp_same (tree.call m tree.no_target w es) base p c =
        let k = same.marks w.mark (begins m base) (onto p 0) in
        let args = row_same es (begins m base) p 1 c in
        λ i. row pass (row (args i) (row pass (at_place (k.first i) What.calls)))
    exp_same (tree.call m (tree.on e) w es) base p c =
        let k = same.marks w.mark (begins m base) (onto p 1) in
        let own = exp_same e (begins m base) (onto p 0) c.0 in
        let args = row_same es (begins m base) p 2 c.1 in
        λ i. row (unless (class_same e (begins m base) (onto p 0) i) (own i))
        (row (args i) (row (null_same e (begins m base) (onto p 0) (X.facts.first w.mark) (Y.facts.first (at w.mark (begins m base) (onto p 1))) k.first i) (at_place (k.first i) What.calls)))
    exp_same (tree.super_call m w es) base p c =
        let k = same.marks w.mark (begins m base) (onto p 0) in
        let args = row_same es (begins m base) p 1 c in
        λ i. row (args i) (at_place (k.first i) What.calls)
    exp_same (tree.create m t es) base p c =
        let k = same.marks m base p in
        let args = row_same es (begins m base) p 1 c in
        λ i. row (at_place (k.first i) What.creates) (row (args i) (at_place (k.first i) What.calls))
    exp_same (tree.paren m e) base p c = exp_same e (begins m base) (onto p 0) c
    exp_same (tree.cast m t e) base p c =
        let k = same.marks m base p in
        let own = exp_same e (begins m base) (onto p 1) c.1 in
        λ i. row (own i) (unless (not (c.0 i)) (at_place (k.first i) What.checks))
    exp_same (tree.unary m o e) base p c = exp_same e (begins m base) (onto p 0) c
    exp_same (tree.bump m o t) base p c =
        let operand = operand_same t (begins m base) (onto p 0) c in
        λ i. row (operand i) (row (load_same t (begins m base) (onto p 0) i) (store_same t (begins m base) (onto p 0) i))
    exp_same (tree.binary m o l r) base p c =
        let left = exp_same l (begins m base) (onto p 0) c.0 in
        let right = exp_same r (begins m base) (onto p 1) c.1 in
        λ i. operands o (left i) (right i) (divisor_same o r (begins m base) (onto p 1) i)
    exp_same (tree.assign m t e) base p c =
        let operand = operand_same t (begins m base) (onto p 0) c.0 in
        let own = exp_same e (begins m base) (onto p 1) c.1 in
        λ i. row (operand i) (row (own i) (row (check_same t (begins m base) (onto p 0) i) (store_same t (begins m base) (onto p 0) i)))
    exp_same (tree.compound m o t e) base p c =
        let operand = operand_same t (begins m base) (onto p 0) c.0 in
        let own = exp_same e (begins m base) (onto p 1) c.1 in
        λ i. row (operand i) (row (load_same t (begins m base) (onto p 0) i) (row (own i) (row (divisor_same o e (begins m base) (onto p 1) i) (store_same t (begins m base) (onto p 0) i))))

    row_same : (es : tree.Exps A) (base : ℕ) (p : List ℕ) (n : ℕ) → RowCasts begins ends X Y es base p n → exps_way X es ≡ exps_way Y (spot_exps begins ends es base p n)
    row_same tree.end base p n c = refl
    row_same (tree.more e es) base p n c =
        let own = exp_same e base (onto p n) c.0 in
        let rest = row_same es base p (suc n) c.1 in
        λ i. row (own i) (rest i)

    pub operand_same : (t : tree.Exp A) (base : ℕ) (p : List ℕ) → ExpCasts begins ends X Y t base p → operand_way X t ≡ operand_way Y (seen t base p)
    operand_same (tree.field m e w) base p c =
        let own = exp_same e (begins m base) (onto p 0) c in
        λ i. unless (class_same e (begins m base) (onto p 0) i) (own i)
    operand_same (tree.number m v) base p c = refl
    operand_same (tree.truth m v) base p c = refl
    operand_same (tree.null m) base p c = refl
    operand_same (tree.string m t) base p c = refl
    operand_same (tree.name m w) base p c = refl
    operand_same (tree.super_field m w) base p c = refl
    operand_same (tree.this m) base p c = refl
    operand_same (tree.class_literal m t) base p c = refl
    operand_same (tree.call m tree.no_target w es) base p c = refl
    operand_same (tree.call m (tree.on e) w es) base p c = refl
    operand_same (tree.super_call m w es) base p c = refl
    operand_same (tree.create m t es) base p c = refl
    operand_same (tree.paren m e) base p c = refl
    operand_same (tree.cast m t e) base p c = refl
    operand_same (tree.unary m o e) base p c = refl
    operand_same (tree.bump m o e) base p c = refl
    operand_same (tree.binary m o l r) base p c = refl
    operand_same (tree.assign m t e) base p c = refl
    operand_same (tree.compound m o t e) base p c = refl

  -- ---- statements

  maybe_same : (v : Option (tree.Exp A)) (base : ℕ) (p : List ℕ) → MaybeCasts begins ends X Y v base p → returned_way X v ≡ returned_way Y (spot_maybe begins ends v base p)
  maybe_same None base p c = refl
  maybe_same (Some e) base p c = let own = exp_same e base p c in λ i. row (own i) leave

  mutual
    unfolding spot_stmt spot_else spot_stmts

    pub stmt_same : (s : statement.Stmt A) (base : ℕ) (p : List ℕ) → StmtCasts begins ends X Y s base p → stmt_way X s ≡ stmt_way Y (spot_stmt begins ends s base p)
    stmt_same (statement.local m is_final t w e) base p c =
        let k = same.marks w.mark (begins m base) (onto p 1) in
        let own = exp_same e (begins m base) (onto p 2) c.1 in
        λ i. row (own i) (at_place (k.first i) (What.writes (c.0 i)))
    stmt_same (statement.eval m e) base p c = exp_same e (begins m base) (onto p 0) c
    stmt_same (statement.branch m x s o) base p c =
        let test = exp_same x (begins m base) (onto p 0) c.0 in
        let first = stmt_same s (begins m base) (onto p 1) c.1 in
        let second = else_same o (begins m base) (onto p 2) c.2 in
        λ i. row (test i) (fork (first i) (second i))
    stmt_same (statement.loop m x s) base p c =
        let k = same.marks m base p in
        let test = exp_same x (begins m base) (onto p 0) c.0 in
        let body = stmt_same s (begins m base) (onto p 1) c.1 in
        λ i. turns (record { at = k.first i; what = What.loops }) (test i) (body i)
    stmt_same (statement.return m v) base p c = maybe_same v (begins m base) (onto p 0) c
    stmt_same (statement.block m b) base p c = list_same b (begins m base) p 0 c
    stmt_same (statement.sync m e b) base p c =
        let k = same.marks m base p in
        let own = exp_same e (begins m base) (onto p 0) c.0 in
        let body = list_same b (begins m base) p 1 c.1 in
        λ i. row (own i) (row (unless (same.never_null e (begins m base) (onto p 0) i) (at_place (k.first i) What.checks))
        (inside (record { at = k.first i; what = What.enters }) (body i) (record { at = k.last i; what = What.exits })))
    stmt_same (statement.empty m) base p c = refl

    else_same : (o : statement.Else A) (base : ℕ) (p : List ℕ) → ElseCasts begins ends X Y o base p → else_way X o ≡ else_way Y (spot_else begins ends o base p)
    else_same statement.no_else base p c = refl
    else_same (statement.otherwise s) base p c = stmt_same s base p c

    pub list_same : (b : statement.Stmts A) (base : ℕ) (p : List ℕ) (n : ℕ) → ListCasts begins ends X Y b base p n → stmts_way X b ≡ stmts_way Y (spot_stmts begins ends b base p n)
    list_same statement.end base p n c = refl
    list_same (statement.more s ss) base p n c =
        let own = stmt_same s base (onto p n) c.0 in
        let rest = list_same ss base p (suc n) c.1 in
        λ i. row (own i) (rest i)

pub spots_have_the_ways : {C F M N L A : Type 0} → SpotsHaveTheWays C F M N L A
spots_have_the_ways = λ begins ends X Y same. (exp_same begins ends X Y same, stmt_same begins ends X Y same, list_same begins ends X Y same)
