-- The sites of expressions, statements and members, and how control goes through them (JLS 14,
-- 15.7, 15.12.4, 15.26): by what is known of a member's nodes.
use Rattle.std.specs.Prelude.{
  ℕ,
  Bool,
  true,
  false,
  ◌&&◌,
  ◌||◌,
  List,
  Option,
  Some,
  None,
  is_none,
  nat_eq,
  not,
}
use Rattle.jr_ast.specs.declared.operators.BinOp.{BinOp}
use Rattle.jr_ast.specs.declared.operators.BinOp.TheVariants.{
  Or,
  And,
  Eq,
  Ne,
  Lt,
  Gt,
  Le,
  Ge,
  Add,
  Sub,
  Mul,
  Div,
  Rem,
}
use Rattle.jr_ast.specs.Tree as tree
use Rattle.jr_ast.specs.Tree.{Word}
use Rattle.jr_ast.specs.StatementTree as statement
use Rattle.jr_ast.specs.MemberTree.{Modifier}
use Rattle.jr_runs.specs.Keys.{Keys}
use Rattle.jr_cover.specs.Facts.{Facts, Variable, is_local, is_static_field, is_instance_field}
use Rattle.jr_runs.specs.MemberTranslation.{is_synchronized}
use Rattle.jr_cover.specs.Ways.{Way, pass, one, row, fork, leave, turns, inside}

-- what is done at a site
pub data What (K : Keys) : Type 0 where
  -- a local is read or written
  reads writes : (number : ℕ) → What K
  loads stores : (field : K.field) → What K
  enters exits creates : What K
  -- what may throw; a call of a method or constructor; a loop, which may turn for ever
  checks calls loops : What K

pub record Site (K : Keys) : Type 0 where
  pub at : K.place
  pub what : What K

abbrev pub at_place : {K : Keys} → K.place → What K → Way (Site K)
at_place p w = one (record { at = p; what = w })

-- X: what is known of a member's nodes by their marks. Whoever binds supplies it.
pub record Known (K : Keys) (A : Type 0) : Type 0 where
  pub facts : Facts K A
  -- does the word in front of a dot mean a class?
  pub is_class : A → Bool
  -- can the value not be null (`this`, `new`, a string, a class, or a local that holds such)?
  pub never_null : tree.Exp A → Bool

abbrev pub unless : {K : Keys} → Bool → Way (Site K) → Way (Site K)
unless true w = pass
unless false w = w

-- a left part that is a class
abbrev pub is_class_name : {K : Keys} {A : Type 0} → Known K A → tree.Exp A → Bool
is_class_name X (tree.name a w) = is_none (X.facts.variable w.mark) && X.is_class w.mark
is_class_name X (tree.field a e w) = is_none (X.facts.variable w.mark) && X.is_class w.mark
is_class_name X (tree.number a n) = false
is_class_name X (tree.truth a b) = false
is_class_name X (tree.null a) = false
is_class_name X (tree.string a s) = false
is_class_name X (tree.super_field a w) = false
is_class_name X (tree.this a) = false
is_class_name X (tree.class_literal a t) = false
is_class_name X (tree.call a t w es) = false
is_class_name X (tree.super_call a w es) = false
is_class_name X (tree.create a t es) = false
is_class_name X (tree.paren a e) = false
is_class_name X (tree.cast a t e) = false
is_class_name X (tree.unary a op e) = false
is_class_name X (tree.bump a op t) = false
is_class_name X (tree.binary a op l r) = false
is_class_name X (tree.assign a t e) = false
is_class_name X (tree.compound a op t e) = false

-- the test for null in front of a use of the value
abbrev pub null_check : {K : Keys} {A : Type 0} → Known K A → tree.Exp A → K.place → Way (Site K)
null_check X e p = unless (is_class_name X e || X.never_null e) (at_place p What.checks)

-- what a name means: a load or a store; what is bound to nothing has none
abbrev pub load_of : {K : Keys} → K.place → Option (Variable K) → Way (Site K)
load_of p None = pass
load_of p (Some (is_local n)) = at_place p (What.reads n)
load_of p (Some (is_static_field f)) = at_place p (What.loads f)
load_of p (Some (is_instance_field f)) = at_place p (What.loads f)

abbrev pub store_of : {K : Keys} → K.place → Option (Variable K) → Way (Site K)
store_of p None = pass
store_of p (Some (is_local n)) = at_place p (What.writes n)
store_of p (Some (is_static_field f)) = at_place p (What.stores f)
store_of p (Some (is_instance_field f)) = at_place p (What.stores f)

-- the same behind a dot, where no local is meant
abbrev pub field_load : {K : Keys} → K.place → Option (Variable K) → Way (Site K)
field_load p None = pass
field_load p (Some (is_local n)) = pass
field_load p (Some (is_static_field f)) = at_place p (What.loads f)
field_load p (Some (is_instance_field f)) = at_place p (What.loads f)

abbrev pub field_store : {K : Keys} → K.place → Option (Variable K) → Way (Site K)
field_store p None = pass
field_store p (Some (is_local n)) = pass
field_store p (Some (is_static_field f)) = at_place p (What.stores f)
field_store p (Some (is_instance_field f)) = at_place p (What.stores f)

abbrev pub field_check : {K : Keys} → Way (Site K) → Option (Variable K) → Way (Site K)
field_check w None = pass
field_check w (Some (is_local n)) = pass
field_check w (Some (is_static_field f)) = w
field_check w (Some (is_instance_field f)) = w

-- A divisor is tested, unless it is a literal other than 0.
abbrev pub is_nonzero : {A : Type 0} → tree.Exp A → Bool
is_nonzero (tree.number a n) = not (nat_eq n 0)
is_nonzero (tree.truth a b) = false
is_nonzero (tree.null a) = false
is_nonzero (tree.string a s) = false
is_nonzero (tree.name a w) = false
is_nonzero (tree.field a e w) = false
is_nonzero (tree.super_field a w) = false
is_nonzero (tree.this a) = false
is_nonzero (tree.class_literal a t) = false
is_nonzero (tree.call a t w es) = false
is_nonzero (tree.super_call a w es) = false
is_nonzero (tree.create a t es) = false
is_nonzero (tree.paren a e) = false
is_nonzero (tree.cast a t e) = false
is_nonzero (tree.unary a op e) = false
is_nonzero (tree.bump a op t) = false
is_nonzero (tree.binary a op l r) = false
is_nonzero (tree.assign a t e) = false
is_nonzero (tree.compound a op t e) = false

abbrev pub mark_of : {A : Type 0} → tree.Exp A → A
mark_of (tree.number a n) = a
mark_of (tree.truth a b) = a
mark_of (tree.null a) = a
mark_of (tree.string a s) = a
mark_of (tree.name a w) = a
mark_of (tree.field a e w) = a
mark_of (tree.super_field a w) = a
mark_of (tree.this a) = a
mark_of (tree.class_literal a t) = a
mark_of (tree.call a t w es) = a
mark_of (tree.super_call a w es) = a
mark_of (tree.create a t es) = a
mark_of (tree.paren a e) = a
mark_of (tree.cast a t e) = a
mark_of (tree.unary a op e) = a
mark_of (tree.bump a op t) = a
mark_of (tree.binary a op l r) = a
mark_of (tree.assign a t e) = a
mark_of (tree.compound a op t e) = a

abbrev pub divides : BinOp → Bool
divides Or = false
divides And = false
divides Eq = false
divides Ne = false
divides Lt = false
divides Gt = false
divides Le = false
divides Ge = false
divides Add = false
divides Sub = false
divides Mul = false
divides Div = true
divides Rem = true

abbrev pub divisor_check : {K : Keys} {A : Type 0} → Known K A → BinOp → tree.Exp A → Way (Site K)
divisor_check X op e =
    unless (not (divides op) || is_nonzero e) (at_place (X.facts.first (mark_of e)) What.checks)

-- a binary operator: of `&&` and `||` the right operand may be left out
abbrev pub operands : {K : Keys} → BinOp → (left right check : Way (Site K)) → Way (Site K)
operands Or l r c = row l (fork r pass)
operands And l r c = row l (fork r pass)
operands Eq l r c = row l (row r c)
operands Ne l r c = row l (row r c)
operands Lt l r c = row l (row r c)
operands Gt l r c = row l (row r c)
operands Le l r c = row l (row r c)
operands Ge l r c = row l (row r c)
operands Add l r c = row l (row r c)
operands Sub l r c = row l (row r c)
operands Mul l r c = row l (row r c)
operands Div l r c = row l (row r c)
operands Rem l r c = row l (row r c)

abbrev mutual
  pub exp_way : {K : Keys} {A : Type 0} → Known K A → tree.Exp A → Way (Site K)
  exp_way X (tree.number a n) = pass
  exp_way X (tree.truth a b) = pass
  exp_way X (tree.null a) = pass
  exp_way X (tree.string a s) = pass
  exp_way X (tree.name a w) = load_of (X.facts.first w.mark) (X.facts.variable w.mark)
  exp_way X (tree.field a e w) = row (unless (is_class_name X e) (exp_way X e))
      (row (field_check (null_check X e (X.facts.first w.mark)) (X.facts.variable w.mark))
      (field_load (X.facts.first w.mark) (X.facts.variable w.mark)))
  exp_way X (tree.super_field a w) = field_load (X.facts.first w.mark) (X.facts.variable w.mark)
  exp_way X (tree.this a) = pass
  exp_way X (tree.class_literal a t) = pass
  exp_way X (tree.call a t w es) = row (receiver_way X t) (row (exps_way X es)
      (row (receiver_check X t (X.facts.first w.mark))
      (at_place (X.facts.first w.mark) What.calls)))
  exp_way X (tree.super_call a w es) =
      row (exps_way X es) (at_place (X.facts.first w.mark) What.calls)
  exp_way X (tree.create a t es) = row (at_place (X.facts.first a) What.creates)
      (row (exps_way X es) (at_place (X.facts.first a) What.calls))
  exp_way X (tree.paren a e) = exp_way X e
  exp_way X (tree.cast a t e) = row (exp_way X e)
      (unless (not (X.facts.is_checked a)) (at_place (X.facts.first a) What.checks))
  exp_way X (tree.unary a op e) = exp_way X e
  exp_way X (tree.bump a op t) = row (operand_way X t) (row (target_load X t) (target_store X t))
  exp_way X (tree.binary a op l r) =
      operands op (exp_way X l) (exp_way X r) (divisor_check X op r)
  exp_way X (tree.assign a t e) = row (operand_way X t)
      (row (exp_way X e) (row (target_check X t) (target_store X t)))
  exp_way X (tree.compound a op t e) = row (operand_way X t)
      (row (target_load X t) (row (exp_way X e) (row (divisor_check X op e) (target_store X t))))

  pub receiver_way : {K : Keys} {A : Type 0} → Known K A → tree.Target A → Way (Site K)
  receiver_way X tree.no_target = pass
  receiver_way X (tree.on e) = unless (is_class_name X e) (exp_way X e)

  pub exps_way : {K : Keys} {A : Type 0} → Known K A → tree.Exps A → Way (Site K)
  exps_way X tree.end = pass
  exps_way X (tree.more e es) = row (exp_way X e) (exps_way X es)

  pub receiver_check : {K : Keys} {A : Type 0} → Known K A → tree.Target A → K.place → Way (Site K)
  receiver_check X tree.no_target p = pass
  receiver_check X (tree.on e) p = null_check X e p

  -- of a target its operand alone
  pub operand_way : {K : Keys} {A : Type 0} → Known K A → tree.Exp A → Way (Site K)
  operand_way X (tree.field a e w) = unless (is_class_name X e) (exp_way X e)
  operand_way X (tree.name a w) = pass
  operand_way X (tree.super_field a w) = pass
  operand_way X (tree.number a n) = pass
  operand_way X (tree.truth a b) = pass
  operand_way X (tree.null a) = pass
  operand_way X (tree.string a s) = pass
  operand_way X (tree.this a) = pass
  operand_way X (tree.class_literal a t) = pass
  operand_way X (tree.call a t w es) = pass
  operand_way X (tree.super_call a w es) = pass
  operand_way X (tree.create a t es) = pass
  operand_way X (tree.paren a e) = pass
  operand_way X (tree.cast a t e) = pass
  operand_way X (tree.unary a op e) = pass
  operand_way X (tree.bump a op t) = pass
  operand_way X (tree.binary a op l r) = pass
  operand_way X (tree.assign a t e) = pass
  operand_way X (tree.compound a op t e) = pass

  -- the test for null of its operand
  pub target_check : {K : Keys} {A : Type 0} → Known K A → tree.Exp A → Way (Site K)
  target_check X (tree.field a e w) =
      field_check (null_check X e (X.facts.first w.mark)) (X.facts.variable w.mark)
  target_check X (tree.name a w) = pass
  target_check X (tree.super_field a w) = pass
  target_check X (tree.number a n) = pass
  target_check X (tree.truth a b) = pass
  target_check X (tree.null a) = pass
  target_check X (tree.string a s) = pass
  target_check X (tree.this a) = pass
  target_check X (tree.class_literal a t) = pass
  target_check X (tree.call a t w es) = pass
  target_check X (tree.super_call a w es) = pass
  target_check X (tree.create a t es) = pass
  target_check X (tree.paren a e) = pass
  target_check X (tree.cast a t e) = pass
  target_check X (tree.unary a op e) = pass
  target_check X (tree.bump a op t) = pass
  target_check X (tree.binary a op l r) = pass
  target_check X (tree.assign a t e) = pass
  target_check X (tree.compound a op t e) = pass

  -- the test and the load of `op=` and bumps
  pub target_load : {K : Keys} {A : Type 0} → Known K A → tree.Exp A → Way (Site K)
  target_load X (tree.name a w) = load_of (X.facts.first w.mark) (X.facts.variable w.mark)
  target_load X (tree.field a e w) =
      row (field_check (null_check X e (X.facts.first w.mark)) (X.facts.variable w.mark))
      (field_load (X.facts.first w.mark) (X.facts.variable w.mark))
  target_load X (tree.super_field a w) =
      field_load (X.facts.first w.mark) (X.facts.variable w.mark)
  target_load X (tree.number a n) = pass
  target_load X (tree.truth a b) = pass
  target_load X (tree.null a) = pass
  target_load X (tree.string a s) = pass
  target_load X (tree.this a) = pass
  target_load X (tree.class_literal a t) = pass
  target_load X (tree.call a t w es) = pass
  target_load X (tree.super_call a w es) = pass
  target_load X (tree.create a t es) = pass
  target_load X (tree.paren a e) = pass
  target_load X (tree.cast a t e) = pass
  target_load X (tree.unary a op e) = pass
  target_load X (tree.bump a op t) = pass
  target_load X (tree.binary a op l r) = pass
  target_load X (tree.assign a t e) = pass
  target_load X (tree.compound a op t e) = pass

  pub target_store : {K : Keys} {A : Type 0} → Known K A → tree.Exp A → Way (Site K)
  target_store X (tree.name a w) = store_of (X.facts.first w.mark) (X.facts.variable w.mark)
  target_store X (tree.field a e w) =
      field_store (X.facts.first w.mark) (X.facts.variable w.mark)
  target_store X (tree.super_field a w) =
      field_store (X.facts.first w.mark) (X.facts.variable w.mark)
  target_store X (tree.number a n) = pass
  target_store X (tree.truth a b) = pass
  target_store X (tree.null a) = pass
  target_store X (tree.string a s) = pass
  target_store X (tree.this a) = pass
  target_store X (tree.class_literal a t) = pass
  target_store X (tree.call a t w es) = pass
  target_store X (tree.super_call a w es) = pass
  target_store X (tree.create a t es) = pass
  target_store X (tree.paren a e) = pass
  target_store X (tree.cast a t e) = pass
  target_store X (tree.unary a op e) = pass
  target_store X (tree.bump a op t) = pass
  target_store X (tree.binary a op l r) = pass
  target_store X (tree.assign a t e) = pass
  target_store X (tree.compound a op t e) = pass

abbrev pub returned_way : {K : Keys} {A : Type 0} → Known K A → Option (tree.Exp A) → Way (Site K)
returned_way X None = leave
returned_way X (Some e) = row (exp_way X e) leave

abbrev mutual
  pub stmt_way : {K : Keys} {A : Type 0} → Known K A → statement.Stmt A → Way (Site K)
  stmt_way X (statement.local a is_final t w e) =
      row (exp_way X e) (at_place (X.facts.first w.mark) (What.writes (X.facts.number w.mark)))
  stmt_way X (statement.eval a e) = exp_way X e
  stmt_way X (statement.branch a c s o) =
      row (exp_way X c) (fork (stmt_way X s) (else_way X o))
  stmt_way X (statement.loop a c s) =
      turns (record { at = X.facts.first a; what = What.loops }) (exp_way X c) (stmt_way X s)
  stmt_way X (statement.return a v) = returned_way X v
  stmt_way X (statement.block a b) = stmts_way X b
  stmt_way X (statement.sync a e b) =
      row (exp_way X e) (row (unless (X.never_null e) (at_place (X.facts.first a) What.checks))
      (inside (record { at = X.facts.first a; what = What.enters }) (stmts_way X b)
      (record { at = X.facts.last a; what = What.exits })))
  stmt_way X (statement.empty a) = pass

  pub else_way : {K : Keys} {A : Type 0} → Known K A → statement.Else A → Way (Site K)
  else_way X statement.no_else = pass
  else_way X (statement.otherwise s) = stmt_way X s

  pub stmts_way : {K : Keys} {A : Type 0} → Known K A → statement.Stmts A → Way (Site K)
  stmts_way X statement.end = pass
  stmts_way X (statement.more s b) = row (stmt_way X s) (stmts_way X b)

-- a synchronized method is entered at its name, and exited at its last brace
abbrev pub locked_way : {K : Keys} → Bool → (entered exited : K.place) → Way (Site K)
    → Way (Site K)
locked_way true p q w = inside (record { at = p; what = What.enters }) w
    (record { at = q; what = What.exits })
locked_way false p q w = w

abbrev pub method_way : {K : Keys} {A : Type 0} → Known K A → A → List (Modifier A) → Word A
    → statement.Stmts A → Way (Site K)
method_way X a modifiers name body = locked_way (is_synchronized modifiers)
    (X.facts.first name.mark) (X.facts.last a) (stmts_way X body)
