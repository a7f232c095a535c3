-- Exact: what is gathered of a member's statements, which is what the flags of its locals are made
-- of: the locals that expressions write, and what the locals that are declared begin with.
use Rattle.std.specs.Prelude.{ℕ, Bool, true, false, List, [], ◌∷◌, ◌++◌, Option, Some, None}
use Rattle.jr_text.specs.declared.spans.Span.{Span}
use Rattle.jr_ast.specs.Tree as tree
use Rattle.jr_ast.specs.StatementTree as statement
use Rattle.jr_ast.specs.MemberTree as declared
use Rattle.jr_expr_sites.specs.Meanings.{Meaning, local, field, class, nothing, is_class}
use Rattle.jr_expr_sites.specs.Routes.{begins_by}

-- a local's initializer; its declaration begins at the byte `base`
pub record Begin (A : Type 0) : Type 0 where
  pub base : ℕ
  pub of : tree.Exp A

pub record Notes (A : Type 0) : Type 0 where
  pub writes : List ℕ
  pub begins : List (Begin A)

abbrev pub none : {A : Type 0} → Notes A
none = record { writes = []; begins = [] }

abbrev pub wrote : {A : Type 0} → List ℕ → Notes A
wrote ns = record { writes = ns; begins = [] }

abbrev pub both : {A : Type 0} → Notes A → Notes A → Notes A
both x y = record { writes = x.writes ++ y.writes; begins = x.begins ++ y.begins }

abbrev pub unless : Bool → List ℕ → List ℕ
unless true ns = []
unless false ns = ns

-- what a store to a name writes
abbrev pub local_in : Meaning → List ℕ
local_in (local n) = n ∷ []
local_in (field k) = []
local_in class = []
local_in nothing = []

-- means: what the reference that begins at a byte of the file means; base: where a node's parent
-- begins
module _ {A : Type 0} (tells : A → ℕ → Span) (means : ℕ → Meaning) where
  -- in front of a dot: nothing in a class's name is evaluated
  abbrev pub names_class : (base : ℕ) → tree.Exp A → Bool
  names_class base (tree.name m w) =
      is_class (means (begins_by tells w.mark (begins_by tells m base)))
  names_class base (tree.field m e w) =
      is_class (means (begins_by tells w.mark (begins_by tells m base)))
  names_class base (tree.number m n) = false
  names_class base (tree.truth m b) = false
  names_class base (tree.null m) = false
  names_class base (tree.string m s) = false
  names_class base (tree.super_field m w) = false
  names_class base (tree.this m) = false
  names_class base (tree.class_literal m t) = false
  names_class base (tree.call m t w es) = false
  names_class base (tree.super_call m w es) = false
  names_class base (tree.create m t es) = false
  names_class base (tree.paren m e) = false
  names_class base (tree.cast m t e) = false
  names_class base (tree.unary m op e) = false
  names_class base (tree.bump m op t) = false
  names_class base (tree.binary m op l r) = false
  names_class base (tree.assign m t e) = false
  names_class base (tree.compound m op t e) = false

  abbrev pub target_locals : (base : ℕ) → tree.Exp A → List ℕ
  target_locals base (tree.name m w) =
      local_in (means (begins_by tells w.mark (begins_by tells m base)))
  target_locals base (tree.field m e w) = []
  target_locals base (tree.number m n) = []
  target_locals base (tree.truth m b) = []
  target_locals base (tree.null m) = []
  target_locals base (tree.string m s) = []
  target_locals base (tree.super_field m w) = []
  target_locals base (tree.this m) = []
  target_locals base (tree.class_literal m t) = []
  target_locals base (tree.call m t w es) = []
  target_locals base (tree.super_call m w es) = []
  target_locals base (tree.create m t es) = []
  target_locals base (tree.paren m e) = []
  target_locals base (tree.cast m t e) = []
  target_locals base (tree.unary m op e) = []
  target_locals base (tree.bump m op t) = []
  target_locals base (tree.binary m op l r) = []
  target_locals base (tree.assign m t e) = []
  target_locals base (tree.compound m op t e) = []

  -- the locals that an expression writes, in evaluation order
  unfoldable mutual
    pub exp_locals : (base : ℕ) → tree.Exp A → List ℕ
    exp_locals base (tree.number m n) = []
    exp_locals base (tree.truth m b) = []
    exp_locals base (tree.null m) = []
    exp_locals base (tree.string m s) = []
    exp_locals base (tree.name m w) = []
    exp_locals base (tree.field m e w) =
        unless (names_class (begins_by tells m base) e) (exp_locals (begins_by tells m base) e)
    exp_locals base (tree.super_field m w) = []
    exp_locals base (tree.this m) = []
    exp_locals base (tree.class_literal m t) = []
    exp_locals base (tree.call m t w es) =
        receiver_locals (begins_by tells m base) t ++ exps_locals (begins_by tells m base) es
    exp_locals base (tree.super_call m w es) = exps_locals (begins_by tells m base) es
    exp_locals base (tree.create m t es) = exps_locals (begins_by tells m base) es
    exp_locals base (tree.paren m e) = exp_locals (begins_by tells m base) e
    exp_locals base (tree.cast m t e) = exp_locals (begins_by tells m base) e
    exp_locals base (tree.unary m op e) = exp_locals (begins_by tells m base) e
    exp_locals base (tree.bump m op t) =
        operand_locals (begins_by tells m base) t ++ target_locals (begins_by tells m base) t
    exp_locals base (tree.binary m op l r) =
        exp_locals (begins_by tells m base) l ++ exp_locals (begins_by tells m base) r
    exp_locals base (tree.assign m t e) = operand_locals (begins_by tells m base) t
        ++ (exp_locals (begins_by tells m base) e ++ target_locals (begins_by tells m base) t)
    exp_locals base (tree.compound m op t e) = operand_locals (begins_by tells m base) t
        ++ (exp_locals (begins_by tells m base) e ++ target_locals (begins_by tells m base) t)

    pub receiver_locals : (at : ℕ) → tree.Target A → List ℕ
    receiver_locals at tree.no_target = []
    receiver_locals at (tree.on e) = unless (names_class at e) (exp_locals at e)

    pub exps_locals : (at : ℕ) → tree.Exps A → List ℕ
    exps_locals at tree.end = []
    exps_locals at (tree.more e es) = exp_locals at e ++ exps_locals at es

    -- of what is assigned or bumped, its operand alone
    pub operand_locals : (base : ℕ) → tree.Exp A → List ℕ
    operand_locals base (tree.field m e w) =
        unless (names_class (begins_by tells m base) e) (exp_locals (begins_by tells m base) e)
    operand_locals base (tree.name m w) = []
    operand_locals base (tree.number m n) = []
    operand_locals base (tree.truth m b) = []
    operand_locals base (tree.null m) = []
    operand_locals base (tree.string m s) = []
    operand_locals base (tree.super_field m w) = []
    operand_locals base (tree.this m) = []
    operand_locals base (tree.class_literal m t) = []
    operand_locals base (tree.call m t w es) = []
    operand_locals base (tree.super_call m w es) = []
    operand_locals base (tree.create m t es) = []
    operand_locals base (tree.paren m e) = []
    operand_locals base (tree.cast m t e) = []
    operand_locals base (tree.unary m op e) = []
    operand_locals base (tree.bump m op t) = []
    operand_locals base (tree.binary m op l r) = []
    operand_locals base (tree.assign m t e) = []
    operand_locals base (tree.compound m op t e) = []

  abbrev pub maybe_locals : (at : ℕ) → Option (tree.Exp A) → List ℕ
  maybe_locals at None = []
  maybe_locals at (Some e) = exp_locals at e

  abbrev pub args_locals : (at : ℕ) → Option (tree.Exps A) → List ℕ
  args_locals at None = []
  args_locals at (Some es) = exps_locals at es

  unfoldable mutual
    pub stmt_notes : (base : ℕ) → statement.Stmt A → Notes A
    stmt_notes base (statement.local m is_final t w e) = record {
      writes = exp_locals (begins_by tells m base) e;
      begins = (record { base = begins_by tells m base; of = e }) ∷ [];
    }
    stmt_notes base (statement.eval m e) = wrote (exp_locals (begins_by tells m base) e)
    stmt_notes base (statement.branch m c s o) =
        both (wrote (exp_locals (begins_by tells m base) c))
        (both (stmt_notes (begins_by tells m base) s) (else_notes (begins_by tells m base) o))
    stmt_notes base (statement.loop m c s) =
        both (wrote (exp_locals (begins_by tells m base) c)) (stmt_notes (begins_by tells m base) s)
    stmt_notes base (statement.return m v) = wrote (maybe_locals (begins_by tells m base) v)
    stmt_notes base (statement.block m body) = stmts_notes (begins_by tells m base) body
    stmt_notes base (statement.sync m e body) =
        both (wrote (exp_locals (begins_by tells m base) e))
        (stmts_notes (begins_by tells m base) body)
    stmt_notes base (statement.empty m) = none

    pub else_notes : (at : ℕ) → statement.Else A → Notes A
    else_notes at statement.no_else = none
    else_notes at (statement.otherwise s) = stmt_notes at s

    pub stmts_notes : (at : ℕ) → statement.Stmts A → Notes A
    stmts_notes at statement.end = none
    stmts_notes at (statement.more s ss) = both (stmt_notes at s) (stmts_notes at ss)

  -- the locals that an assignment, `op=` or bump in a member writes
  abbrev pub member_locals : (base : ℕ) → declared.Member A → List ℕ
  member_locals base (declared.field m mods t w init) = maybe_locals (begins_by tells m base) init
  member_locals base (declared.method m mods t w params body) =
      (stmts_notes (begins_by tells m base) body).writes
  member_locals base (declared.constructor m mods w params args body) =
      args_locals (begins_by tells m base) args
      ++ (stmts_notes (begins_by tells m base) body).writes
  member_locals base (declared.inner m c) = []
