-- Relations of old code and new that hold of a node, with keys by a map, where they hold of its
-- parts. An image is one (`SetImages`), and a refactoring may say others.
use Rattle.std.specs.Prelude.{ℕ, List, IsTrue}
use Rattle.jr_runs.specs.Keys.{At}
use Rattle.jr_runs.specs.Values.{Value}
use Rattle.jr_runs.specs.Core as core
use Rattle.jr_runs.specs.Rows as core_rows
use Rattle.jr_runs.specs.KeyMaps.{KeyMap, value_image}
use Rattle.jr_table.specs.Keys.{ClassKey, FieldKey, MethodKey, CtorKey}
use Rattle.jr_code.specs.RunKeys.{RunKeys}
use Rattle.jr_code.specs.Coded.{Code, TargetCode}
use Rattle.jr_code.specs.CodedStatements.{StatementCode, ListCode}

-- what is related
pub record Relations : Type 1 where
  pub exp : Code → Code → Type 0
  pub target : TargetCode → TargetCode → Type 0
  pub exps : core.Exps RunKeys → core.Exps RunKeys → Type 0
  pub stmt : StatementCode → StatementCode → Type 0
  pub stmts : ListCode → ListCode → Type 0
  -- `this` is `this`
  pub own : Type 0
  -- an old local that is kept may be named, and it may be written; the number that it gets
  pub mine : ℕ → Type 0
  pub free : ℕ → Type 0
  pub at : ℕ → ℕ
  -- the locals that a block unsets, in old code and in new
  pub block : List ℕ → List ℕ → Type 0

-- a local that is written may be
abbrev pub IsFreeTarget : (ℕ → Type 0) → TargetCode → Type 0
IsFreeTarget free (core.local p n) = free n
IsFreeTarget free _ = Unit {0}

module _ (r : KeyMap RunKeys) (R : core_rows.Rows RunKeys) (X : Relations) where
  pub record AreExpsRelated : Type 0 where
    pub of_literal : (p q : At RunKeys) (v : Value RunKeys)
        → X.exp (core.literal p v) (core.literal q (value_image r v))
    pub of_this : X.own → (p q : At RunKeys) → X.exp (core.this p) (core.this q)
    pub of_read : (p q : At RunKeys) (t u : TargetCode) → X.target t u
        → X.exp (core.read p t) (core.read q u)
    pub of_assign : (p q : At RunKeys) (t u : TargetCode) (x z : Code) → X.target t u
        → IsFreeTarget X.free t → X.exp x z → X.exp (core.assign p t x) (core.assign q u z)
    pub of_compound : (p q : At RunKeys) (op : core.Arithmetic) (t u : TargetCode) (x z : Code)
        → X.target t u → IsFreeTarget X.free t → X.exp x z
        → X.exp (core.compound p op t x) (core.compound q op u z)
    pub of_bump : (p q : At RunKeys) (op : core.Bump) (t u : TargetCode) → X.target t u
        → IsFreeTarget X.free t → X.exp (core.bump p op t) (core.bump q op u)
    pub of_signed : (p q : At RunKeys) (op : core.Sign) (x z : Code) → X.exp x z
        → X.exp (core.signed p op x) (core.signed q op z)
    pub of_binary : (p q : At RunKeys) (op : core.Operator) (x z y v : Code) → X.exp x z
        → X.exp y v → X.exp (core.binary p op x y) (core.binary q op z v)
    pub of_both : (p q : At RunKeys) (x z y v : Code) → X.exp x z → X.exp y v
        → X.exp (core.both p x y) (core.both q z v)
    pub of_either : (p q : At RunKeys) (x z y v : Code) → X.exp x z → X.exp y v
        → X.exp (core.either p x y) (core.either q z v)
    pub of_cast : (p q : At RunKeys) (k : ClassKey) (x z : Code) → X.exp x z
        → X.exp (core.cast p k x) (core.cast q (r.class k) z)
    pub of_static_call : (p q : At RunKeys) (k : MethodKey) (es fs : core.Exps RunKeys)
        → IsTrue (R.has_method k) → X.exps es fs
        → X.exp (core.static_call p k es) (core.static_call q (r.method k) fs)
    pub of_instance_call : (p q : At RunKeys) (x z : Code) (k : MethodKey)
        (es fs : core.Exps RunKeys) → IsTrue (R.has_method k) → X.exp x z → X.exps es fs
        → X.exp (core.instance_call p x k es) (core.instance_call q z (r.method k) fs)
    pub of_super_call : (p q : At RunKeys) (x z : Code) (k : MethodKey)
        (es fs : core.Exps RunKeys) → IsTrue (R.has_method k) → X.exp x z → X.exps es fs
        → X.exp (core.super_call p x k es) (core.super_call q z (r.method k) fs)
    pub of_create : (p q : At RunKeys) (k : ClassKey) (c : CtorKey) (es fs : core.Exps RunKeys)
        → IsTrue (R.has_constructor c) → X.exps es fs
        → X.exp (core.create p k c es) (core.create q (r.class k) (r.constructor c) fs)
    pub of_super_constructor : (p q : At RunKeys) (x z : Code) (c : CtorKey)
        (es fs : core.Exps RunKeys) → IsTrue (R.has_constructor c) → X.exp x z → X.exps es fs
        → X.exp (core.super_constructor p x c es)
        (core.super_constructor q z (r.constructor c) fs)
    pub of_local : (p q : At RunKeys) (n : ℕ) → X.mine n
        → X.target (core.local p n) (core.local q (X.at n))
    pub of_static_field : (p q : At RunKeys) (f : FieldKey)
        → X.target (core.static_field p f) (core.static_field q (r.field f))
    pub of_field : (p q : At RunKeys) (x z : Code) (f : FieldKey) → X.exp x z
        → X.target (core.field_of p x f) (core.field_of q z (r.field f))
    pub of_no_exps : X.exps core.Exps.end core.Exps.end
    pub of_more_exps : (x z : Code) (es fs : core.Exps RunKeys) → X.exp x z → X.exps es fs
        → X.exps (core.Exps.more x es) (core.Exps.more z fs)

  pub record AreStmtsRelated : Type 0 where
    pub of_declare : (p q : At RunKeys) (n : ℕ) (x z : Code) → X.mine n → X.free n → X.exp x z
        → X.stmt (core.declare p n x) (core.declare q (X.at n) z)
    pub of_eval : (p q : At RunKeys) (x z : Code) → X.exp x z
        → X.stmt (core.eval p x) (core.eval q z)
    pub of_branch : (p q : At RunKeys) (x z : Code) (s t u v : StatementCode) → X.exp x z
        → X.stmt s t → X.stmt u v → X.stmt (core.branch p x s u) (core.branch q z t v)
    pub of_loop : (p q : At RunKeys) (x z : Code) (s t : StatementCode) → X.exp x z → X.stmt s t
        → X.stmt (core.loop p x s) (core.loop q z t)
    pub of_return : (p q : At RunKeys) (x z : Code) → X.exp x z
        → X.stmt (core.return p x) (core.return q z)
    pub of_return_nothing : (p q : At RunKeys)
        → X.stmt (core.return_nothing p) (core.return_nothing q)
    pub of_block : (p q : At RunKeys) (ns ms : List ℕ) (s t : ListCode) → X.block ns ms
        → X.stmts s t → X.stmt (core.block p ns s) (core.block q ms t)
    pub of_sync : (p q u v : At RunKeys) (x z : Code) (s t : ListCode) → X.exp x z → X.stmts s t
        → X.stmt (core.sync p q x s) (core.sync u v z t)
    pub of_empty : (p q : At RunKeys) → X.stmt (core.empty p) (core.empty q)
    pub of_no_stmts : X.stmts core.Stmts.end core.Stmts.end
    pub of_more_stmts : (s t : StatementCode) (u v : ListCode) → X.stmt s t → X.stmts u v
        → X.stmts (core.Stmts.more s u) (core.Stmts.more t v)
