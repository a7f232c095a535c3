-- Code in which each name is resolved: a reference is the key of what it is bound to, and each node
-- keeps its place.
use Rattle.std.specs.Prelude.{ℕ, List}
use Rattle.jr_runs.specs.Keys.{Keys, At}
use Rattle.jr_runs.specs.Values.{Value}
use Rattle.jr_runs.specs.Rows.{Rows}

-- on ints (JLS 15.17, 15.18.2)
pub data Arithmetic : Type 0 where
  add subtract multiply divide remainder : Arithmetic

-- on ints (JLS 15.20.1)
pub data Comparison : Type 0 where
  less greater at_most at_least : Comparison

-- the binary operators that evaluate both operands; `equal` and `different` are `==` and `!=` (JLS
-- 15.21)
pub data Operator : Type 0 where
  arithmetic : (op : Arithmetic) → Operator
  comparison : (op : Comparison) → Operator
  equal different : Operator

-- JLS 15.15.3, 15.15.4, 15.15.6
pub data Sign : Type 0 where
  plus minus complement : Sign

-- JLS 15.14.2, 15.14.3, 15.15.1, 15.15.2
pub data Bump : Type 0 where
  pre_increment pre_decrement post_increment post_decrement : Bump

-- expressions (JLS 15)
mutual
  pub data Exp (K : Keys) : Type 0 where
    -- a number, `true`, `false`, `null`, a string or a class literal
    literal : (at : At K) (value : Value K) → Exp K
    this : (at : At K) → Exp K
    read : (at : At K) (from : Target K) → Exp K
    assign : (at : At K) (to : Target K) (value : Exp K) → Exp K
    -- `to op= value`
    compound : (at : At K) (op : Arithmetic) (to : Target K) (value : Exp K) → Exp K
    bump : (at : At K) (op : Bump) (to : Target K) → Exp K
    signed : (at : At K) (op : Sign) (of : Exp K) → Exp K
    binary : (at : At K) (op : Operator) (left right : Exp K) → Exp K
    -- `left && right` and `left || right` (JLS 15.23, 15.24)
    both : (at : At K) (left right : Exp K) → Exp K
    either : (at : At K) (left right : Exp K) → Exp K
    -- to a class to which the operand's type isn't assignable (JLS 15.16)
    cast : (at : At K) (class : K.class) (of : Exp K) → Exp K
    static_call : (at : At K) (method : K.method) (args : Exps K) → Exp K
    -- of what dispatch finds
    instance_call : (at : At K) (target : Exp K) (method : K.method) (args : Exps K) → Exp K
    -- of this very method; the receiver is `this`, or what stands for it
    super_call : (at : At K) (target : Exp K) (method : K.method) (args : Exps K) → Exp K
    create : (at : At K) (class : K.class) (constructor : K.constructor) (args : Exps K) → Exp K
    -- `super(args)`, on an object that is there
    super_constructor : (at : At K) (target : Exp K) (constructor : K.constructor)
        (args : Exps K) → Exp K

  -- what is read, assigned or bumped, each with the place of its name
  pub data Target (K : Keys) : Type 0 where
    local : (at : At K) (number : ℕ) → Target K
    static_field : (at : At K) (field : K.field) → Target K
    field_of : (at : At K) (of : Exp K) (field : K.field) → Target K

  pub data Exps (K : Keys) : Type 0 where
    end : Exps K
    more : (first : Exp K) (rest : Exps K) → Exps K

-- statements (JLS 14)
mutual
  pub data Stmt (K : Keys) : Type 0 where
    -- a local's declaration; the place is the local's name's
    declare : (at : At K) (number : ℕ) (init : Exp K) → Stmt K
    eval : (at : At K) (of : Exp K) → Stmt K
    -- without an `else` the second branch is empty
    branch : (at : At K) (condition : Exp K) (then otherwise : Stmt K) → Stmt K
    loop : (at : At K) (condition : Exp K) (body : Stmt K) → Stmt K
    return : (at : At K) (value : Exp K) → Stmt K
    return_nothing : (at : At K) → Stmt K
    -- With the numbers of the locals that are declared in it: they are unset where it begins, which
    -- no sound program sees.
    block : (at : At K) (locals : List ℕ) (body : Stmts K) → Stmt K
    -- the places where the monitor is entered and exited
    sync : (entered exited : At K) (lock : Exp K) (body : Stmts K) → Stmt K
    empty : (at : At K) → Stmt K

  pub data Stmts (K : Keys) : Type 0 where
    end : Stmts K
    more : (first : Stmt K) (rest : Stmts K) → Stmts K

-- A member's code. Its parameters are the first locals.
pub record Code (K : Keys) : Type 0 where
  pub params : ℕ
  pub body : Stmts K

-- A method has code, or it is `start` of Thread.
pub data Method (K : Keys) : Type 0 where
  written : (code : Code K) → Method K
  starts : Method K

pub record Program (K : Keys) : Type 0 where
  pub rows : Rows K
  pub method : K.method → Method K
  pub constructor : K.constructor → Code K
