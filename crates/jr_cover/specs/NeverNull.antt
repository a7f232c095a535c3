-- Locals that hold values that are never null, and code that keeps them so.
use Rattle.std.specs.Prelude.{◌≡◌, ◌<◌, ℕ, Bool, true, false, List, Option}
use Rattle.jr_runs.specs.Keys.{Keys, keys_of}
use Rattle.jr_runs.specs.Values.{Value, null, Ty}
use Rattle.jr_runs.specs.Core as core
use Rattle.jr_runs.specs.Core.{Exp, Target, Exps, Stmt, Stmts, Code, Program}
use Rattle.jr_runs.specs.Evaluation.{first_locals, exp}
use Rattle.jr_runs.specs.Starting.{IsReceiver, ArgsFit}
use Rattle.jr_runs.specs.Typing.{SoundRows, CodeTyped}
use Rattle.jr_cover.specs.Evaluated.{an_exp, a_list, Gives, Evaluated, is_never_null}

-- N: the locals. None of them is assigned, and each is declared with a value that is never null.
module _ {K : Keys} (N : ℕ → Bool) where
  abbrev pub IsFree : Target K → Type 0
  IsFree (core.local p n) = N n ≡ false
  IsFree (core.static_field p f) = Unit {0}
  IsFree (core.field_of p e f) = Unit {0}

  abbrev mutual
    pub CarefulExp : Exp K → Type 0
    CarefulExp (core.literal p v) = Unit {0}
    CarefulExp (core.this p) = Unit {0}
    CarefulExp (core.read p t) = CarefulTarget t
    CarefulExp (core.assign p t e) = IsFree t × CarefulTarget t × CarefulExp e
    CarefulExp (core.compound p o t e) = IsFree t × CarefulTarget t × CarefulExp e
    CarefulExp (core.bump p o t) = IsFree t × CarefulTarget t
    CarefulExp (core.signed p o e) = CarefulExp e
    CarefulExp (core.binary p o a b) = CarefulExp a × CarefulExp b
    CarefulExp (core.both p a b) = CarefulExp a × CarefulExp b
    CarefulExp (core.either p a b) = CarefulExp a × CarefulExp b
    CarefulExp (core.cast p c e) = CarefulExp e
    CarefulExp (core.static_call p m es) = CarefulExps es
    CarefulExp (core.instance_call p e m es) = CarefulExp e × CarefulExps es
    CarefulExp (core.super_call p e m es) = CarefulExp e × CarefulExps es
    CarefulExp (core.create p c k es) = CarefulExps es
    CarefulExp (core.super_constructor p e k es) = CarefulExp e × CarefulExps es

    pub CarefulTarget : Target K → Type 0
    CarefulTarget (core.local p n) = Unit {0}
    CarefulTarget (core.static_field p f) = Unit {0}
    CarefulTarget (core.field_of p e f) = CarefulExp e

    pub CarefulExps : Exps K → Type 0
    CarefulExps core.Exps.end = Unit {0}
    CarefulExps (core.Exps.more e es) = CarefulExp e × CarefulExps es

  abbrev mutual
    pub CarefulStmt : Stmt K → Type 0
    CarefulStmt (core.declare p n e) = CarefulExp e × (N n ≡ true → is_never_null N e ≡ true)
    CarefulStmt (core.eval p e) = CarefulExp e
    CarefulStmt (core.branch p c a b) = CarefulExp c × CarefulStmt a × CarefulStmt b
    CarefulStmt (core.loop p c b) = CarefulExp c × CarefulStmt b
    CarefulStmt (core.return p e) = CarefulExp e
    CarefulStmt (core.return_nothing p) = Unit {0}
    CarefulStmt (core.block p ns b) = CarefulStmts b
    CarefulStmt (core.sync p q e b) = CarefulExp e × CarefulStmts b
    CarefulStmt (core.empty p) = Unit {0}

    pub CarefulStmts : Stmts K → Type 0
    CarefulStmts core.Stmts.end = Unit {0}
    CarefulStmts (core.Stmts.more s b) = CarefulStmt s × CarefulStmts b

-- ---- the law

-- In each run of a member on a receiver and arguments that fit, an expression that is never null
-- gives no null.
module _ {K : Keys} (P : Program K) (N : ℕ → Bool) where
  abbrev pub GivesNoNull : (me : Value K) → Code K → List (Value K) → Type 0
  GivesNoNull me c args = (e : Exp K) (l m : List (Value K)) (v : Value K)
      → Evaluated P me (a_list c.body (first_locals c.params args)) (an_exp e l)
      → is_never_null N e ≡ true → Gives P me (exp P.rows me e l) (v, m) → v ≡ null → ⊥

-- no local of N is a parameter
abbrev pub NoParam : (ℕ → Bool) → (params : ℕ) → Type 0
NoParam N params = (n : ℕ) → n < params → N n ≡ false

abbrev pub NeverNullIsNotNull : (C F M X L : Type 0) → Type 0
NeverNullIsNotNull C F M X L = (P : Program (keys_of C F M X L)) → SoundRows P.rows
    → (N : ℕ → Bool) (class : Option C) (params : List (Ty (keys_of C F M X L)))
    (result : Option (Ty (keys_of C F M X L))) (c : Code (keys_of C F M X L))
    → CodeTyped P.rows class params result c → CarefulStmts N c.body → NoParam N c.params
    → (me : Value (keys_of C F M X L)) (args : List (Value (keys_of C F M X L)))
    → IsReceiver P.rows class me → ArgsFit P.rows params args → GivesNoNull P N me c args
