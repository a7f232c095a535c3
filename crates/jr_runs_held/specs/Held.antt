-- A local of one program holds the value of an expression that the other program, which has no
-- such local, evaluates wherever the one reads the local. The expression reads locals alone, and
-- makes nothing.
use Rattle.std.specs.Prelude.{◌≡◌, ℕ, List, ◌∷◌, ◌++◌, map, IsTrue}
use Rattle.jr_plans.specs.Plan.{done}
use Rattle.jr_runs.specs.Keys.{Keys, At}
use Rattle.jr_runs.specs.Values.{Value}
use Rattle.jr_runs.specs.Rows.{Rows}
use Rattle.jr_runs.specs.Arithmetic.{value}
use Rattle.jr_runs.specs.Core as core
use Rattle.jr_runs.specs.Core.{Arithmetic, Operator, Sign, Bump, Exp, read, assign, compound, bump}
use Rattle.jr_runs.specs.Core.{signed, binary, both, either, cast, static_call, instance_call}
use Rattle.jr_runs.specs.Core.{create as make, Target, local, static_field, field_of, Exps, Stmt}
use Rattle.jr_runs.specs.Core.{declare, block, Stmts}
use Rattle.jr_runs.specs.Evaluation.{local_at, cast_value, exp}
use Rattle.jr_runs.specs.Fitting.{is_instance}
use Rattle.jr_runs.specs.KeyMaps.{KeyMap}
use Rattle.jr_runs.specs.Sets.{NumberSet, with_one, with_all, Within}
use Rattle.jr_runs.specs.Standing.{Renumbering, Standing, In, IsFree}
use Rattle.jr_runs.specs.Images.{Readable, Writable, behind_write, NoSpot, ExpTo, ExpsTo, BlockTo}
use Rattle.jr_runs.specs.Images.{Among, StmtTo, StmtsTo}

-- ---- up to the last read

-- s: while the locals are known; z: behind the last read. The sets are as in `ExpTo`.
mutual
  pub data ExpUntil {K : Keys} (r : KeyMap K) (R : Rows K) (s z : Renumbering K)
      : NumberSet → Exp K → Exp K → NumberSet → Type 0 where
    until_all : (A B : NumberSet) (e e' : Exp K) → ExpTo r R s A e e' B → ExpUntil r R s z A e e' B
    until_read : (A B : NumberSet) (p q : At K) (t t' : Target K) → TargetUntil r R s z A t t' B
        → Readable B t
        → ExpUntil r R s z A (read p t) (read q t') B
    until_signed : (A B : NumberSet) (p q : At K) (op : Sign) (e e' : Exp K)
        → ExpUntil r R s z A e e' B
        → ExpUntil r R s z A (signed p op e) (signed q op e') B
    until_cast : (A B : NumberSet) (p q : At K) (c : K.class) (e e' : Exp K)
        → ExpUntil r R s z A e e' B
        → ExpUntil r R s z A (cast p c e) (cast q (r.class c) e') B
    until_left : (A B C : NumberSet) (p q : At K) (op : Operator) (a a' b b' : Exp K)
        → ExpUntil r R s z A a a' B → ExpTo r R z B b b' C
        → ExpUntil r R s z A (binary p op a b) (binary q op a' b') C
    until_right : (A B C : NumberSet) (p q : At K) (op : Operator) (a a' b b' : Exp K)
        → ExpTo r R s A a a' B → ExpUntil r R s z B b b' C
        → ExpUntil r R s z A (binary p op a b) (binary q op a' b') C
    until_both : (A B C D : NumberSet) (p q : At K) (a a' b b' : Exp K)
        → ExpUntil r R s z A a a' B → ExpTo r R z B b b' C → Within D B → Within D C
        → ExpUntil r R s z A (both p a b) (both q a' b') D
    until_either : (A B C D : NumberSet) (p q : At K) (a a' b b' : Exp K)
        → ExpUntil r R s z A a a' B → ExpTo r R z B b b' C → Within D B → Within D C
        → ExpUntil r R s z A (either p a b) (either q a' b') D
    -- the target's object, and the value
    until_target : (A B C D : NumberSet) (p q : At K) (t t' : Target K) (e e' : Exp K)
        → TargetUntil r R s z A t t' B → Writable z t
        → ExpTo r R z B e e' C → Within D (behind_write C t)
        → ExpUntil r R s z A (assign p t e) (assign q t' e') D
    until_value : (A B C D : NumberSet) (p q : At K) (t t' : Target K) (e e' : Exp K)
        → TargetBefore r R s z A t t' B → Writable z t
        → ExpUntil r R s z B e e' C → Within D (behind_write C t)
        → ExpUntil r R s z A (assign p t e) (assign q t' e') D
    until_operand : (A B C D : NumberSet) (p q : At K) (op : Arithmetic) (t t' : Target K)
        (e e' : Exp K)
        → TargetUntil r R s z A t t' B → Readable B t → Writable z t
        → ExpTo r R z B e e' C → Within D (behind_write C t)
        → ExpUntil r R s z A (compound p op t e) (compound q op t' e') D
    until_added : (A B C D : NumberSet) (p q : At K) (op : Arithmetic) (t t' : Target K)
        (e e' : Exp K)
        → TargetBefore r R s z A t t' B → Readable B t → Writable z t
        → ExpUntil r R s z B e e' C → Within D (behind_write C t)
        → ExpUntil r R s z A (compound p op t e) (compound q op t' e') D
    until_bumped : (A B C : NumberSet) (p q : At K) (op : Bump) (t t' : Target K)
        → TargetUntil r R s z A t t' B → Readable B t → Writable z t
        → Within C (behind_write B t)
        → ExpUntil r R s z A (bump p op t) (bump q op t') C
    until_static_call : (A B : NumberSet) (p q : At K) (m : K.method) (es es' : Exps K)
        → IsTrue (R.has_method m) → ExpsUntil r R s z A es es' B
        → ExpUntil r R s z A (static_call p m es) (static_call q (r.method m) es') B
    until_called : (A B C : NumberSet) (p q : At K) (e e' : Exp K) (m : K.method)
        (es es' : Exps K)
        → IsTrue (R.has_method m) → ExpUntil r R s z A e e' B → ExpsTo r R z B es es' C
        → ExpUntil r R s z A (instance_call p e m es) (instance_call q e' (r.method m) es') C
    until_given : (A B C : NumberSet) (p q : At K) (e e' : Exp K) (m : K.method)
        (es es' : Exps K)
        → IsTrue (R.has_method m) → ExpTo r R s A e e' B → ExpsUntil r R s z B es es' C
        → ExpUntil r R s z A (instance_call p e m es) (instance_call q e' (r.method m) es') C
    until_created : (A B : NumberSet) (p q : At K) (c : K.class) (k : K.constructor)
        (es es' : Exps K)
        → IsTrue (R.has_constructor k) → ExpsUntil r R s z A es es' B
        → ExpUntil r R s z A (make p c k es) (make q (r.class c) (r.constructor k) es') B

  -- the local is read in the target's object
  pub data TargetUntil {K : Keys} (r : KeyMap K) (R : Rows K) (s z : Renumbering K)
      : NumberSet → Target K → Target K → NumberSet → Type 0 where
    until_object : (A B : NumberSet) (p q : At K) (e e' : Exp K) (f : K.field)
        → ExpUntil r R s z A e e' B
        → TargetUntil r R s z A (field_of p e f) (field_of q e' (r.field f)) B

  -- it is read behind the target, which is written then
  pub data TargetBefore {K : Keys} (r : KeyMap K) (R : Rows K) (s z : Renumbering K)
      : NumberSet → Target K → Target K → NumberSet → Type 0 where
    before_local : (A : NumberSet) (p q : At K) (n : ℕ) → In n z.mine
        → TargetBefore r R s z A (local p n) (local q (z.at n)) A
    before_static : (A : NumberSet) (p q : At K) (f : K.field)
        → TargetBefore r R s z A (static_field p f) (static_field q (r.field f)) A
    before_object : (A B : NumberSet) (p q : At K) (e e' : Exp K) (f : K.field)
        → ExpTo r R s A e e' B
        → TargetBefore r R s z A (field_of p e f) (field_of q e' (r.field f)) B

  pub data ExpsUntil {K : Keys} (r : KeyMap K) (R : Rows K) (s z : Renumbering K)
      : NumberSet → Exps K → Exps K → NumberSet → Type 0 where
    until_first : (A B C : NumberSet) (e e' : Exp K) (es es' : Exps K)
        → ExpUntil r R s z A e e' B → ExpsTo r R z B es es' C
        → ExpsUntil r R s z A (core.Exps.more e es) (core.Exps.more e' es') C
    until_later : (A B C : NumberSet) (e e' : Exp K) (es es' : Exps K)
        → ExpTo r R s A e e' B → ExpsUntil r R s z B es es' C
        → ExpsUntil r R s z A (core.Exps.more e es) (core.Exps.more e' es') C

-- it calls nothing, asks nothing and fails never: it comes to a value that depends on some locals
-- alone
pub record Silent {K : Keys} (R : Rows K) (e : Exp K) (reads : List ℕ) : Type 0 where
  pub result : Value K → List (Value K) → Value K
  pub comes : (me : Value K) (l : List (Value K)) → exp R me e l ≡ done (value (result me l, l))
  pub same : (me : Value K) (l m : List (Value K))
      → ((i : ℕ) → In i reads → local_at m i ≡ local_at l i)
      → result me m ≡ result me l

-- how the rest stands: the local is a further one, and the locals that e reads are known
-- c: the classes to which the local is cast where it is read
abbrev pub holding : {K : Keys} → Standing K → List ℕ → Exp K → ℕ → List K.class → Standing K
holding s reads e n cs = record {
  code = record {
    mine = s.code.mine;
    at = s.code.at;
    self = s.code.self;
    classes = s.code.classes;
    known = reads ++ s.code.known;
    holds = (e, n) ∷ s.code.holds;
    casts = map (λ c. (c, e, n)) cs ++ s.code.casts;
  };
  others = n ∷ s.others;
}

-- Of two lists the first statements are related by the one standing, and those behind by the
-- other, of which less is known: there the local is read no more, and the known locals may be
-- written. Where the one ends and the other begins may be within blocks, and within an expression.
mutual
  pub data Until {K : Keys} (r : KeyMap K) (R : Rows K) (s z : Standing K)
      : NumberSet → Stmts K → Stmts K → NumberSet → Type 0 where
    until_here : (A B : NumberSet) (b b' : Stmts K) → StmtsTo r R NoSpot z A b b' B
        → Until r R s z A b b' B
    until_more : (A B C : NumberSet) (a a' : Stmt K) (b b' : Stmts K)
        → StmtTo r R NoSpot s A a a' B → Until r R s z B b b' C
        → Until r R s z A (core.Stmts.more a b) (core.Stmts.more a' b') C
    until_last : (A B C : NumberSet) (a a' : Stmt K) (b b' : Stmts K)
        → StmtUntil r R s z A a a' B → StmtsTo r R NoSpot z B b b' C
        → Until r R s z A (core.Stmts.more a b) (core.Stmts.more a' b') C

  pub data StmtUntil {K : Keys} (r : KeyMap K) (R : Rows K) (s z : Standing K)
      : NumberSet → Stmt K → Stmt K → NumberSet → Type 0 where
    last_declare : (A B C : NumberSet) (p q : At K) (n : ℕ) (e e' : Exp K) → IsFree z.code n
        → ExpUntil r R s.code z.code A e e' B → Within C (with_one B n)
        → StmtUntil r R s z A (declare p n e) (declare q (z.code.at n) e') C
    last_eval : (A B : NumberSet) (p q : At K) (e e' : Exp K)
        → ExpUntil r R s.code z.code A e e' B
        → StmtUntil r R s z A (core.eval p e) (core.eval q e') B
    last_return : (A B C : NumberSet) (p q : At K) (e e' : Exp K)
        → ExpUntil r R s.code z.code A e e' B
        → StmtUntil r R s z A (core.return p e) (core.return q e') C
    last_branch : (A B C D E : NumberSet) (p q : At K) (c c' : Exp K) (a a' b b' : Stmt K)
        → ExpUntil r R s.code z.code A c c' B
        → StmtTo r R NoSpot z B a a' C → StmtTo r R NoSpot z B b b' D → Within E C → Within E D
        → StmtUntil r R s z A (core.branch p c a b) (core.branch q c' a' b') E
    last_block : (A B C : NumberSet) (p q : At K) (ns ns' : List ℕ) (b b' : Stmts K)
        → BlockTo s ns ns' → Within B (with_all A ns) → Until r R s z B b b' C
        → StmtUntil r R s z A (block p ns b) (block q ns' b') C
    last_lock : (A B C : NumberSet) (p q p' q' : At K) (e e' : Exp K) (b b' : Stmts K)
        → ExpUntil r R s.code z.code A e e' B → StmtsTo r R NoSpot z B b b' C
        → StmtUntil r R s z A (core.sync p q e b) (core.sync p' q' e' b') C
    last_sync : (A B C : NumberSet) (p q p' q' : At K) (e e' : Exp K) (b b' : Stmts K)
        → ExpTo r R s.code A e e' B → Until r R s z B b b' C
        → StmtUntil r R s z A (core.sync p q e b) (core.sync p' q' e' b') C

-- A, B: which locals agree before both lists, and behind them
pub record HoldsLocal {K : Keys} (r : KeyMap K) (R : Rows K) (s : Standing K) (A : NumberSet)
    (few many : Stmts K) (B : NumberSet) : Type 0 where
  pub e : Exp K
  pub e' : Exp K
  pub reads : List ℕ
  pub silent : Silent R e reads
  pub between : NumberSet
  pub e_to : ExpTo r R s.code A e e' between
  pub number : ℕ
  pub fresh : (i : ℕ) → In i s.code.mine → s.code.at i ≡ number → ⊥
  pub fresh_others : In number s.others → ⊥
  -- the classes to which the local is cast: the value is an instance of each, or null
  pub classes : List K.class
  pub fits : (me : Value K) (l : List (Value K)) (c : K.class) → Among c classes
      → cast_value (is_instance R c (silent.result me l)) (silent.result me l)
      ≡ value (silent.result me l)
  pub place : At K
  pub rest : Stmts K
  pub many_is : many ≡ core.Stmts.more (declare place number e') rest
  pub rest_to : Until r R (holding s reads e number classes) s between few rest B
