-- A call of a method becomes a block with its parameters' declarations and its body.
use Rattle.std.specs.Prelude.{◌≡◌, ◌<◌, ◌≤◌, ℕ, zero, suc, List, [], ◌++◌, map, unwrap_or}
use Rattle.std.specs.Prelude.{IsTrue}
use Rattle.jr_runs.specs.Keys.{Keys, keys_of, At}
use Rattle.jr_runs.specs.Core as core
use Rattle.jr_runs.specs.Core.{Exp, Exps, this, assign, local, Stmt, declare, eval, return, block}
use Rattle.jr_runs.specs.Core.{Stmts, Code, written, Program}
use Rattle.jr_runs.specs.KeyMaps.{same_keys}
use Rattle.jr_runs.specs.Sets.{NumberSet, everything, with_one, Within}
use Rattle.jr_runs.specs.Standing.{upto, Self, nobody, In, Standing}
use Rattle.jr_runs.specs.Images.{CastOf, Among, NoSpot, ExpTo, ExpsTo, StmtsTo, ProgramTo}
use Rattle.jr_runs.specs.Images.{lists_alone}
use Rattle.jr_runs.specs.TypedImages.{TypedProgramTo}
use Rattle.jr_runs.specs.Typing.{WellTyped}
use Rattle.jr_runs.specs.Pairs.{SomeReturns}
use Rattle.jr_runs.specs.Alike.{AlikeExactly}
use Rattle.jr_runs_calls.specs.MadeMethods.{Receiver, no_receiver, on_this, made_call}
use Rattle.jr_runs_calls.specs.Extracts.{then}

-- An instance method is called on `this`, cast or not, which is an object of one of these classes;
-- and of no class below does an object have another method for it.
abbrev pub IsFound : {K : Keys} → Program K → Standing K → K.method → Receiver K → Type 0
IsFound P s m no_receiver = Unit {0}
IsFound {K = K} P s m (on_this e) =
    ((p : At K) × CastOf (λ c. c) s.code.classes (this p) e)
    × ((k : K.class) × Among k s.code.classes
    × ((c : K.class) → IsTrue (P.rows.is_subclass c k) → unwrap_or (P.rows.dispatch c m) m ≡ m))

-- what stands for the method's `this` in the block, and the classes that it is known to have
abbrev pub self_there : {K : Keys} → Receiver K → Self → Self
self_there no_receiver self = nobody
self_there (on_this e) self = self

abbrev pub classes_there : {K : Keys} → Receiver K → List K.class → List K.class
classes_there no_receiver classes = []
classes_there (on_this e) classes = classes

-- the method's body in the block: its locals are those below size, and the caller's stay as they
-- are
abbrev pub inlined : {K : Keys} → Receiver K → Standing K → ℕ → (ℕ → ℕ) → Standing K
inlined receiver s size at = record {
  code = record {
    mine = upto size;
    at = at;
    self = self_there receiver s.code.self;
    classes = classes_there receiver s.code.classes;
    known = [];
    holds = [];
    casts = [];
  };
  others = map s.code.at s.code.mine ++ s.others;
}

abbrev pub count : {K : Keys} → Exps K → ℕ
count core.Exps.end = zero
count (core.Exps.more e es) = suc (count es)

-- each parameter from number k on, with its argument, and then the body
abbrev pub declares : {K : Keys} → At K → (ℕ → ℕ) → ℕ → Exps K → Stmts K → Stmts K
declares p at k core.Exps.end b = b
declares p at k (core.Exps.more e es) b =
    core.Stmts.more (declare p (at k) e) (declares p at (suc k) es b)

-- what becomes of the call's value: nothing, or a local is assigned it, or it is returned
pub data Used : Type 0 where
  dropped : Used
  assigned : (x : ℕ) → Used
  returned : Used

abbrev pub used_stmt : {K : Keys} → At K → Used → Exp K → Stmt K
used_stmt p dropped e = eval p e
used_stmt p (assigned x) e = eval p (assign p (local p x) e)
used_stmt p returned e = return p e

-- the last statement of the method, and the one that stands for it in the block
abbrev pub last_old : {K : Keys} → At K → Used → Exp K → Stmts K
last_old p dropped e = core.Stmts.end
last_old p (assigned x) e = core.Stmts.more (return p e) core.Stmts.end
last_old p returned e = core.Stmts.more (return p e) core.Stmts.end

abbrev pub last_new : {K : Keys} → At K → (ℕ → ℕ) → Used → Exp K → Stmts K
last_new p at dropped e = core.Stmts.end
last_new p at (assigned x) e =
    core.Stmts.more (eval p (assign p (local p (at x)) e)) core.Stmts.end
last_new p at returned e = core.Stmts.more (return p e) core.Stmts.end

-- the value that the method returns, and the one in the block
abbrev pub ValueTo : {K : Keys} → Program K → Standing K → NumberSet → Used → Exp K → Exp K
    → NumberSet → Type 0
ValueTo P s A dropped e e' B = Unit {0}
ValueTo P s A (assigned x) e e' B = ExpTo same_keys P.rows s.code A e e' B
ValueTo P s A returned e e' B = ExpTo same_keys P.rows s.code A e e' B

abbrev pub UsedFits : {K : Keys} → Standing K → Used → Type 0
UsedFits s dropped = Unit {0}
UsedFits s (assigned x) = In x s.code.mine × (In x s.code.known → ⊥)
UsedFits s returned = Unit {0}

abbrev pub behind_used : NumberSet → Used → NumberSet
behind_used A dropped = A
behind_used A (assigned x) = with_one A x
behind_used A returned = A

-- `m(a, ..);` becomes `{ T p = a; .. body }`, and what stands behind it is kept. So do
-- `x = m(a, ..);` and `return m(a, ..);`, where the body's last statement returns a value.
pub record Inlines {K : Keys} (P : Program K) (s : Standing K) (A : NumberSet)
    (old new : Stmts K) (B : NumberSet) : Type 0 where
  pub method : K.method
  pub has : IsTrue (P.rows.has_method method)
  pub code : Code K
  pub is_written : P.method method ≡ written code
  pub receiver : Receiver K
  pub is_found : IsFound P s method receiver
  pub args : Exps K
  pub new_args : Exps K
  pub params : code.params ≡ count args
  -- the method's locals are below, the parameters first; at: what becomes of each
  pub size : ℕ
  pub fewer : count args ≤ size
  pub at : ℕ → ℕ
  pub injective : (i j : ℕ) → i < size → j < size → at i ≡ at j → i ≡ j
  pub fresh : (i j : ℕ) → i < size → In j s.code.mine → s.code.at j ≡ at i → ⊥
  pub fresh_others : (i : ℕ) → i < size → In (at i) s.others → ⊥
  pub used : Used
  pub fits : UsedFits s used
  pub body : Stmts K
  pub result : Exp K
  pub last_at : At K
  pub body_is : code.body ≡ then body (last_old last_at used result)
  pub no_return : SomeReturns body → ⊥
  -- which locals agree behind the arguments
  pub between : NumberSet
  pub args_to : ExpsTo same_keys P.rows s.code A args new_args between
  pub body_behind : NumberSet
  pub new_body : Stmts K
  pub body_to : StmtsTo same_keys P.rows NoSpot (inlined receiver s size at) everything body
      new_body body_behind
  pub new_result : Exp K
  pub result_behind : NumberSet
  pub result_to : ValueTo P (inlined receiver s size at) body_behind used result new_result
      result_behind
  -- and behind the block
  pub behind : NumberSet
  pub still : Within behind (behind_used between used)
  pub rest : Stmts K
  pub new_rest : Stmts K
  pub rest_to : StmtsTo same_keys P.rows NoSpot s behind rest new_rest B
  pub eval_at : At K
  pub call_at : At K
  pub block_at : At K
  pub declare_at : At K
  pub old_is : old ≡ core.Stmts.more
      (used_stmt eval_at used (made_call receiver call_at method args)) rest
  pub new_is : new ≡ core.Stmts.more
      (block block_at (map at (upto size)) (declares declare_at at 0 new_args
      (then new_body (last_new last_at s.code.at used new_result)))) new_rest

-- Any number of calls may have become blocks. Of static methods: the types play no part.
abbrev pub InlinedProgramsAreAlike : (C F M N A : Type 0) → Type 0
InlinedProgramsAreAlike C F M N A = (P Q : Program (keys_of C F M N A))
    → ProgramTo same_keys (Inlines P) P Q → AlikeExactly same_keys P Q

-- Of instance methods too.
abbrev pub InlinedMethodsAreAlike : (C F M N A : Type 0) → Type 0
InlinedMethodsAreAlike C F M N A = (P Q : Program (keys_of C F M N A)) → WellTyped P → WellTyped Q
    → TypedProgramTo same_keys (lists_alone (Inlines P)) P Q → AlikeExactly same_keys P Q
