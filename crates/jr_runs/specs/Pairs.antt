-- Which calls of the old and of the new program belong together, and how their answers do.
use Rattle.std.specs.Prelude.{◌≡◌, ◌⊎◌, ℕ, List, map, Option, Some, None, IsTrue}
use Rattle.jr_runs.specs.Keys.{Keys, At}
use Rattle.jr_runs.specs.Values.{Value}
use Rattle.jr_runs.specs.Rows.{Rows}
use Rattle.jr_runs.specs.Arithmetic.{Out, value, thrown}
use Rattle.jr_runs.specs.Core as core
use Rattle.jr_runs.specs.Core.{Exp, Target, local, static_field, field_of, Stmt}
use Rattle.jr_runs.specs.Core.{declare, eval, branch, loop, return, return_nothing}
use Rattle.jr_runs.specs.Core.{block, sync, empty, Stmts}
use Rattle.jr_runs.specs.Evaluation.{Flow, goes_on, returns, Call, invoke, construct, turn, Slot}
use Rattle.jr_runs.specs.Evaluation.{in_local, in_static, in_object}
use Rattle.jr_runs.specs.KeyMaps.{KeyMap, value_image}
use Rattle.jr_runs.specs.Sets.{NumberSet, Within}
use Rattle.jr_runs.specs.Standing.{In, Standing, Stands, Frame, Holding, Shifted}
use Rattle.jr_runs.specs.Images.{ExpImage, Spots, AllSpots, lists_alone, StmtImage}

-- both have a value, of which Q holds, or both throw the same
abbrev pub OutRel : {A B : Type 0} → (A → B → Type 0) → Out A → Out B → Type 0
OutRel Q (value a) (value b) = Q a b
OutRel Q (thrown f) (thrown g) = f ≡ g
OutRel Q (value a) (thrown g) = ⊥
OutRel Q (thrown f) (value b) = ⊥

abbrev pub ImageOf : {K : Keys} → KeyMap K → Value K → Value K → Type 0
ImageOf r v v' = v' ≡ value_image r v

-- a value, and the locals behind it, of which those of the set agree
abbrev pub ResultRel : {K : Keys} → KeyMap K → Standing K → Frame K → NumberSet
    → Value K × List (Value K) → Value K × List (Value K) → Type 0
ResultRel r s frame A a b = ImageOf r a.0 b.0 × Shifted r s frame A a.1 b.1

abbrev pub ListRel : {K : Keys} → KeyMap K → Standing K → Frame K → NumberSet
    → List (Value K) × List (Value K) → List (Value K) × List (Value K) → Type 0
ListRel r s frame A a b = (b.0 ≡ map (value_image r) a.0) × Shifted r s frame A a.1 b.1

-- what a target comes to on both sides
pub data SlotTo {K : Keys} (r : KeyMap K) (s : Standing K) : Target K → Slot K → Slot K
    → Type 0 where
  local_slots : (p : At K) (n : ℕ) → In n s.code.mine
      → SlotTo r s (local p n) (in_local n) (in_local (s.code.at n))
  static_slots : (p q : At K) (f : K.field)
      → SlotTo r s (static_field p f) (in_static p f) (in_static q (r.field f))
  object_slots : (p q : At K) (e : Exp K) (o o' : Value K) (f : K.field) → ImageOf r o o'
      → SlotTo r s (field_of p e f) (in_object p o f) (in_object q o' (r.field f))

abbrev pub SlotRel : {K : Keys} → KeyMap K → Standing K → Frame K → NumberSet → Target K
    → Slot K × List (Value K) → Slot K × List (Value K) → Type 0
SlotRel r s frame A t a b = SlotTo r s t a.0 b.0 × Shifted r s frame A a.1 b.1

abbrev pub GivenImage : {K : Keys} → KeyMap K → Option (Value K) → Option (Value K) → Type 0
GivenImage r (Some v) (Some v') = ImageOf r v v'
GivenImage r None None = Unit {0}
GivenImage r (Some v) None = ⊥
GivenImage r None (Some v) = ⊥

-- L: how the locals behind it are related; M: may the code return?
abbrev pub FlowRel : {K : Keys} → KeyMap K → (List (Value K) → List (Value K) → Type 0)
    → Type 0 → Flow K
    → Flow K → Type 0
FlowRel r L M (goes_on l) (goes_on l') = L l l'
FlowRel r L M (returns v) (returns v') = GivenImage r v v' × M
FlowRel r L M (goes_on l) (returns v) = ⊥
FlowRel r L M (returns v) (goes_on l) = ⊥

-- what a caller gets: nothing where a body goes on to its end, as where it returns nothing
abbrev pub given_of : {K : Keys} → Flow K → Option (Value K)
given_of (goes_on l) = None
given_of (returns v) = v

-- How the outcomes of two runs of one method belong together: a caller sees what it is given, and
-- neither the locals of what it called nor whether a body without a value returned or went on.
abbrev pub AnswerRel : {K : Keys} → KeyMap K → Out (Flow K) → Out (Flow K) → Type 0
AnswerRel {K = K} r o o' =
    OutRel (λ (f : Flow K) (f' : Flow K). GivenImage r (given_of f) (given_of f')) o o'

-- it may return
abbrev mutual
  pub Returns : {K : Keys} → Stmt K → Type 0
  Returns (declare p n e) = ⊥
  Returns (eval p e) = ⊥
  Returns (branch p c a b) = Returns a ⊎ Returns b
  Returns (loop p c b) = Returns b
  Returns (return p e) = Unit {0}
  Returns (return_nothing p) = Unit {0}
  Returns (block p ns b) = SomeReturns b
  Returns (sync p q e b) = SomeReturns b
  Returns (empty p) = ⊥

  pub SomeReturns : {K : Keys} → Stmts K → Type 0
  SomeReturns core.Stmts.end = ⊥
  SomeReturns (core.Stmts.more a b) = Returns a ⊎ SomeReturns b

-- A turn of a loop, and the turn of the new loop for it. head: which locals agree where the
-- condition begins; tested: behind the condition; behind: behind the body.
pub record TurnImage {K : Keys} (r : KeyMap K) (R : Rows K) (Spot : AllSpots K) (me : Value K)
    (c : Exp K) (b : Stmt K) (l : List (Value K)) (me' : Value K) (c' : Exp K) (b' : Stmt K)
    (l' : List (Value K)) : Type 0 where
  pub at : Standing K
  pub stands : Stands at
  pub frame : Frame K
  pub self : Holding R r at.code frame me me'
  pub head : NumberSet
  pub tested : NumberSet
  pub behind : NumberSet
  pub condition : ExpImage r R (Spot.exps at) at.code head c c' tested
  pub body : StmtImage r R Spot at tested b b' behind
  pub again : Within head behind
  pub locals : Shifted r at frame head l l'

abbrev pub PairImage : {K : Keys} → KeyMap K → Rows K → AllSpots K → Call K → Call K → Type 0
PairImage r R Spot (invoke m me args) (invoke m' me' args') = IsTrue (R.has_method m)
    × (m' ≡ r.method m) × (me' ≡ value_image r me) × (args' ≡ map (value_image r) args)
PairImage r R Spot (construct k me args) (construct k' me' args') = IsTrue (R.has_constructor k)
    × (k' ≡ r.constructor k) × (me' ≡ value_image r me) × (args' ≡ map (value_image r) args)
PairImage r R Spot (turn me c b l) (turn me' c' b' l') = TurnImage r R Spot me c b l me' c' b' l'
PairImage r R Spot (invoke m me args) (construct k' me' args') = ⊥
PairImage r R Spot (invoke m me args) (turn me' c' b' l') = ⊥
PairImage r R Spot (construct k me args) (invoke m' me' args') = ⊥
PairImage r R Spot (construct k me args) (turn me' c' b' l') = ⊥
PairImage r R Spot (turn me c b l) (invoke m' me' args') = ⊥
PairImage r R Spot (turn me c b l) (construct k' me' args') = ⊥

abbrev pub PostImage : {K : Keys} → (r : KeyMap K) (R : Rows K) (Spot : AllSpots K)
    (c c' : Call K) → PairImage r R Spot c c' → Out (Flow K) → Out (Flow K) → Type 0
PostImage r R Spot (invoke m me args) (invoke m' me' args') pair = AnswerRel r
PostImage r R Spot (construct k me args) (construct k' me' args') pair = AnswerRel r
PostImage r R Spot (turn me c b l) (turn me' c' b' l') pair =
    OutRel (FlowRel r (Shifted r pair.at pair.frame pair.tested) (Returns b))
PostImage r R Spot (invoke m me args) (construct k' me' args') pair = λ a b. ⊥
PostImage r R Spot (invoke m me args) (turn me' c' b' l') pair = λ a b. ⊥
PostImage r R Spot (construct k me args) (invoke m' me' args') pair = λ a b. ⊥
PostImage r R Spot (construct k me args) (turn me' c' b' l') pair = λ a b. ⊥
PostImage r R Spot (turn me c b l) (invoke m' me' args') pair = λ a b. ⊥
PostImage r R Spot (turn me c b l) (construct k' me' args') pair = λ a b. ⊥

-- where only statement lists are changed
abbrev pub TurnTo : {K : Keys} → KeyMap K → Rows K → Spots K → Value K → Exp K → Stmt K
    → List (Value K) → Value K → Exp K → Stmt K → List (Value K) → Type 0
TurnTo r R Spot me c b l me' c' b' l' = TurnImage r R (lists_alone Spot) me c b l me' c' b' l'

abbrev pub Pair : {K : Keys} → KeyMap K → Rows K → Spots K → Call K → Call K → Type 0
Pair r R Spot c c' = PairImage r R (lists_alone Spot) c c'

abbrev pub Post : {K : Keys} → (r : KeyMap K) (R : Rows K) (Spot : Spots K) (c c' : Call K)
    → Pair r R Spot c c' → Out (Flow K) → Out (Flow K) → Type 0
Post r R Spot c c' pair = PostImage r R (lists_alone Spot) c c' pair
