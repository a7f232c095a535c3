-- A method that the new program alone has, and its calls: statically, or on what stands for `this`.
use Rattle.std.specs.Prelude.{◌≡◌, ℕ, zero, suc, List, [], ◌∷◌, length, None, IsTrue}
use Rattle.jr_runs.specs.Keys.{Keys, At}
use Rattle.jr_runs.specs.Core as core
use Rattle.jr_runs.specs.Core.{Exp, read, local, static_call, instance_call, Exps, Code, written}
use Rattle.jr_runs.specs.Core.{Program}
use Rattle.jr_runs.specs.Sets.{NumberSet}
use Rattle.jr_runs.specs.Standing.{Self, itself, unused, In, Standing}
use Rattle.jr_runs.specs.Images.{SelfTo, Among}

pub data Receiver (K : Keys) : Type 0 where
  no_receiver : Receiver K
  on_this : (target : Exp K) → Receiver K

-- A piece alone in a method: what stands there for `this`, and classes that `this` is known to
-- have.
abbrev pub apart : {K : Keys} → Self → List K.class → List ℕ → (ℕ → ℕ) → List ℕ → Standing K
apart self classes mine at known = record {
  code = record {
    mine = mine;
    at = at;
    self = self;
    classes = classes;
    known = known;
    holds = [];
    casts = [];
  };
  others = [];
}

-- `this` in the method; a static one's piece names none
abbrev pub self_in : {K : Keys} → Receiver K → Self
self_in no_receiver = unused
self_in (on_this e) = itself

abbrev pub made_call : {K : Keys} → Receiver K → At K → K.method → Exps K → Exp K
made_call no_receiver p m es = static_call p m es
made_call (on_this e) p m es = instance_call p e m es

-- An instance method is called on what stands for `this`, which is an object of one of these
-- classes; and no object has another method for it, as it is private.
abbrev pub IsCalled : {K : Keys} → Program K → Standing K → K.method → Receiver K → Type 0
IsCalled Q s m no_receiver = Unit {0}
IsCalled {K = K} Q s m (on_this e) = SelfTo s.code.self e
    × ((c : K.class) × Among c s.code.classes) × ((d : K.class) → Q.rows.dispatch d m ≡ None)

-- each local is read, at its new number
abbrev pub reads : {K : Keys} → At K → (ℕ → ℕ) → List ℕ → Exps K
reads p at [] = core.Exps.end
reads p at (o ∷ os) = core.Exps.more (read p (local p (at o))) (reads p at os)

abbrev pub IsAt : List ℕ → ℕ → ℕ → Type 0
IsAt [] k o = ⊥
IsAt (x ∷ xs) zero o = x ≡ o
IsAt (x ∷ xs) (suc k) o = IsAt xs k o

-- A: which locals agree where it is called
pub record MadeMethod {K : Keys} (Q : Program K) (s : Standing K) (A : NumberSet) : Type 0 where
  -- the method, which the old program need not have
  pub method : K.method
  pub code : Code K
  pub is_written : Q.method method ≡ written code
  pub receiver : Receiver K
  pub is_called : IsCalled Q s method receiver
  -- the piece's locals, what becomes of each, and those that it leaves alone
  pub mine : List ℕ
  pub at : ℕ → ℕ
  pub injective : (i j : ℕ) → In i mine → In j mine → at i ≡ at j → i ≡ j
  pub known : List ℕ
  pub stays : (j : ℕ) → In j s.code.known → In j known
  -- the locals that are handed over
  pub outs : List ℕ
  pub params : code.params ≡ length outs
  pub are_params : (o : ℕ) → In o outs → IsAt outs (at o) o
  -- those of them that the piece may read at once agree
  pub begins : NumberSet
  pub begins_with : (i : ℕ) → IsTrue (begins i) → In i outs
  pub handed : (i : ℕ) → IsTrue (begins i) → In i s.code.mine × IsTrue (A i)
  pub call_at : At K
  pub read_at : At K

-- how the piece stands in the method
abbrev pub made_standing : {K : Keys} {Q : Program K} {s : Standing K} {A : NumberSet}
    → MadeMethod Q s A → Standing K
made_standing {s = s} m = apart (self_in m.receiver) s.code.classes m.mine m.at m.known

-- the call that stands in the piece's place
abbrev pub made_exp : {K : Keys} {Q : Program K} {s : Standing K} {A : NumberSet}
    → MadeMethod Q s A → Exp K
made_exp {s = s} m =
    made_call m.receiver m.call_at m.method (reads m.read_at s.code.at m.outs)
