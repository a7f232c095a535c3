-- When new code is old code with other keys, other numbers of locals and other places.
use Rattle.std.specs.Prelude.{◌≡◌, ◌⊎◌, ◌<◌, ◌≤◌, ℕ, List, [], ◌∷◌, Some, option_map, IsTrue}
use Rattle.jr_runs.specs.Keys.{Keys, At}
use Rattle.jr_runs.specs.Values.{Value, null}
use Rattle.jr_runs.specs.Rows.{Rows}
use Rattle.jr_runs.specs.Core as core
use Rattle.jr_runs.specs.Core.{Arithmetic, Operator, Sign, Bump, Exp, literal, this, read, assign}
use Rattle.jr_runs.specs.Core.{compound, bump, signed, binary, both, either, cast, static_call}
use Rattle.jr_runs.specs.Core.{instance_call, super_call, create, super_constructor, Target, local}
use Rattle.jr_runs.specs.Core.{static_field, field_of, Exps, Stmt, declare, eval, branch, loop}
use Rattle.jr_runs.specs.Core.{return, return_nothing, block, sync, empty, Stmts, Code, Method}
use Rattle.jr_runs.specs.Core.{written, starts, Program}
use Rattle.jr_runs.specs.KeyMaps.{KeyMap, value_image, type_image}
use Rattle.jr_runs.specs.Sets.{NumberSet, everything, with_one, with_all, Within}
use Rattle.jr_runs.specs.Standing.{Self, itself, held, nobody, unused, Renumbering, Standing, In}
use Rattle.jr_runs.specs.Standing.{IsHeld, IsCast, IsFree, whole}

abbrev pub SelfTo : {K : Keys} → Self → Exp K → Type 0
SelfTo {K = K} itself e = (p : At K) × (e ≡ this p)
SelfTo {K = K} (held k) e = (p : At K) × (q : At K) × (e ≡ read p (local q k))
SelfTo {K = K} nobody e = (p : At K) × (e ≡ literal p null)
SelfTo unused e = ⊥

abbrev pub Among : {X : Type 0} → X → List X → Type 0
Among x [] = ⊥
Among x (y ∷ ys) = (x ≡ y) ⊎ Among x ys

-- the second expression is the first, cast any number of times to these classes, or to their images
pub data CastOf {K : Keys} (f : K.class → K.class) (cs : List K.class) (e : Exp K) : Exp K
    → Type 0 where
  uncast : CastOf f cs e e
  cast_once : (p : At K) (c : K.class) (x : Exp K) → Among c cs → CastOf f cs e x
      → CastOf f cs e (cast p (f c) x)

-- a local that is read agrees
abbrev pub Readable : {K : Keys} → NumberSet → Target K → Type 0
Readable A (local p n) = IsTrue (A n)
Readable A (static_field p f) = Unit {0}
Readable A (field_of p e f) = Unit {0}

-- a local that is written is none that the code leaves alone
abbrev pub Writable : {K : Keys} → Renumbering K → Target K → Type 0
Writable s (local p n) = In n s.known → ⊥
Writable s (static_field p f) = Unit {0}
Writable s (field_of p e f) = Unit {0}

-- which locals agree behind a write of the target
abbrev pub behind_write : {K : Keys} → NumberSet → Target K → NumberSet
behind_write A (local p n) = with_one A n
behind_write A (static_field p f) = A
behind_write A (field_of p e f) = A

-- which changed expressions are allowed, and which locals agree before and behind
abbrev pub ExpSpots : Keys → Type 1
ExpSpots K = NumberSet → Exp K → Exp K → NumberSet → Type 0

abbrev pub NoExp : {K : Keys} → ExpSpots K
NoExp A e e' B = ⊥

-- The second expression is the first with keys by r and locals by s, where the locals of the first
-- set agree before, and those of the second one behind it. What the first one calls is declared.
-- Behind a write any set will do within the written local and those that agreed; so everything may.
-- Where Here allows it, any expression stands for the first one.
mutual
  pub data ExpImage {K : Keys} (r : KeyMap K) (R : Rows K) (Here : ExpSpots K)
      (s : Renumbering K) : NumberSet → Exp K → Exp K → NumberSet → Type 0 where
    to_literal : (A : NumberSet) (p q : At K) (v : Value K)
        → ExpImage r R Here s A (literal p v) (literal q (value_image r v)) A
    to_this : (A : NumberSet) (p : At K) (e : Exp K) → SelfTo s.self e
        → ExpImage r R Here s A (this p) e A
    -- `this` and what stands for it, each cast or not, where the casts can't fail
    to_cast_this : (A : NumberSet) (p : At K) (x e e' : Exp K) → SelfTo s.self x
        → CastOf (λ c. c) s.classes (this p) e → CastOf r.class s.classes x e'
        → ExpImage r R Here s A e e' A
    -- a local stands for the expression
    to_held : (A : NumberSet) (p q : At K) (e : Exp K) (k : ℕ) → IsHeld e k s.holds
        → ExpImage r R Here s A e (read p (local q k)) A
    -- the same of one that is cast, where the old code needs no cast
    to_held_cast : (A : NumberSet) (p q u : At K) (c : K.class) (e : Exp K) (k : ℕ)
        → IsCast c e k s.casts
        → ExpImage r R Here s A e (cast u (r.class c) (read p (local q k))) A
    to_read : (A B : NumberSet) (p q : At K) (t t' : Target K) → TargetImage r R Here s A t t' B
        → Readable B t
        → ExpImage r R Here s A (read p t) (read q t') B
    to_assign : (A B C D : NumberSet) (p q : At K) (t t' : Target K) (e e' : Exp K)
        → TargetImage r R Here s A t t' B → Writable s t
        → ExpImage r R Here s B e e' C → Within D (behind_write C t)
        → ExpImage r R Here s A (assign p t e) (assign q t' e') D
    to_compound : (A B C D : NumberSet) (p q : At K) (op : Arithmetic) (t t' : Target K)
        (e e' : Exp K)
        → TargetImage r R Here s A t t' B → Readable B t → Writable s t
        → ExpImage r R Here s B e e' C → Within D (behind_write C t)
        → ExpImage r R Here s A (compound p op t e) (compound q op t' e') D
    to_bump : (A B C : NumberSet) (p q : At K) (op : Bump) (t t' : Target K)
        → TargetImage r R Here s A t t' B → Readable B t → Writable s t
        → Within C (behind_write B t)
        → ExpImage r R Here s A (bump p op t) (bump q op t') C
    to_signed : (A B : NumberSet) (p q : At K) (op : Sign) (e e' : Exp K)
        → ExpImage r R Here s A e e' B
        → ExpImage r R Here s A (signed p op e) (signed q op e') B
    to_binary : (A B C : NumberSet) (p q : At K) (op : Operator) (a a' b b' : Exp K)
        → ExpImage r R Here s A a a' B → ExpImage r R Here s B b b' C
        → ExpImage r R Here s A (binary p op a b) (binary q op a' b') C
    to_both : (A B C D : NumberSet) (p q : At K) (a a' b b' : Exp K)
        → ExpImage r R Here s A a a' B → ExpImage r R Here s B b b' C → Within D B → Within D C
        → ExpImage r R Here s A (both p a b) (both q a' b') D
    to_either : (A B C D : NumberSet) (p q : At K) (a a' b b' : Exp K)
        → ExpImage r R Here s A a a' B → ExpImage r R Here s B b b' C → Within D B → Within D C
        → ExpImage r R Here s A (either p a b) (either q a' b') D
    to_cast : (A B : NumberSet) (p q : At K) (c : K.class) (e e' : Exp K)
        → ExpImage r R Here s A e e' B
        → ExpImage r R Here s A (cast p c e) (cast q (r.class c) e') B
    to_static_call : (A B : NumberSet) (p q : At K) (m : K.method) (es es' : Exps K)
        → IsTrue (R.has_method m) → ExpsImage r R Here s A es es' B
        → ExpImage r R Here s A (static_call p m es) (static_call q (r.method m) es') B
    to_instance_call : (A B C : NumberSet) (p q : At K) (e e' : Exp K) (m : K.method)
        (es es' : Exps K)
        → IsTrue (R.has_method m) → ExpImage r R Here s A e e' B → ExpsImage r R Here s B es es' C
        → ExpImage r R Here s A (instance_call p e m es) (instance_call q e' (r.method m) es') C
    to_super_call : (A B C : NumberSet) (p q : At K) (e e' : Exp K) (m : K.method)
        (es es' : Exps K)
        → IsTrue (R.has_method m) → ExpImage r R Here s A e e' B → ExpsImage r R Here s B es es' C
        → ExpImage r R Here s A (super_call p e m es) (super_call q e' (r.method m) es') C
    to_create : (A B : NumberSet) (p q : At K) (c : K.class) (k : K.constructor)
        (es es' : Exps K)
        → IsTrue (R.has_constructor k) → ExpsImage r R Here s A es es' B
        → ExpImage r R Here s A (create p c k es) (create q (r.class c) (r.constructor k) es') B
    to_super_constructor : (A B C : NumberSet) (p q : At K) (e e' : Exp K) (k : K.constructor)
        (es es' : Exps K)
        → IsTrue (R.has_constructor k) → ExpImage r R Here s A e e' B
        → ExpsImage r R Here s B es es' C
        → ExpImage r R Here s A (super_constructor p e k es)
        (super_constructor q e' (r.constructor k) es') C
    to_changed : (A B : NumberSet) (e e' : Exp K) → Here A e e' B → ExpImage r R Here s A e e' B

  pub data TargetImage {K : Keys} (r : KeyMap K) (R : Rows K) (Here : ExpSpots K)
      (s : Renumbering K) : NumberSet → Target K → Target K → NumberSet → Type 0 where
    to_local : (A : NumberSet) (p q : At K) (n : ℕ) → In n s.mine
        → TargetImage r R Here s A (local p n) (local q (s.at n)) A
    to_static_field : (A : NumberSet) (p q : At K) (f : K.field)
        → TargetImage r R Here s A (static_field p f) (static_field q (r.field f)) A
    to_field_of : (A B : NumberSet) (p q : At K) (e e' : Exp K) (f : K.field)
        → ExpImage r R Here s A e e' B
        → TargetImage r R Here s A (field_of p e f) (field_of q e' (r.field f)) B

  pub data ExpsImage {K : Keys} (r : KeyMap K) (R : Rows K) (Here : ExpSpots K)
      (s : Renumbering K) : NumberSet → Exps K → Exps K → NumberSet → Type 0 where
    to_end : (A : NumberSet) → ExpsImage r R Here s A core.Exps.end core.Exps.end A
    to_more : (A B C : NumberSet) (e e' : Exp K) (es es' : Exps K)
        → ExpImage r R Here s A e e' B → ExpsImage r R Here s B es es' C
        → ExpsImage r R Here s A (core.Exps.more e es) (core.Exps.more e' es') C

-- no expression is changed
abbrev pub ExpTo : {K : Keys} → KeyMap K → Rows K → Renumbering K
    → NumberSet → Exp K → Exp K → NumberSet → Type 0
ExpTo r R s A e e' B = ExpImage r R NoExp s A e e' B

abbrev pub TargetTo : {K : Keys} → KeyMap K → Rows K → Renumbering K
    → NumberSet → Target K → Target K → NumberSet → Type 0
TargetTo r R s A t t' B = TargetImage r R NoExp s A t t' B

abbrev pub ExpsTo : {K : Keys} → KeyMap K → Rows K → Renumbering K
    → NumberSet → Exps K → Exps K → NumberSet → Type 0
ExpsTo r R s A es es' B = ExpsImage r R NoExp s A es es' B

-- A block unsets the image of each local that the old block unsets, and of the old code's locals of
-- no other; it may unset further ones, but none that stays as it is. So where a statement list in
-- it has a local more or less, the block is still the image.
pub record BlockTo {K : Keys} (s : Standing K) (ns ns' : List ℕ) : Type 0 where
  pub all : (i : ℕ) → In i s.code.mine → In i ns → In (s.code.at i) ns'
  pub only : (i : ℕ) → In i s.code.mine → In (s.code.at i) ns' → In i ns
  pub others : (j : ℕ) → In j s.others → In j ns' → ⊥
  pub known : (i : ℕ) → In i s.code.known → In i ns → ⊥

-- which changed statement lists are allowed: how they stand, and which locals agree before and
-- behind
abbrev pub Spots : Keys → Type 1
Spots K = Standing K → NumberSet → Stmts K → Stmts K → NumberSet → Type 0

-- Which changes are allowed: of expressions, by how the code stands, and of statement lists.
pub record AllSpots (K : Keys) : Type 1 where
  pub exps : Standing K → ExpSpots K
  pub lists : Spots K

-- no expression is changed
abbrev pub lists_alone : {K : Keys} → Spots K → AllSpots K
lists_alone Spot = record { exps = λ s. NoExp; lists = Spot }

-- no statement list is changed
abbrev pub exps_alone : {K : Keys} → (Standing K → ExpSpots K) → AllSpots K
exps_alone Here = record { exps = Here; lists = λ s A b b' B. ⊥ }

-- The same of statements, but for what Spot allows, at any depth. A loop has a set of locals that
-- agree wherever its condition begins: before it, and behind its body. A block's locals are unset
-- on both sides, and so agree. Behind a return all may be said to agree.
mutual
  pub data StmtImage {K : Keys} (r : KeyMap K) (R : Rows K) (Spot : AllSpots K)
      (s : Standing K) : NumberSet → Stmt K → Stmt K → NumberSet → Type 0 where
    to_declare : (A B C : NumberSet) (p q : At K) (n : ℕ) (e e' : Exp K) → IsFree s.code n
        → ExpImage r R (Spot.exps s) s.code A e e' B → Within C (with_one B n)
        → StmtImage r R Spot s A (declare p n e) (declare q (s.code.at n) e') C
    to_eval : (A B : NumberSet) (p q : At K) (e e' : Exp K)
        → ExpImage r R (Spot.exps s) s.code A e e' B
        → StmtImage r R Spot s A (eval p e) (eval q e') B
    to_branch : (A B C D E : NumberSet) (p q : At K) (c c' : Exp K) (a a' b b' : Stmt K)
        → ExpImage r R (Spot.exps s) s.code A c c' B
        → StmtImage r R Spot s B a a' C → StmtImage r R Spot s B b b' D → Within E C → Within E D
        → StmtImage r R Spot s A (branch p c a b) (branch q c' a' b') E
    to_loop : (A H B C : NumberSet) (p q : At K) (c c' : Exp K) (b b' : Stmt K) → Within H A
        → ExpImage r R (Spot.exps s) s.code H c c' B → StmtImage r R Spot s B b b' C → Within H C
        → StmtImage r R Spot s A (loop p c b) (loop q c' b') B
    to_return : (A B C : NumberSet) (p q : At K) (e e' : Exp K)
        → ExpImage r R (Spot.exps s) s.code A e e' B
        → StmtImage r R Spot s A (return p e) (return q e') C
    to_return_nothing : (A B : NumberSet) (p q : At K)
        → StmtImage r R Spot s A (return_nothing p) (return_nothing q) B
    to_block : (A B C : NumberSet) (p q : At K) (ns ns' : List ℕ) (b b' : Stmts K)
        → BlockTo s ns ns'
        → Within B (with_all A ns) → StmtsImage r R Spot s B b b' C
        → StmtImage r R Spot s A (block p ns b) (block q ns' b') C
    to_sync : (A B C : NumberSet) (p q p' q' : At K) (e e' : Exp K) (b b' : Stmts K)
        → ExpImage r R (Spot.exps s) s.code A e e' B → StmtsImage r R Spot s B b b' C
        → StmtImage r R Spot s A (sync p q e b) (sync p' q' e' b') C
    to_empty : (A : NumberSet) (p q : At K) → StmtImage r R Spot s A (empty p) (empty q) A

  pub data StmtsImage {K : Keys} (r : KeyMap K) (R : Rows K) (Spot : AllSpots K)
      (s : Standing K) : NumberSet → Stmts K → Stmts K → NumberSet → Type 0 where
    to_no_more : (A : NumberSet) → StmtsImage r R Spot s A core.Stmts.end core.Stmts.end A
    to_list : (A B C : NumberSet) (a a' : Stmt K) (b b' : Stmts K)
        → StmtImage r R Spot s A a a' B → StmtsImage r R Spot s B b b' C
        → StmtsImage r R Spot s A (core.Stmts.more a b) (core.Stmts.more a' b') C
    to_spot : (A B : NumberSet) (b b' : Stmts K) → Spot.lists s A b b' B
        → StmtsImage r R Spot s A b b' B

-- only statement lists are changed
abbrev pub StmtTo : {K : Keys} → KeyMap K → Rows K → Spots K → Standing K
    → NumberSet → Stmt K → Stmt K → NumberSet → Type 0
StmtTo r R Spot s A a a' B = StmtImage r R (lists_alone Spot) s A a a' B

abbrev pub StmtsTo : {K : Keys} → KeyMap K → Rows K → Spots K → Standing K
    → NumberSet → Stmts K → Stmts K → NumberSet → Type 0
StmtsTo r R Spot s A b b' B = StmtsImage r R (lists_alone Spot) s A b b' B

-- A member's code: the parameters stay in their places, and all locals agree where it begins.
pub record CodeTo {K : Keys} (r : KeyMap K) (R : Rows K) (Spot : Spots K)
    (old new : Code K) : Type 0 where
  pub size : ℕ
  pub at : ℕ → ℕ
  pub injective : (i j : ℕ) → i < size → j < size → at i ≡ at j → i ≡ j
  pub params : new.params ≡ old.params
  pub params_below : old.params ≤ size
  pub params_stay : (i : ℕ) → i < old.params → at i ≡ i
  pub behind : NumberSet
  pub body : StmtsTo r R Spot (whole size at) everything old.body new.body behind

abbrev pub MethodTo : {K : Keys} → KeyMap K → Rows K → Spots K → Method K → Method K → Type 0
MethodTo r R Spot (written c) (written c') = CodeTo r R Spot c c'
MethodTo r R Spot starts starts = Unit {0}
MethodTo r R Spot (written c) starts = ⊥
MethodTo r R Spot starts (written c) = ⊥

-- The declarations are the same but for their keys. Methods are those of the old program.
pub record SameRows {K : Keys} (r : KeyMap K) (old new : Rows K) : Type 0 where
  pub same_class : (c d : K.class) → new.same_class (r.class c) (r.class d) ≡ old.same_class c d
  pub is_subclass : (c d : K.class) → new.is_subclass (r.class c) (r.class d) ≡ old.is_subclass c d
  pub text_class : new.text_class ≡ r.class old.text_class
  pub class_class : new.class_class ≡ r.class old.class_class
  pub field_kind : (f : K.field) → new.field_kind (r.field f) ≡ old.field_kind f
  pub field_type : (f : K.field) → new.field_type (r.field f) ≡ type_image r (old.field_type f)
  pub dispatch : (c : K.class) (m : K.method) → IsTrue (old.has_method m)
      → new.dispatch (r.class c) (r.method m) ≡ option_map r.method (old.dispatch c m)
  -- what dispatch finds is declared
  pub found : (c : K.class) (m found : K.method) → IsTrue (old.has_method m)
      → old.dispatch c m ≡ Some found
      → IsTrue (old.has_method found)

-- The new program is the old one with keys by r, but for what Spot allows. It may have further
-- methods.
pub record ProgramTo {K : Keys} (r : KeyMap K) (Spot : Spots K) (old new : Program K) : Type 0 where
  pub rows : SameRows r old.rows new.rows
  pub methods : (m : K.method) → IsTrue (old.rows.has_method m)
      → MethodTo r old.rows Spot (old.method m) (new.method (r.method m))
  pub constructors : (k : K.constructor) → IsTrue (old.rows.has_constructor k)
      → CodeTo r old.rows Spot (old.constructor k) (new.constructor (r.constructor k))

-- No statement list is changed.
abbrev pub NoSpot : {K : Keys} → Spots K
NoSpot s A b b' B = ⊥

-- The new program is the image of the old one.
abbrev pub Renamed : {K : Keys} → KeyMap K → Program K → Program K → Type 0
Renamed {K = K} r P Q = ProgramTo r (NoSpot {K = K}) P Q
