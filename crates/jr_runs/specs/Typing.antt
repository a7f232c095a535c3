-- When resolved code is well typed. Binding's rules give this in a sound program.
use Rattle.std.specs.Prelude.{◌≡◌, ◌⊎◌, ℕ, suc, Bool, true, false, List, [], ◌∷◌, length, Option}
use Rattle.std.specs.Prelude.{Some, None, IsTrue, nat_eq, cond}
use Rattle.jr_runs.specs.Keys.{Keys}
use Rattle.jr_runs.specs.Values.{truth, Ty, int_type, boolean_type, reference}
use Rattle.jr_runs.specs.Rows.{Rows}
use Rattle.jr_runs.specs.Fitting.{fits}
use Rattle.jr_runs.specs.Core as core
use Rattle.jr_runs.specs.Core.{Arithmetic, Operator, arithmetic, comparison, equal, different, Sign}
use Rattle.jr_runs.specs.Core.{plus, minus, complement, Exp, literal, this, read, assign, compound}
use Rattle.jr_runs.specs.Core.{bump, signed, binary, both, either, cast, static_call, instance_call}
use Rattle.jr_runs.specs.Core.{super_call, create, super_constructor, Target, local, static_field}
use Rattle.jr_runs.specs.Core.{field_of, Exps, Stmt, declare, eval, branch, loop, return}
use Rattle.jr_runs.specs.Core.{return_nothing, block, sync, empty, Stmts, Code, Method, written}
use Rattle.jr_runs.specs.Core.{starts, Program}

-- a type to itself, a class to its superclasses (JLS 4.10)
abbrev pub is_assignable : {K : Keys} → Rows K → Ty K → Ty K → Bool
is_assignable R int_type int_type = true
is_assignable R int_type boolean_type = false
is_assignable R int_type (reference d) = false
is_assignable R boolean_type int_type = false
is_assignable R boolean_type boolean_type = true
is_assignable R boolean_type (reference d) = false
is_assignable R (reference c) int_type = false
is_assignable R (reference c) boolean_type = false
is_assignable R (reference c) (reference d) = R.is_subclass c d

-- What is claimed of an expression's value: that it has the type, or nothing. A result of the first
-- kind gives the second.
abbrev pub Gives : {K : Keys} → Rows K → Option (Ty K) → Option (Ty K) → Type 0
Gives R T None = Unit {0}
Gives R None (Some U) = ⊥
Gives R (Some T) (Some U) = IsTrue (is_assignable R T U)

-- the locals that are set, with their types, the latest first
abbrev pub Context : Keys → Type 0
Context K = List (ℕ × Ty K)

abbrev pub type_of : {K : Keys} → List (ℕ × Ty K) → ℕ → Option (Ty K)
type_of [] n = None
type_of (d ∷ G) n = cond (nat_eq d.0 n) (Some d.1) (type_of G n)

abbrev pub AreNew : {K : Keys} → List (ℕ × Ty K) → List ℕ → Type 0
AreNew G [] = Unit {0}
AreNew G (n ∷ ns) = (type_of G n ≡ None) × AreNew G ns

abbrev pub ThisHas : {K : Keys} → Rows K → Option K.class → Option (Ty K) → Type 0
ThisHas R None T = ⊥
ThisHas R (Some c) T = Gives R (Some (reference c)) T

-- R: the declarations; G: the locals; C: the class of `this`, if there is one; T: what is claimed
-- of the value
abbrev mutual
  pub HasType : {K : Keys} → Rows K → List (ℕ × Ty K) → Option K.class → Exp K
      → Option (Ty K) → Type 0
  HasType R G C (literal p v) None = Unit {0}
  HasType R G C (literal p v) (Some T) = IsTrue (fits R T v)
  HasType R G C (this p) T = ThisHas R C T
  HasType {K = K} R G C (read p t) T = (U : Ty K) × TargetHas R G C t U × Gives R (Some U) T
  HasType {K = K} R G C (assign p t e) T =
      (U : Ty K) × TargetHas R G C t U × HasType R G C e (Some U)
      × Gives R (Some U) T
  HasType R G C (compound p op t e) T = TargetHas R G C t int_type × HasType R G C e (Some int_type)
      × Gives R (Some int_type) T
  HasType R G C (bump p op t) T = TargetHas R G C t int_type × Gives R (Some int_type) T
  HasType R G C (signed p plus e) T = HasType R G C e (Some int_type) × Gives R (Some int_type) T
  HasType R G C (signed p minus e) T = HasType R G C e (Some int_type) × Gives R (Some int_type) T
  HasType R G C (signed p complement e) T =
      HasType R G C e (Some boolean_type) × Gives R (Some boolean_type) T
  HasType R G C (binary p (arithmetic op) a b) T = HasType R G C a (Some int_type)
      × HasType R G C b (Some int_type) × Gives R (Some int_type) T
  HasType R G C (binary p (comparison op) a b) T = HasType R G C a (Some int_type)
      × HasType R G C b (Some int_type) × Gives R (Some boolean_type) T
  HasType {K = K} R G C (binary p equal a b) T = (U : Ty K) × (V : Ty K) × HasType R G C a (Some U)
      × HasType R G C b (Some V) × Gives R (Some boolean_type) T
  HasType {K = K} R G C (binary p different a b) T =
      (U : Ty K) × (V : Ty K) × HasType R G C a (Some U)
      × HasType R G C b (Some V) × Gives R (Some boolean_type) T
  HasType R G C (both p a b) T =
      HasType R G C a (Some boolean_type) × HasType R G C b (Some boolean_type)
      × Gives R (Some boolean_type) T
  HasType R G C (either p a b) T =
      HasType R G C a (Some boolean_type) × HasType R G C b (Some boolean_type)
      × Gives R (Some boolean_type) T
  HasType {K = K} R G C (cast p c e) T = (d : K.class) × HasType R G C e (Some (reference d))
      × Gives R (Some (reference c)) T
  HasType R G C (static_call p m es) T = IsTrue (R.has_method m) × (R.owner m ≡ None)
      × HaveTypes R G C es (R.params m) × Gives R (R.result m) T
  HasType {K = K} R G C (instance_call p e m es) T = (c : K.class) × IsTrue (R.has_method m)
      × (R.owner m ≡ Some c) × HasType R G C e (Some (reference c))
      × HaveTypes R G C es (R.params m)
      × Gives R (R.result m) T
  HasType {K = K} R G C (super_call p e m es) T = (c : K.class) × IsTrue (R.has_method m)
      × (R.owner m ≡ Some c) × HasType R G C e (Some (reference c))
      × HaveTypes R G C es (R.params m)
      × Gives R (R.result m) T
  HasType R G C (create p c k es) T = IsTrue (R.has_constructor k) × (R.constructor_class k ≡ c)
      × HaveTypes R G C es (R.constructor_params k) × Gives R (Some (reference c)) T
  HasType R G C (super_constructor p e k es) T = IsTrue (R.has_constructor k)
      × HasType R G C e (Some (reference (R.constructor_class k)))
      × HaveTypes R G C es (R.constructor_params k)
      × Gives R (Some (reference (R.constructor_class k))) T

  -- just this type
  pub TargetHas : {K : Keys} → Rows K → List (ℕ × Ty K) → Option K.class → Target K → Ty K → Type 0
  TargetHas R G C (local p n) U = type_of G n ≡ Some U
  TargetHas R G C (static_field p f) U = R.field_type f ≡ U
  TargetHas {K = K} R G C (field_of p e f) U = (c : K.class) × HasType R G C e (Some (reference c))
      × (R.field_type f ≡ U)

  -- one argument for each type
  pub HaveTypes : {K : Keys} → Rows K → List (ℕ × Ty K) → Option K.class → Exps K
      → List (Ty K) → Type 0
  HaveTypes R G C core.Exps.end Ts = Ts ≡ []
  HaveTypes {K = K} R G C (core.Exps.more e es) Ts = (T : Ty K) × (Us : List (Ty K)) × (Ts ≡ T ∷ Us)
      × HasType R G C e (Some T) × HaveTypes R G C es Us

-- Is it the literal `true`? Such a loop ends only by a return or a throw (JLS 14.21).
abbrev pub is_always : {K : Keys} → Exp K → Bool
is_always (literal p (truth true)) = true
is_always (literal p v) = false
is_always (this p) = false
is_always (read p t) = false
is_always (assign p t e) = false
is_always (compound p op t e) = false
is_always (bump p op t) = false
is_always (signed p op e) = false
is_always (binary p op a b) = false
is_always (both p a b) = false
is_always (either p a b) = false
is_always (cast p c e) = false
is_always (static_call p m es) = false
is_always (instance_call p e m es) = false
is_always (super_call p e m es) = false
is_always (create p c k es) = false
is_always (super_constructor p e k es) = false

-- it may complete normally (JLS 14.21)
abbrev mutual
  pub MayComplete : {K : Keys} → Stmt K → Type 0
  MayComplete (declare p n e) = Unit {0}
  MayComplete (eval p e) = Unit {0}
  MayComplete (branch p c a b) = MayComplete a ⊎ MayComplete b
  MayComplete (loop p c b) = is_always c ≡ false
  MayComplete (return p e) = ⊥
  MayComplete (return_nothing p) = ⊥
  MayComplete (block p ns b) = AllMayComplete b
  MayComplete (sync p q e b) = AllMayComplete b
  MayComplete (empty p) = Unit {0}

  pub AllMayComplete : {K : Keys} → Stmts K → Type 0
  AllMayComplete core.Stmts.end = Unit {0}
  AllMayComplete (core.Stmts.more a b) = MayComplete a × AllMayComplete b

-- T: the member's result; D: the locals behind the statement. A local is declared once, and a
-- block's locals are new.
abbrev mutual
  pub StmtTyped : {K : Keys} → Rows K → List (ℕ × Ty K) → Option K.class → Option (Ty K)
      → Stmt K → List (ℕ
      × Ty K) → Type 0
  StmtTyped {K = K} R G C T (declare p n e) D =
      (U : Ty K) × HasType R G C e (Some U) × (type_of G n ≡ None)
      × (D ≡ (n, U) ∷ G)
  StmtTyped R G C T (eval p e) D = HasType R G C e None × (D ≡ G)
  StmtTyped {K = K} R G C T (branch p c a b) D = (E : List (ℕ × Ty K)) × (F : List (ℕ × Ty K))
      × HasType R G C c (Some boolean_type) × StmtTyped R G C T a E
      × StmtTyped R G C T b F × (D ≡ G)
  StmtTyped {K = K} R G C T (loop p c b) D =
      (E : List (ℕ × Ty K)) × HasType R G C c (Some boolean_type)
      × StmtTyped R G C T b E × (D ≡ G)
  StmtTyped {K = K} R G C T (return p e) D =
      (U : Ty K) × (T ≡ Some U) × HasType R G C e (Some U) × (D ≡ G)
  StmtTyped R G C T (return_nothing p) D = (T ≡ None) × (D ≡ G)
  StmtTyped R G C T (block p ns b) D = AreNew G ns × StmtsTyped R G C T b × (D ≡ G)
  StmtTyped {K = K} R G C T (sync p q e b) D = (c : K.class) × HasType R G C e (Some (reference c))
      × StmtsTyped R G C T b × (D ≡ G)
  StmtTyped R G C T (empty p) D = D ≡ G

  pub StmtsTyped : {K : Keys} → Rows K → List (ℕ × Ty K) → Option K.class → Option (Ty K)
      → Stmts K → Type 0
  StmtsTyped R G C T core.Stmts.end = Unit {0}
  StmtsTyped {K = K} R G C T (core.Stmts.more a b) = (D : List (ℕ × Ty K)) × StmtTyped R G C T a D
      × StmtsTyped R D C T b

-- parameters are the first locals, from number n on
abbrev pub param_context : {K : Keys} → ℕ → List (Ty K) → List (ℕ × Ty K)
param_context n [] = []
param_context n (T ∷ Ts) = (n, T) ∷ param_context (suc n) Ts

-- a member's code; one with a result doesn't complete normally (JLS 8.4.7)
pub record CodeTyped {K : Keys} (R : Rows K) (C : Option K.class) (params : List (Ty K))
    (T : Option (Ty K)) (c : Code K) : Type 0 where
  pub count : c.params ≡ length params
  pub body : StmtsTyped R (param_context 0 params) C T c.body
  pub completes : (U : Ty K) → T ≡ Some U → AllMayComplete c.body → ⊥

abbrev pub MethodTyped : {K : Keys} → Rows K → Option K.class → List (Ty K) → Option (Ty K)
    → Method K → Type 0
MethodTyped R C params T (written c) = CodeTyped R C params T c
MethodTyped R C params T starts = T ≡ None

-- what the declarations of a sound program have
pub record SoundRows {K : Keys} (R : Rows K) : Type 0 where
  pub same : (c d : K.class) → R.same_class c d ≡ true → c ≡ d
  pub itself : (c : K.class) → IsTrue (R.is_subclass c c)
  pub chain : (c d e : K.class) → IsTrue (R.is_subclass c d) → IsTrue (R.is_subclass d e)
      → IsTrue (R.is_subclass c e)
  -- What a class runs for a method stands in the class or above it, and has the same types (JLS
  -- 8.4.2, 8.4.8.3).
  pub dispatch : (c d : K.class) (m found : K.method) → R.owner m ≡ Some c
      → IsTrue (R.is_subclass d c)
      → R.dispatch d m ≡ Some found → IsTrue (R.has_method m)
      → IsTrue (R.has_method found) × ((e : K.class) × (R.owner found ≡ Some e)
      × IsTrue (R.is_subclass d e))
      × (R.params found ≡ R.params m) × (R.result found ≡ R.result m)

pub record WellTyped {K : Keys} (P : Program K) : Type 0 where
  pub rows : SoundRows P.rows
  pub methods : (m : K.method) → IsTrue (P.rows.has_method m)
      → MethodTyped P.rows (P.rows.owner m) (P.rows.params m) (P.rows.result m) (P.method m)
  pub constructors : (k : K.constructor) → IsTrue (P.rows.has_constructor k)
      → CodeTyped P.rows (Some (P.rows.constructor_class k)) (P.rows.constructor_params k) None
      (P.constructor k)
