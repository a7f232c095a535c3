-- The footprint of calm code, which makes no call, can't fail and has no loop: the locals that it
-- reads and writes, and its accesses in their order.
use Rattle.std.specs.Prelude.{◌≡◌, ◌⊎◌, ℕ, Bool, true, false, List, [], ◌∷◌, ◌++◌, map, IsTrue}
use Rattle.std.specs.Prelude.{Option, Some, None, ℤ}
use Rattle.jr_sync.specs.declared.kinds.Kind.{Kind}
use Rattle.jr_sync.specs.declared.kinds.Kind.TheVariants.{Enter}
use Rattle.jr_sync.specs.Grid.{is_allowed}
use Rattle.jr_runs.specs.Keys.{Keys, At}
use Rattle.jr_runs.specs.Values.{Value, int, text, class_object}
use Rattle.jr_runs.specs.Actions.{Location, part, shared, load, store, enter, Event}
use Rattle.jr_runs.specs.Rows.{Rows}
use Rattle.jr_runs.specs.Arithmetic.{is_zero}
use Rattle.jr_runs.specs.Core as core
use Rattle.jr_runs.specs.Core.{Arithmetic, add, subtract, multiply, divide, remainder, Comparison}
use Rattle.jr_runs.specs.Core.{Operator, arithmetic, comparison, equal, different, Sign, Bump, Exp}
use Rattle.jr_runs.specs.Core.{literal, this, read, assign, compound, bump, signed, binary, both}
use Rattle.jr_runs.specs.Core.{either, cast, static_call, instance_call, super_call, create}
use Rattle.jr_runs.specs.Core.{super_constructor, Target, local, static_field, field_of, Exps}
use Rattle.jr_runs.specs.Reordering.{load_kind, store_kind}

-- what is accessed: a field, or a monitor that is entered
pub data Access (K : Keys) : Type 0 where
  loads : (field : K.field) → Access K
  stores : (field : K.field) → Access K
  enters : Access K

abbrev pub field_in : {K : Keys} → Location K → K.field
field_in (part o f) = f
field_in (shared f) = f

-- the event is made by this access
abbrev pub Makes : {K : Keys} → Rows K → Access K → Event K → Type 0
Makes {K = K} R (loads f) x = (at : Location K) × (v : Value K) × (field_in at ≡ f)
    × (x.action ≡ load (R.field_kind f) at v)
Makes {K = K} R (stores f) x = (at : Location K) × (v : Value K) × (field_in at ≡ f)
    × (x.action ≡ store (R.field_kind f) at v)
Makes {K = K} R enters x = (o : Value K) × (x.action ≡ enter o)

abbrev pub OneMakes : {K : Keys} → Rows K → List (Access K) → Event K → Type 0
OneMakes R [] x = ⊥
OneMakes R (a ∷ xs) x = Makes R a x ⊎ OneMakes R xs x

-- ---- calm code

-- What is accessed can't fail: a local, a static field, or a field of `this`. own: is there a
-- `this`?
pub data CalmTarget {K : Keys} (own : Bool) : Target K → List ℕ → List K.field → Type 0 where
  calm_local : (p : At K) (n : ℕ) → CalmTarget own (local p n) (n ∷ []) []
  calm_static : (p : At K) (f : K.field) → CalmTarget own (static_field p f) [] (f ∷ [])
  calm_own : (p q : At K) (f : K.field) → IsTrue own
      → CalmTarget own (field_of p (this q) f) [] (f ∷ [])

-- with this right operand the operator can't fail
pub data Sure {K : Keys} : Arithmetic → Exp K → Type 0 where
  sure_add : (e : Exp K) → Sure add e
  sure_subtract : (e : Exp K) → Sure subtract e
  sure_multiply : (e : Exp K) → Sure multiply e
  sure_divide : (p : At K) (z : ℤ) → is_zero z ≡ false → Sure divide (literal p (int z))
  sure_remainder : (p : At K) (z : ℤ) → is_zero z ≡ false → Sure remainder (literal p (int z))

pub data SureOperator {K : Keys} : Operator → Exp K → Type 0 where
  sure_arithmetic : (op : Arithmetic) (e : Exp K) → Sure op e → SureOperator (arithmetic op) e
  sure_comparison : (op : Comparison) (e : Exp K) → SureOperator (comparison op) e
  sure_equal : (e : Exp K) → SureOperator equal e
  sure_different : (e : Exp K) → SureOperator different e

-- The locals that are read, those that are written, and the accesses. What is written on one of two
-- ways alone counts as read too, since behind it shows what it was before.
pub data Calm {K : Keys} (own : Bool) : Exp K → List ℕ → List ℕ → List (Access K) → Type 0 where
  calm_literal : (p : At K) (v : Value K) → Calm own (literal p v) [] [] []
  calm_this : (p : At K) → Calm own (this p) [] [] []
  calm_read : (p : At K) (t : Target K) (ns : List ℕ) (fs : List K.field) → CalmTarget own t ns fs
      → Calm own (read p t) ns [] (map loads fs)
  calm_assign : (p : At K) (t : Target K) (e : Exp K) (ns rs ws : List ℕ) (fs : List K.field)
      (xs : List (Access K))
      → CalmTarget own t ns fs → Calm own e rs ws xs
      → Calm own (assign p t e) rs (ws ++ ns) (xs ++ map stores fs)
  calm_compound : (p : At K) (op : Arithmetic) (t : Target K) (e : Exp K) (ns rs ws : List ℕ)
      (fs : List K.field) (xs : List (Access K))
      → CalmTarget own t ns fs → Calm own e rs ws xs → Sure op e
      → Calm own (compound p op t e) (ns ++ rs) (ws ++ ns) (map loads fs ++ (xs ++ map stores fs))
  calm_bump : (p : At K) (op : Bump) (t : Target K) (ns : List ℕ) (fs : List K.field)
      → CalmTarget own t ns fs
      → Calm own (bump p op t) ns ns (map loads fs ++ map stores fs)
  calm_signed : (p : At K) (op : Sign) (e : Exp K) (rs ws : List ℕ) (xs : List (Access K))
      → Calm own e rs ws xs → Calm own (signed p op e) rs ws xs
  calm_binary : (p : At K) (op : Operator) (a b : Exp K) (rs ws rs' ws' : List ℕ)
      (xs xs' : List (Access K))
      → Calm own a rs ws xs → Calm own b rs' ws' xs' → SureOperator op b
      → Calm own (binary p op a b) (rs ++ rs') (ws ++ ws') (xs ++ xs')
  calm_both : (p : At K) (a b : Exp K) (rs ws rs' ws' : List ℕ) (xs xs' : List (Access K))
      → Calm own a rs ws xs → Calm own b rs' ws' xs'
      → Calm own (both p a b) (rs ++ (rs' ++ ws')) (ws ++ ws') (xs ++ xs')
  calm_either : (p : At K) (a b : Exp K) (rs ws rs' ws' : List ℕ) (xs xs' : List (Access K))
      → Calm own a rs ws xs → Calm own b rs' ws' xs'
      → Calm own (either p a b) (rs ++ (rs' ++ ws')) (ws ++ ws') (xs ++ xs')

-- what never is null: `this`, a string, a Class object
pub data NeverNull {K : Keys} (own : Bool) : Exp K → Type 0 where
  never_this : (p : At K) → IsTrue own → NeverNull own (this p)
  never_text : (p : At K) (t : List ℕ) → NeverNull own (literal p (text t))
  never_class : (p : At K) (c : K.class) → NeverNull own (literal p (class_object c))

-- ---- any code

abbrev pub own_local : {K : Keys} → Target K → List ℕ
own_local (local p n) = n ∷ []
own_local (static_field p f) = []
own_local (field_of p e f) = []

-- the locals that an expression of any kind may write
abbrev mutual
  pub writes_in : {K : Keys} → Exp K → List ℕ
  writes_in (literal p v) = []
  writes_in (this p) = []
  writes_in (read p t) = target_writes t
  writes_in (assign p t e) = target_writes t ++ (writes_in e ++ own_local t)
  writes_in (compound p op t e) = target_writes t ++ (writes_in e ++ own_local t)
  writes_in (bump p op t) = target_writes t ++ own_local t
  writes_in (signed p op e) = writes_in e
  writes_in (binary p op a b) = writes_in a ++ writes_in b
  writes_in (both p a b) = writes_in a ++ writes_in b
  writes_in (either p a b) = writes_in a ++ writes_in b
  writes_in (cast p c e) = writes_in e
  writes_in (static_call p m es) = list_writes es
  writes_in (instance_call p e m es) = writes_in e ++ list_writes es
  writes_in (super_call p e m es) = writes_in e ++ list_writes es
  writes_in (create p c k es) = list_writes es
  writes_in (super_constructor p e k es) = writes_in e ++ list_writes es

  pub target_writes : {K : Keys} → Target K → List ℕ
  target_writes (local p n) = []
  target_writes (static_field p f) = []
  target_writes (field_of p e f) = writes_in e

  pub list_writes : {K : Keys} → Exps K → List ℕ
  list_writes core.Exps.end = []
  list_writes (core.Exps.more e es) = writes_in e ++ list_writes es

-- ---- which accesses may change places

abbrev pub access_kind : {K : Keys} → Rows K → Access K → Kind
access_kind R (loads f) = load_kind (R.field_kind f)
access_kind R (stores f) = store_kind (R.field_kind f)
access_kind R enters = Enter

abbrev pub access_field : {K : Keys} → Access K → Option K.field
access_field (loads f) = Some f
access_field (stores f) = Some f
access_field enters = None

abbrev pub is_store : {K : Keys} → Access K → Bool
is_store (loads f) = false
is_store (stores f) = true
is_store enters = false

-- The grid allows it for their kinds, in this order, and they are not of one field with a store.
pub record MayPass {K : Keys} (R : Rows K) (first second : Access K) : Type 0 where
  pub allowed : is_allowed (access_kind R first) (access_kind R second) ≡ true
  pub apart : (f : K.field) → access_field first ≡ Some f → access_field second ≡ Some f
      → (is_store first ≡ false) × (is_store second ≡ false)

abbrev pub PassesAll : {K : Keys} → Rows K → Access K → List (Access K) → Type 0
PassesAll R a [] = Unit {0}
PassesAll R a (b ∷ ys) = MayPass R a b × PassesAll R a ys

-- each of the first with each of the second, in this order
abbrev pub AllMayPass : {K : Keys} → Rows K → List (Access K) → List (Access K) → Type 0
AllMayPass R [] ys = Unit {0}
AllMayPass R (a ∷ xs) ys = PassesAll R a ys × AllMayPass R xs ys
