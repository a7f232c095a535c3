-- Declarations and bodies of the programs of `PulledUp`, which are well typed:
-- `class Base { int f; } class Derived extends Base { int m() { return f; } static int call(Derived d) { return d.m(); } }`,
-- `class Lower extends Derived { int k() { return 3; } } class Sibling extends Base { } class Overrider extends Base { int m() { return 2; } }`
-- and m pulled up to Base.
use Rattle.std.proofs.Common.{◌≡◌, ℕ, Bool, true, false, List, [], ◌∷◌, Option, Some, None, IsTrue, pos, refl, sym, subst}
use Rattle.jr_runs.specs.Keys.{Keys, keys_of}
use Rattle.jr_runs.specs.Values.{int, Ty, int_type, reference}
use Rattle.jr_runs.specs.Actions.{plain}
use Rattle.jr_runs.specs.Rows.{Rows}
use Rattle.jr_runs.specs.Core as core
use Rattle.jr_runs.specs.Core.{Exp, literal, this, read, instance_call, local, field_of, return, Stmts, Method, written, Program}
use Rattle.jr_runs.specs.KeyMaps.{KeyMap, Undoes}
use Rattle.jr_runs.specs.Typing.{MethodTyped, SoundRows, WellTyped}
use Rattle.jr_runs.proofs.TypedValues.{no}

pub data Class : Type 0 where
  base derived lower sibling overrider other : Class

-- a method by the class that declares it; `from_lower` is k, and `caller` is static
pub data Called : Type 0 where
  from_base from_derived from_lower from_overrider caller : Called

abbrev pub J : Keys
J = keys_of Class Bool Called Bool ℕ

abbrev pub below : Class → Class → Bool
below base base = true
below base d = false
below derived derived = true
below derived base = true
below derived d = false
below lower lower = true
below lower derived = true
below lower base = true
below lower d = false
below sibling sibling = true
below sibling base = true
below sibling d = false
below overrider overrider = true
below overrider base = true
below overrider d = false
below other other = true
below other d = false

abbrev pub same : Class → Class → Bool
same base base = true
same base d = false
same derived derived = true
same derived d = false
same lower lower = true
same lower d = false
same sibling sibling = true
same sibling d = false
same overrider overrider = true
same overrider d = false
same other other = true
same other d = false

-- what an object of the class runs for the method: before, and behind

abbrev pub old_dispatch : Class → Called → Option Called
old_dispatch c from_base = None
old_dispatch derived from_derived = Some from_derived
old_dispatch lower from_derived = Some from_derived
old_dispatch overrider from_derived = Some from_overrider
old_dispatch c from_derived = None
old_dispatch lower from_lower = Some from_lower
old_dispatch c from_lower = None
old_dispatch derived from_overrider = Some from_derived
old_dispatch lower from_overrider = Some from_derived
old_dispatch overrider from_overrider = Some from_overrider
old_dispatch c from_overrider = None
old_dispatch c caller = None

abbrev pub new_dispatch : Class → Called → Option Called
new_dispatch base from_base = Some from_base
new_dispatch derived from_base = Some from_base
new_dispatch lower from_base = Some from_base
new_dispatch sibling from_base = Some from_base
new_dispatch overrider from_base = Some from_overrider
new_dispatch c from_base = None
new_dispatch c from_derived = None
new_dispatch lower from_lower = Some from_lower
new_dispatch c from_lower = None
new_dispatch base from_overrider = Some from_base
new_dispatch derived from_overrider = Some from_base
new_dispatch lower from_overrider = Some from_base
new_dispatch sibling from_overrider = Some from_base
new_dispatch overrider from_overrider = Some from_overrider
new_dispatch c from_overrider = None
new_dispatch c caller = None

abbrev pub old_has : Called → Bool
old_has from_base = false
old_has from_derived = true
old_has from_lower = true
old_has from_overrider = true
old_has caller = true

abbrev pub new_has : Called → Bool
new_has from_base = true
new_has from_derived = false
new_has from_lower = true
new_has from_overrider = true
new_has caller = true

abbrev pub owner_of : Called → Option Class
owner_of from_base = Some base
owner_of from_derived = Some derived
owner_of from_lower = Some lower
owner_of from_overrider = Some overrider
owner_of caller = None

abbrev pub params_of : Called → List (Ty J)
params_of caller = reference derived ∷ []
params_of m = []

abbrev pub rows : (Class → Called → Option Called) → (Called → Bool) → Rows J
rows dispatch has = record {
  same_class = same;
  is_subclass = below;
  text_class = other;
  class_class = other;
  field_kind = λ f. plain;
  field_type = λ f. int_type;
  dispatch = dispatch;
  has_method = has;
  owner = owner_of;
  params = params_of;
  result = λ m. Some int_type;
  has_constructor = λ k. false;
  constructor_class = λ k. other;
  constructor_params = λ k. [];
}

-- `return f;`, `return n;`, `return d.m();`
abbrev pub returned : Exp J → Stmts J
returned e = core.Stmts.more (return None e) core.Stmts.end

abbrev pub field_read : Exp J
field_read = read None (field_of None (this None) true)

abbrev pub number : ℕ → Exp J
number n = literal None (int (pos n))

abbrev pub call_of : Called → Exp J
call_of m = instance_call None (read None (local None 0)) m core.Exps.end

-- m: the key by which the caller's call is resolved
abbrev pub methods : Called → Called → Method J
methods m from_base = written record { params = 0; body = returned field_read }
methods m from_derived = written record { params = 0; body = returned field_read }
methods m from_lower = written record { params = 0; body = returned (number 3) }
methods m from_overrider = written record { params = 0; body = returned (number 2) }
methods m caller = written record { params = 1; body = returned (call_of m) }

abbrev pub program : (Class → Called → Option Called) → (Called → Bool) → Called → Program J
program dispatch has m = record { rows = rows dispatch has; method = methods m; constructor = λ k. record { params = 0; body = core.Stmts.end } }

abbrev pub old : Program J
old = program old_dispatch old_has from_derived

abbrev pub new : Program J
new = program new_dispatch new_has from_base

abbrev pub pulled : Called → Called
pulled from_base = from_derived
pulled from_derived = from_base
pulled from_lower = from_lower
pulled from_overrider = from_overrider
pulled caller = caller

abbrev pub up : KeyMap J
up = record { class = λ c. c; field = λ f. f; method = pulled; constructor = λ k. k }

pub twice : (m : Called) → pulled (pulled m) ≡ m
twice from_base = refl
twice from_derived = refl
twice from_lower = refl
twice from_overrider = refl
twice caller = refl

pub undone : Undoes up up
undone = record { class = λ c. refl; field = λ f. refl; method = twice; constructor = λ k. refl }

pub none_is_some : {A B : Type 0} (x : A) → None ≡ Some x → B
none_is_some {A = A} {B = B} x e = absurd (apart e)
  where
    apart : None ≡ Some x → ⊥
    apart d = cc

pub some_is_none : {A B : Type 0} (x : A) → Some x ≡ None → B
some_is_none x e = none_is_some x (sym e)

pub same_some : {A : Type 0} (x y : A) → Some x ≡ Some y → x ≡ y
same_some x y e = cc

-- ---- both programs are well typed

pub same_is : (c d : Class) → same c d ≡ true → c ≡ d
same_is base base h = refl
same_is base derived h = no h
same_is base lower h = no h
same_is base sibling h = no h
same_is base overrider h = no h
same_is base other h = no h
same_is derived base h = no h
same_is derived derived h = refl
same_is derived lower h = no h
same_is derived sibling h = no h
same_is derived overrider h = no h
same_is derived other h = no h
same_is lower base h = no h
same_is lower derived h = no h
same_is lower lower h = refl
same_is lower sibling h = no h
same_is lower overrider h = no h
same_is lower other h = no h
same_is sibling base h = no h
same_is sibling derived h = no h
same_is sibling lower h = no h
same_is sibling sibling h = refl
same_is sibling overrider h = no h
same_is sibling other h = no h
same_is overrider base h = no h
same_is overrider derived h = no h
same_is overrider lower h = no h
same_is overrider sibling h = no h
same_is overrider overrider h = refl
same_is overrider other h = no h
same_is other base h = no h
same_is other derived h = no h
same_is other lower h = no h
same_is other sibling h = no h
same_is other overrider h = no h
same_is other other h = refl

pub below_itself : (c : Class) → below c c ≡ true
below_itself base = refl
below_itself derived = refl
below_itself lower = refl
below_itself sibling = refl
below_itself overrider = refl
below_itself other = refl

pub below_chain : (c d e : Class) → below c d ≡ true → below d e ≡ true → below c e ≡ true
below_chain base base e h i = i
below_chain base derived e h i = no h
below_chain base lower e h i = no h
below_chain base sibling e h i = no h
below_chain base overrider e h i = no h
below_chain base other e h i = no h
below_chain derived base base h i = refl
below_chain derived base derived h i = no i
below_chain derived base lower h i = no i
below_chain derived base sibling h i = no i
below_chain derived base overrider h i = no i
below_chain derived base other h i = no i
below_chain derived derived e h i = i
below_chain derived lower e h i = no h
below_chain derived sibling e h i = no h
below_chain derived overrider e h i = no h
below_chain derived other e h i = no h
below_chain lower base base h i = refl
below_chain lower base derived h i = no i
below_chain lower base lower h i = no i
below_chain lower base sibling h i = no i
below_chain lower base overrider h i = no i
below_chain lower base other h i = no i
below_chain lower derived base h i = refl
below_chain lower derived derived h i = refl
below_chain lower derived lower h i = no i
below_chain lower derived sibling h i = no i
below_chain lower derived overrider h i = no i
below_chain lower derived other h i = no i
below_chain lower lower e h i = i
below_chain lower sibling e h i = no h
below_chain lower overrider e h i = no h
below_chain lower other e h i = no h
below_chain sibling base base h i = refl
below_chain sibling base derived h i = no i
below_chain sibling base lower h i = no i
below_chain sibling base sibling h i = no i
below_chain sibling base overrider h i = no i
below_chain sibling base other h i = no i
below_chain sibling derived e h i = no h
below_chain sibling lower e h i = no h
below_chain sibling sibling e h i = i
below_chain sibling overrider e h i = no h
below_chain sibling other e h i = no h
below_chain overrider base base h i = refl
below_chain overrider base derived h i = no i
below_chain overrider base lower h i = no i
below_chain overrider base sibling h i = no i
below_chain overrider base overrider h i = no i
below_chain overrider base other h i = no i
below_chain overrider derived e h i = no h
below_chain overrider lower e h i = no h
below_chain overrider sibling e h i = no h
below_chain overrider overrider e h i = i
below_chain overrider other e h i = no h
below_chain other base e h i = no h
below_chain other derived e h i = no h
below_chain other lower e h i = no h
below_chain other sibling e h i = no h
below_chain other overrider e h i = no h
below_chain other other e h i = i

-- what dispatch finds is declared, in the class or above it, with the same types
abbrev pub Found : (Called → Bool) → Class → Called → Called → Type 0
Found has c m k = IsTrue (has k) × ((e : Class) × (owner_of k ≡ Some e) × IsTrue (below c e)) × (params_of k ≡ params_of m) × (◌≡◌ {A = Option (Ty J)} (Some int_type) (Some int_type))

pub old_finds : (c : Class) (m k : Called) → old_dispatch c m ≡ Some k → Found old_has c m k
old_finds base from_base k e = none_is_some k e
old_finds base from_derived k e = none_is_some k e
old_finds base from_lower k e = none_is_some k e
old_finds base from_overrider k e = none_is_some k e
old_finds base caller k e = none_is_some k e
old_finds derived from_base k e = none_is_some k e
old_finds derived from_derived k e = subst (Found old_has derived from_derived) (same_some from_derived k e) (refl, (derived, refl, refl), refl, refl)
old_finds derived from_lower k e = none_is_some k e
old_finds derived from_overrider k e = subst (Found old_has derived from_overrider) (same_some from_derived k e) (refl, (derived, refl, refl), refl, refl)
old_finds derived caller k e = none_is_some k e
old_finds lower from_base k e = none_is_some k e
old_finds lower from_derived k e = subst (Found old_has lower from_derived) (same_some from_derived k e) (refl, (derived, refl, refl), refl, refl)
old_finds lower from_lower k e = subst (Found old_has lower from_lower) (same_some from_lower k e) (refl, (lower, refl, refl), refl, refl)
old_finds lower from_overrider k e = subst (Found old_has lower from_overrider) (same_some from_derived k e) (refl, (derived, refl, refl), refl, refl)
old_finds lower caller k e = none_is_some k e
old_finds sibling from_base k e = none_is_some k e
old_finds sibling from_derived k e = none_is_some k e
old_finds sibling from_lower k e = none_is_some k e
old_finds sibling from_overrider k e = none_is_some k e
old_finds sibling caller k e = none_is_some k e
old_finds overrider from_base k e = none_is_some k e
old_finds overrider from_derived k e = subst (Found old_has overrider from_derived) (same_some from_overrider k e) (refl, (overrider, refl, refl), refl, refl)
old_finds overrider from_lower k e = none_is_some k e
old_finds overrider from_overrider k e = subst (Found old_has overrider from_overrider) (same_some from_overrider k e) (refl, (overrider, refl, refl), refl, refl)
old_finds overrider caller k e = none_is_some k e
old_finds other from_base k e = none_is_some k e
old_finds other from_derived k e = none_is_some k e
old_finds other from_lower k e = none_is_some k e
old_finds other from_overrider k e = none_is_some k e
old_finds other caller k e = none_is_some k e

pub new_finds : (c : Class) (m k : Called) → new_dispatch c m ≡ Some k → Found new_has c m k
new_finds base from_base k e = subst (Found new_has base from_base) (same_some from_base k e) (refl, (base, refl, refl), refl, refl)
new_finds base from_derived k e = none_is_some k e
new_finds base from_lower k e = none_is_some k e
new_finds base from_overrider k e = subst (Found new_has base from_overrider) (same_some from_base k e) (refl, (base, refl, refl), refl, refl)
new_finds base caller k e = none_is_some k e
new_finds derived from_base k e = subst (Found new_has derived from_base) (same_some from_base k e) (refl, (base, refl, refl), refl, refl)
new_finds derived from_derived k e = none_is_some k e
new_finds derived from_lower k e = none_is_some k e
new_finds derived from_overrider k e = subst (Found new_has derived from_overrider) (same_some from_base k e) (refl, (base, refl, refl), refl, refl)
new_finds derived caller k e = none_is_some k e
new_finds lower from_base k e = subst (Found new_has lower from_base) (same_some from_base k e) (refl, (base, refl, refl), refl, refl)
new_finds lower from_derived k e = none_is_some k e
new_finds lower from_lower k e = subst (Found new_has lower from_lower) (same_some from_lower k e) (refl, (lower, refl, refl), refl, refl)
new_finds lower from_overrider k e = subst (Found new_has lower from_overrider) (same_some from_base k e) (refl, (base, refl, refl), refl, refl)
new_finds lower caller k e = none_is_some k e
new_finds sibling from_base k e = subst (Found new_has sibling from_base) (same_some from_base k e) (refl, (base, refl, refl), refl, refl)
new_finds sibling from_derived k e = none_is_some k e
new_finds sibling from_lower k e = none_is_some k e
new_finds sibling from_overrider k e = subst (Found new_has sibling from_overrider) (same_some from_base k e) (refl, (base, refl, refl), refl, refl)
new_finds sibling caller k e = none_is_some k e
new_finds overrider from_base k e = subst (Found new_has overrider from_base) (same_some from_overrider k e) (refl, (overrider, refl, refl), refl, refl)
new_finds overrider from_derived k e = none_is_some k e
new_finds overrider from_lower k e = none_is_some k e
new_finds overrider from_overrider k e = subst (Found new_has overrider from_overrider) (same_some from_overrider k e) (refl, (overrider, refl, refl), refl, refl)
new_finds overrider caller k e = none_is_some k e
new_finds other from_base k e = none_is_some k e
new_finds other from_derived k e = none_is_some k e
new_finds other from_lower k e = none_is_some k e
new_finds other from_overrider k e = none_is_some k e
new_finds other caller k e = none_is_some k e

pub old_sound : SoundRows (rows old_dispatch old_has)
old_sound = record { same = same_is; itself = below_itself; chain = below_chain; dispatch = λ c d m k o s e h. old_finds d m k e }

pub new_sound : SoundRows (rows new_dispatch new_has)
new_sound = record { same = same_is; itself = below_itself; chain = below_chain; dispatch = λ c d m k o s e h. new_finds d m k e }

pub old_typed : (m : Called) → IsTrue (old_has m) → MethodTyped (rows old_dispatch old_has) (owner_of m) (params_of m) (Some int_type) (methods from_derived m)
old_typed from_base h = no h
old_typed from_derived h = record { count = refl; body = ([], (int_type, refl, (int_type, (base, refl, refl), refl), refl), tt); completes = λ U e c. c.0 }
old_typed from_lower h = record { count = refl; body = ([], (int_type, refl, refl, refl), tt); completes = λ U e c. c.0 }
old_typed from_overrider h = record { count = refl; body = ([], (int_type, refl, refl, refl), tt); completes = λ U e c. c.0 }
old_typed caller h = record { count = refl; body = ((0, reference derived) ∷ [], (int_type, refl, (derived, refl, refl, (reference derived, refl, refl), refl, refl), refl), tt); completes = λ U e c. c.0 }

pub new_typed : (m : Called) → IsTrue (new_has m) → MethodTyped (rows new_dispatch new_has) (owner_of m) (params_of m) (Some int_type) (methods from_base m)
new_typed from_base h = record { count = refl; body = ([], (int_type, refl, (int_type, (base, refl, refl), refl), refl), tt); completes = λ U e c. c.0 }
new_typed from_derived h = no h
new_typed from_lower h = record { count = refl; body = ([], (int_type, refl, refl, refl), tt); completes = λ U e c. c.0 }
new_typed from_overrider h = record { count = refl; body = ([], (int_type, refl, refl, refl), tt); completes = λ U e c. c.0 }
new_typed caller h = record { count = refl; body = ((0, reference derived) ∷ [], (int_type, refl, (base, refl, refl, (reference derived, refl, refl), refl, refl), refl), tt); completes = λ U e c. c.0 }

pub old_well_typed : WellTyped old
old_well_typed = record { rows = old_sound; methods = old_typed; constructors = λ k h. no h }

pub new_well_typed : WellTyped new
new_well_typed = record { rows = new_sound; methods = new_typed; constructors = λ k h. no h }
