-- What is known at a place in both programs, and what a walk rests on there.
use Rattle.std.specs.Prelude.{
  ◌≡◌,
  ◌↔◌,
  ℕ,
  ◌+◌,
  ◌-◌,
  ◌<◌,
  nat_lt,
  List,
  [],
  ◌∷◌,
  ◌++◌,
  Option,
  Some,
  None,
  option_map,
  ◌⊎◌,
  if◌then◌else◌,
}
use Rattle.jr_text.specs.declared.spans.Span.{Span}
use Rattle.jr_ast.specs.Tree as tree
use Rattle.jr_table.specs.Keys.{ClassKey, FieldKey, CtorKey, Ty, class}
use Rattle.jr_table.specs.Rows.{Row}
use Rattle.jr_table.specs.Found.{Found, one}
use Rattle.jr_table.specs.Decls.{Decl, class_decl, field_decl, constructor_decl}
use Rattle.jr_table.specs.Lookup.{FindsTypeNamed, FindsTypeOf, FindsFieldIn, FindsCtorOf}
use Rattle.jr_table.specs.Context.{Context, scope_of, WritesType}
use Rattle.jr_table.specs.Binding.{
  Role,
  value,
  left,
  statement as whole,
  HasType,
  IsClassName,
  HaveTypes,
  Sought,
  NameFinds,
  DottedFinds,
  SuperFieldFinds,
  CallFinds,
  SuperCallFinds,
  CreationFinds,
  TypeRefers,
  FindsIn,
  FindsFor,
  SuperCtorFinds,
  BindsItself,
}
use Rattle.jr_table.specs.Somewhere.{Somewhere, InRow, InTarget}
use Rattle.jr_table.specs.TypesAt.{TypeBelow, TypeInRow, count_args}
use Rattle.jr_table.specs.ExpressionRules.{ExpBreaks}
use Rattle.jr_table.specs.declared.rules.Rule.{Rule}
use Rattle.jr_expr_types.specs.Slots.{find_type}
use Rattle.jr_bind.specs.Bounds.{Bound, decl_in}
use Rattle.jr_bind_expr.specs.Fits.{FitsExp, FitsTarget, FitsExps, FitsType}
use Rattle.jr_spell.specs.declared.references.RefForm.TheVariants as ref
use Rattle.jr_images.specs.Spelling.{reference, operand_of}
use Rattle.jr_new_words.specs.Spelled as spells
use Rattle.jr_rewrite.specs.Respellings.{Choice}
use Rattle.jr_new_words.specs.Mappings.{Mapping, class_to, ctor_to, types_now, rows_to, scope_to}
use Rattle.jr_new_words.specs.Scopes as scopes
use Rattle.jr_new_words.specs.Chosen.{unmarked}
use Rattle.jr_new_bodies.specs.declared.here.Here as raw
use Rattle.jr_new_bodies.specs.declared.here.Role as raw_role
use Rattle.jr_new_bodies.specs.declared.here.Role.TheVariants as roles

abbrev pub rows_of : raw.Here → List Row
rows_of h = scopes.rows_of h.scopes

abbrev pub mapping_of : raw.Here → Mapping
mapping_of h = scopes.mapping_of h.scopes

abbrev pub context_of : raw.Here → Context
context_of h = scopes.context_of h.scopes

abbrev pub IsKnown : raw.Here → Type 0
IsKnown h = scopes.IsKept h.scopes

-- ---- no rule is broken

module _ {A : Type 0} (begins : A → ℕ → ℕ) (rows : List Row) where
  -- in an expression, arguments, a target
  abbrev pub SoundExp : Context → Role → (base : ℕ) → tree.Exp A → Type 0
  SoundExp c role base e = (at : ℕ) (r : Rule)
      → Somewhere begins (λ o b x. ExpBreaks begins rows c o b x at r) role base e → ⊥

  abbrev pub SoundRow : Context → (at : ℕ) → tree.Exps A → Type 0
  SoundRow c from es = (at : ℕ) (r : Rule)
      → InRow begins (λ o b x. ExpBreaks begins rows c o b x at r) from es → ⊥

  abbrev pub SoundTarget : Context → (at : ℕ) → tree.Target A → Type 0
  SoundTarget c from to = (at : ℕ) (r : Rule)
      → InTarget begins (λ o b x. ExpBreaks begins rows c o b x at r) from to → ⊥

-- ---- what binding knows

-- what the reference at a byte of the file is bound to, in a member that begins at `from`
abbrev pub found_in : Bound → (from at : ℕ) → Option Decl
found_in b from at = if nat_lt at from then None else decl_in b.references (at - from)

abbrev pub found_at : raw.Here → (at : ℕ) → Option Decl
found_at h at = found_in h.bound.now h.from at

-- the type to which a path leads
abbrev pub type_at : raw.Here → (path : List ℕ) → Option Ty
type_at h path = find_type h.bound.now.types path

-- each reference is found by its place
module _ {A : Type 0} (begins : A → ℕ → ℕ) (rows : List Row) (b : Bound) (from : ℕ) (c : Context)
  where
    abbrev pub RefersExpIn : Role → (base : ℕ) → tree.Exp A → Type 0
    RefersExpIn role base e = (at : ℕ) (d : Decl)
        → Somewhere begins (λ o n x. BindsItself begins rows c o n x at d) role base e
        → found_in b from at ≡ Some d

    abbrev pub RefersRowIn : (at : ℕ) → tree.Exps A → Type 0
    RefersRowIn place es = (at : ℕ) (d : Decl)
        → InRow begins (λ o n x. BindsItself begins rows c o n x at d) place es
        → found_in b from at ≡ Some d

-- and each type by its path
module _ {A : Type 0} (rows : List Row) (b : Bound) (c : Context) where
  abbrev pub TypesExpIn : (path : List ℕ) → tree.Exp A → Type 0
  TypesExpIn path e = (q : List ℕ) (t : Ty)
      → (find_type b.types (path ++ q) ≡ Some t) ↔ TypeBelow rows c e q t

  -- arguments, which are parts of the node from a number on; others may stand behind them
  abbrev pub TypesRowIn : (path : List ℕ) → (first : ℕ) → tree.Exps A → Type 0
  TypesRowIn path first es = (n step : ℕ) → n ≡ first + step → step < count_args rows es
      → (q : List ℕ) (t : Ty)
      → (find_type b.types (path ++ n ∷ q) ≡ Some t) ↔ TypeInRow rows c es step q t

-- the same at a place
module _ {A : Type 0} (begins : A → ℕ → ℕ) (h : raw.Here) (c : Context) where
  abbrev pub RefersExp : Role → (base : ℕ) → tree.Exp A → Type 0
  RefersExp role base e = RefersExpIn begins (rows_of h) h.bound.now h.from c role base e

  abbrev pub RefersRow : (at : ℕ) → tree.Exps A → Type 0
  RefersRow place es = RefersRowIn begins (rows_of h) h.bound.now h.from c place es

  abbrev pub RefersTarget : (at : ℕ) → tree.Target A → Type 0
  RefersTarget place to = (at : ℕ) (d : Decl)
      → InTarget begins (λ o n x. BindsItself begins (rows_of h) c o n x at d) place to
      → found_at h at ≡ Some d

module _ {A : Type 0} (h : raw.Here) (c : Context) where
  abbrev pub TypesExp : (path : List ℕ) → tree.Exp A → Type 0
  TypesExp path e = TypesExpIn (rows_of h) h.bound.now c path e

  abbrev pub TypesRow : (path : List ℕ) → (first : ℕ) → tree.Exps A → Type 0
  TypesRow path first es = TypesRowIn (rows_of h) h.bound.now c path first es

  -- a target, which is the first part
  abbrev pub TypesTarget : (path : List ℕ) → tree.Target A → Type 0
  TypesTarget path tree.no_target = Unit {0}
  TypesTarget path (tree.on e) = TypesExp (path ++ 0 ∷ []) e

  -- the type of a creation
  abbrev pub TypesCreation : (path : List ℕ) → tree.TypeName A → tree.Exps A → Type 0
  TypesCreation path of args = (t : Ty) → (type_at h path ≡ Some t) ↔ ((k : ClassKey) × (d : Decl)
      × WritesType (rows_of h) (scope_of c) of (class k)
      × FindsFor (HaveTypes (rows_of h) c args)
      (λ ts f. FindsCtorOf (rows_of h) (scope_of c) k ts f) (one d) × (t ≡ class k))

-- the number of a call's first argument among its parts
abbrev pub first_of : {A : Type 0} → tree.Target A → ℕ
first_of tree.no_target = 1
first_of (tree.on e) = 2

-- ---- what a walk over an expression rests on

module _ {A : Type 0} (tells : A → ℕ → Span) (Fits : A → ℕ → Type 0) where
  abbrev pub ExpReady : raw.Here → Role → (path : List ℕ) → (base : ℕ) → tree.Exp A → Type 0
  ExpReady h role path base e = FitsExp (λ m b. (tells m b).from) Fits base e
      × SoundExp (λ m b. (tells m b).from) (rows_of h) (context_of h) role base e
      × RefersExp (λ m b. (tells m b).from) h (context_of h) role base e
      × TypesExp h (context_of h) path e

  abbrev pub RowReady : raw.Here → (path : List ℕ) → (first at : ℕ) → tree.Exps A → Type 0
  RowReady h path first at es = FitsExps (λ m b. (tells m b).from) Fits at es
      × SoundRow (λ m b. (tells m b).from) (rows_of h) (context_of h) at es
      × RefersRow (λ m b. (tells m b).from) h (context_of h) at es
      × TypesRow h (context_of h) path first es

  abbrev pub TargetReady : raw.Here → (path : List ℕ) → (at : ℕ) → tree.Target A → Type 0
  TargetReady h path at to = FitsTarget (λ m b. (tells m b).from) Fits at to
      × SoundTarget (λ m b. (tells m b).from) (rows_of h) (context_of h) at to
      × RefersTarget (λ m b. (tells m b).from) h (context_of h) at to
      × TypesTarget h (context_of h) path to

-- ---- what a reference finds is one declaration

abbrev pub IsOne : Found → Type 0
IsOne f = (d : Decl) × (f ≡ one d)

abbrev pub SuperFieldIsBound : List Row → Context → List ℕ → Type 0
SuperFieldIsBound rows c name = (f : Found) → SuperFieldFinds rows c name f → IsOne f

-- a simple name
abbrev pub NameIsBound : List Row → Context → Role → List ℕ → Type 0
NameIsBound rows c role name =
    (q : Sought) (f : Found) → NameFinds unmarked rows c role name q f → IsOne f

module _ {A : Type 0} (begins : A → ℕ → ℕ) (rows : List Row) (c : Context) where
  abbrev pub DottedIsBound : Role → tree.Exp A → List ℕ → Type 0
  DottedIsBound role e name =
      (q : Sought) (f : Found) → DottedFinds begins rows c role e name q f → IsOne f

  abbrev pub CallIsBound : tree.Target A → List ℕ → tree.Exps A → Type 0
  CallIsBound to name args = (f : Found) → CallFinds rows c to name args f → IsOne f

  abbrev pub SuperCallIsBound : List ℕ → tree.Exps A → Type 0
  SuperCallIsBound name args = (f : Found) → SuperCallFinds rows c name args f → IsOne f

  abbrev pub CreationIsBound : tree.TypeName A → tree.Exps A → Type 0
  CreationIsBound of args = (f : Found) → CreationFinds rows c of args f → IsOne f

  abbrev pub TypeIsBound : (base : ℕ) → tree.TypeName A → Type 0
  TypeIsBound base of = (at : ℕ) (f : Found) → TypeRefers begins rows c base of at f → IsOne f

-- ---- what is chosen for a reference

abbrev pub role_of : raw_role.Role → Role
role_of roles.Value = value
role_of roles.Left = left
role_of roles.Statement = whole

module _ (rows : List Row) (g : Mapping) (c : Context) where
  abbrev pub NameSpells : Role → (at : ℕ) → List ℕ → Choice → Type 0
  NameSpells role at name h = spells.VariableSpells unmarked rows g c at name h
      ⊎ spells.ClassSpells unmarked rows g c role at name h

module _ {A : Type 0} (begins : A → ℕ → ℕ) (rows : List Row) (g : Mapping) (c : Context) where
  abbrev pub DottedSpells : Role → (at : ℕ) → tree.Exp A → List ℕ → Choice → Type 0
  DottedSpells role at e name h = spells.FieldSpells begins rows g c at e name h
      ⊎ spells.MemberClassSpells begins rows g c role at e name h

abbrev pub NamesClass : {A : Type 0} → List Row → Context → tree.Exp A → Type 0
NamesClass rows c e = (k : ClassKey) × IsClassName rows c e k

abbrev pub IsValueOf : {A : Type 0} → List Row → Context → tree.Exp A → ClassKey → Type 0
IsValueOf rows c e k = ((j : ClassKey) → IsClassName rows c e j → ⊥) × HasType rows c e (class k)

-- the class has no field of the name that may be named here
abbrev pub NoField : List Row → Context → ClassKey → List ℕ → Type 0
NoField rows c k name =
    (f : FieldKey) → FindsFieldIn rows (scope_of c) k name (one (field_decl f)) → ⊥

-- what a type's name finds is one declaration
abbrev pub TypeNameIsBound : List Row → Context → List ℕ → Type 0
TypeNameIsBound rows c name = (f : Found) → FindsTypeNamed rows (scope_of c) name f → IsOne f

-- and a name behind it
abbrev pub InnerNameIsBound : List Row → Context → (outer name : List ℕ) → Type 0
InnerNameIsBound rows c outer name = (f : Found)
    → FindsIn (λ k. FindsTypeNamed rows (scope_of c) outer (one (class_decl k)))
    (λ k g. FindsTypeOf rows (scope_of c) k name g) f → IsOne f

abbrev pub SuperCtorIsBound : {A : Type 0} → List Row → Context → tree.Exps A → Type 0
SuperCtorIsBound rows c args = (f : Found) → SuperCtorFinds rows c args f → IsOne f

abbrev pub just : Choice → Option Choice
just h = Some h

-- what is chosen for the constructor of a creation that begins at `at`
module _ {A : Type 0} (begins : A → ℕ → ℕ) (rows : List Row) (g : Mapping) (c : Context) where
  abbrev pub Creates : (at : ℕ) → tree.TypeName A → tree.Exps A → Choice → Type 0
  Creates at t args h = (k : ClassKey) × (q : CtorKey) × (ts : List Ty)
      × WritesType rows (scope_of c) t (class k)
      × CreationFinds rows c t args (one (constructor_decl q)) × HaveTypes rows c args ts
      × spells.Spells begins rows g (scope_to g c) at [] [] (constructor_decl q)
      (constructor_decl (ctor_to g q)) (reference ref.AsAsked [] (operand_of (class_to g k))
      (types_now g c args ts))
      (FindsCtorOf (rows_to g rows) (scope_to g c) (class_to g k) (types_now g c args ts)) h

-- the names of a class as a type
abbrev pub NamedIsBound : {A : Type 0} → List Row → Context → Option (tree.Word A) → tree.Word A
    → Type 0
NamedIsBound rows c None w = TypeNameIsBound rows c w.text
NamedIsBound rows c (Some v) w =
    TypeNameIsBound rows c v.text × InnerNameIsBound rows c v.text w.text
