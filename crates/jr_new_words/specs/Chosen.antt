-- What is chosen for one reference, by `jr_images: Spelling`: where the old lookup finds one
-- declaration, its choice; and where it finds none, none. Operands and arguments go by their old
-- types and by those that they have now, trees by their words.
use Rattle.std.specs.Prelude.{ℕ, List, [], Option, Some, None}
use Rattle.jr_table.specs.Keys.{ClassKey, FieldKey, MethodKey, CtorKey, Ty}
use Rattle.jr_table.specs.Decls.{
  Decl,
  LocalKey,
  class_decl,
  field_decl,
  method_decl,
  constructor_decl,
  local_decl,
}
use Rattle.jr_table.specs.Rows.{Row}
use Rattle.jr_table.specs.Found.{Found, one, nothing}
use Rattle.jr_table.specs.Lookup.{
  FindsVariable,
  FindsTypeNamed,
  FindsTypeOf,
  FindsFieldIn,
  FindsMethodNamed,
  FindsMethodOf,
  FindsCtorOf,
  FindsLeft,
}
use Rattle.jr_table.specs.Context.{Context, scope_of, IsSuperclass}
use Rattle.jr_table.specs.Binding.{FindsIn, left}
use Rattle.jr_table.specs.HeadRules.{TopFinds}
use Rattle.jr_spell.specs.declared.references.RefForm.TheVariants as ref
use Rattle.jr_spell.specs.References.{Reference}
use Rattle.jr_rewrite.specs.Respellings.{Choice}
use Rattle.jr_images.specs.Spelling as spelling
use Rattle.jr_images.specs.Spelling.{operand_of, on_type, FindsOn, reference, behind_words, dotted}
use Rattle.jr_images.specs.Words.{InFront, FindsBehind}
use Rattle.jr_new_words.specs.Mappings.{
  Mapping,
  class_to,
  field_to,
  method_to,
  ctor_to,
  rows_to,
  scope_to,
  region_of,
  FindsNext,
  FirstStands,
  NextStands,
}

-- trees don't come into what is said here
abbrev pub unmarked : ℕ → ℕ → ℕ
unmarked m base = base

-- a choice of the one declaration that has the property; none where none has it
abbrev pub ChoosesOf : {K : Type 0} → (Finds : K → Type 0) → (Spells : K → Choice → Type 0)
    → Option Choice → Type 0
ChoosesOf {K} Finds Spells (Some h) = (k : K) × Finds k × Spells k h
ChoosesOf {K} Finds Spells None = (k : K) → Finds k → ⊥

module _ (rows : List Row) (g : Mapping) (c : Context) where
  abbrev pub Spells : (at : ℕ) → (old new : List ℕ) → (d image : Decl) → Reference
      → (Finds : Found → Type 0) → Choice → Type 0
  Spells at old new d i r Finds h = spelling.TakenChoice unmarked rows (region_of rows g)
      (scope_to g c) at old new d i r Finds h

  abbrev pub SpellsLeft : (at : ℕ) → (old : List ℕ) → ClassKey → (Leads : Type 0)
      → (Finds : Found → Type 0) → Choice → Type 0
  SpellsLeft at old k Leads Finds h =
      spelling.LeftChoice unmarked rows (region_of rows g) at old k Leads Finds h

  -- ---- simple names

  abbrev pub VariableIsChosen : (at : ℕ) → (old : List ℕ) → Option Choice → Type 0
  VariableIsChosen at old (Some h) =
      spelling.VariableChoice unmarked rows (region_of rows g) c at old h
  VariableIsChosen at old None =
      ((k : LocalKey) → FindsVariable rows (scope_of c) old (one (local_decl k)) → ⊥)
      × ((k : FieldKey) → FindsVariable rows (scope_of c) old (one (field_decl k)) → ⊥)

  -- of a class in front of a dot
  abbrev pub ClassSpells : (at : ℕ) → (old : List ℕ) → ClassKey → Choice → Type 0
  ClassSpells at old k h = (w : InFront) × FirstStands rows g c k w
      × Spells at old (class_to g k).name (class_decl k)
      (class_decl (class_to g k))
      (behind_words w (reference ref.ClassInFront (class_to g k).name None []))
      (FindsLeft (rows_to g rows) (scope_to g c) (class_to g k).name) h

  abbrev pub ClassIsChosen : (at : ℕ) → (old : List ℕ) → Option Choice → Type 0
  ClassIsChosen at old (Some h) =
      spelling.ClassChoice unmarked rows (region_of rows g) c left at old h
  ClassIsChosen at old None = (k : ClassKey) → FindsVariable rows (scope_of c) old nothing
      → FindsTypeNamed rows (scope_of c) old (one (class_decl k)) → ⊥

  -- ---- fields

  -- on a value of class k, which now is of type t
  abbrev pub FieldSpells : (at : ℕ) → Ty → (old : List ℕ) → FieldKey → Choice → Type 0
  FieldSpells at t old f h = Spells at old (field_to g f).name (field_decl f)
      (field_decl (field_to g f)) (reference ref.FieldOn (field_to g f).name (on_type t) [])
      (FindsOn t (λ k. FindsFieldIn (rows_to g rows) (scope_to g c) k (field_to g f).name)) h

  abbrev pub FieldIsChosen : (at : ℕ) → (k : ClassKey) → Ty → (old : List ℕ) → Option Choice
      → Type 0
  FieldIsChosen at k t old o = ChoosesOf
      (λ (f : FieldKey). FindsFieldIn rows (scope_of c) k old (one (field_decl f)))
      (FieldSpells at t old) o

  -- through class k, whose words stand so in the new program
  abbrev pub StaticFieldSpells : (at : ℕ) → InFront → (k : ClassKey) → (old : List ℕ)
      → FieldKey → Choice → Type 0
  StaticFieldSpells at w k old f h = Spells at old (field_to g f).name (field_decl f)
      (field_decl (field_to g f))
      (behind_words w
      (reference ref.ThroughClass (field_to g f).name (operand_of (class_to g k)) []))
      (FindsBehind w
      (λ o. FindsFieldIn (rows_to g rows) (scope_to g c) o (field_to g f).name)) h

  abbrev pub StaticFieldIsChosen : (at : ℕ) → InFront → (k : ClassKey) → (old : List ℕ)
      → Option Choice → Type 0
  StaticFieldIsChosen at w k old o = ChoosesOf
      (λ (f : FieldKey). FindsFieldIn rows (scope_of c) k old (one (field_decl f)))
      (StaticFieldSpells at w k old) o

  -- a member class in front of a further dot, behind words that stand so, where this class will
  -- stand
  abbrev pub MemberClassBehind : (at : ℕ) → (front : InFront) → (on : ClassKey)
      → (old : List ℕ) → ClassKey → Choice → Type 0
  MemberClassBehind at v on old m h = (w : InFront) × NextStands rows g c v m w
      × Spells at old (class_to g m).name (class_decl m)
      (class_decl (class_to g m))
      (behind_words w (reference ref.ClassInFront (class_to g m).name (operand_of on) []))
      (FindsNext rows g c v (class_to g m).name) h

  -- of class k
  abbrev pub MemberClassSpells : (at : ℕ) → (front : InFront) → (k : ClassKey)
      → (old : List ℕ) → ClassKey → Choice → Type 0
  MemberClassSpells at v k old m h = MemberClassBehind at v (class_to g k) old m h

  abbrev pub MemberClassIsChosen : (at : ℕ) → (front : InFront) → (k : ClassKey)
      → (old : List ℕ) → Option Choice → Type 0
  MemberClassIsChosen at v k old o = ChoosesOf
      (λ (m : ClassKey). FindsFieldIn rows (scope_of c) k old nothing
      × FindsTypeOf rows (scope_of c) k old (one (class_decl m)))
      (MemberClassSpells at v k old) o

  -- behind `super`
  abbrev pub SuperFieldSpells : (at : ℕ) → (old : List ℕ) → FieldKey → Choice → Type 0
  SuperFieldSpells at old f h = Spells at old (field_to g f).name (field_decl f)
      (field_decl (field_to g f))
      (reference ref.FieldSuper (field_to g f).name None [])
      (FindsIn (IsSuperclass (rows_to g rows) (scope_to g c).class)
      (λ k x. FindsFieldIn (rows_to g rows) (scope_to g c) k (field_to g f).name x)) h

  abbrev pub SuperFieldIsChosen : (at : ℕ) → (old : List ℕ) → Option Choice → Type 0
  SuperFieldIsChosen at old o = ChoosesOf
      (λ (f : FieldKey). FindsIn (IsSuperclass rows (scope_of c).class)
      (λ k x. FindsFieldIn rows (scope_of c) k old x) (one (field_decl f)))
      (SuperFieldSpells at old) o

  -- ---- calls, with arguments that had the types ts, and now have us

  abbrev pub SimpleCallSpells : (at : ℕ) → (old : List ℕ) → List Ty → MethodKey → Choice → Type 0
  SimpleCallSpells at old us q h = Spells at old (method_to g q).name (method_decl q)
      (method_decl (method_to g q)) (reference ref.MethodSimple (method_to g q).name None us)
      (FindsMethodNamed (rows_to g rows) (scope_to g c) (method_to g q).name us) h

  abbrev pub SimpleCallIsChosen : (at : ℕ) → (old : List ℕ) → (ts us : List Ty) → Option Choice
      → Type 0
  SimpleCallIsChosen at old ts us o = ChoosesOf
      (λ (q : MethodKey). FindsMethodNamed rows (scope_of c) old ts (one (method_decl q)))
      (SimpleCallSpells at old us) o

  -- on a value of class k, which now is of type t
  abbrev pub CallSpells : (at : ℕ) → Ty → (old : List ℕ) → List Ty → MethodKey → Choice → Type 0
  CallSpells at t old us q h = Spells at old (method_to g q).name (method_decl q)
      (method_decl (method_to g q)) (reference ref.MethodOn (method_to g q).name (on_type t) us)
      (FindsOn t (λ k. FindsMethodOf (rows_to g rows) (scope_to g c) k (method_to g q).name us)) h

  abbrev pub CallIsChosen : (at : ℕ) → (k : ClassKey) → Ty → (old : List ℕ) → (ts us : List Ty)
      → Option Choice → Type 0
  CallIsChosen at k t old ts us o = ChoosesOf
      (λ (q : MethodKey). FindsMethodOf rows (scope_of c) k old ts (one (method_decl q)))
      (CallSpells at t old us) o

  abbrev pub StaticCallSpells : (at : ℕ) → InFront → (k : ClassKey) → (old : List ℕ)
      → List Ty → MethodKey → Choice → Type 0
  StaticCallSpells at w k old us q h = Spells at old (method_to g q).name (method_decl q)
      (method_decl (method_to g q)) (behind_words w
      (reference ref.ThroughClass (method_to g q).name (operand_of (class_to g k)) us))
      (FindsBehind w
      (λ o. FindsMethodOf (rows_to g rows) (scope_to g c) o (method_to g q).name us)) h

  abbrev pub StaticCallIsChosen : (at : ℕ) → InFront → (k : ClassKey) → (old : List ℕ)
      → (ts us : List Ty) → Option Choice → Type 0
  StaticCallIsChosen at w k old ts us o = ChoosesOf
      (λ (q : MethodKey). FindsMethodOf rows (scope_of c) k old ts (one (method_decl q)))
      (StaticCallSpells at w k old us) o

  abbrev pub SuperCallSpells : (at : ℕ) → (old : List ℕ) → List Ty → MethodKey → Choice → Type 0
  SuperCallSpells at old us q h = Spells at old (method_to g q).name (method_decl q)
      (method_decl (method_to g q)) (reference ref.AsAsked (method_to g q).name None us)
      (FindsIn (IsSuperclass (rows_to g rows) (scope_to g c).class)
      (λ k x. FindsMethodOf (rows_to g rows) (scope_to g c) k (method_to g q).name us x)) h

  abbrev pub SuperCallIsChosen : (at : ℕ) → (old : List ℕ) → (ts us : List Ty) → Option Choice
      → Type 0
  SuperCallIsChosen at old ts us o = ChoosesOf
      (λ (q : MethodKey). FindsIn (IsSuperclass rows (scope_of c).class)
      (λ k x. FindsMethodOf rows (scope_of c) k old ts x) (one (method_decl q)))
      (SuperCallSpells at old us) o

  -- ---- constructors

  abbrev pub CreationSpells : (at : ℕ) → (k : ClassKey) → List Ty → CtorKey → Choice → Type 0
  CreationSpells at k us q h = Spells at [] [] (constructor_decl q)
      (constructor_decl (ctor_to g q))
      (reference ref.AsAsked [] (operand_of (class_to g k)) us)
      (FindsCtorOf (rows_to g rows) (scope_to g c) (class_to g k) us) h

  abbrev pub CreationIsChosen : (at : ℕ) → (k : ClassKey) → (ts us : List Ty) → Option Choice
      → Type 0
  CreationIsChosen at k ts us o = ChoosesOf
      (λ (q : CtorKey). FindsCtorOf rows (scope_of c) k ts (one (constructor_decl q)))
      (CreationSpells at k us) o

  abbrev pub SuperCtorSpells : (at : ℕ) → List Ty → CtorKey → Choice → Type 0
  SuperCtorSpells at us q h = Spells at [] [] (constructor_decl q)
      (constructor_decl (ctor_to g q)) (reference ref.AsAsked [] None us)
      (FindsIn (IsSuperclass (rows_to g rows) (scope_to g c).class)
      (λ k x. FindsCtorOf (rows_to g rows) (scope_to g c) k us x)) h

  abbrev pub SuperCtorIsChosen : (at : ℕ) → (ts us : List Ty) → Option Choice → Type 0
  SuperCtorIsChosen at ts us o = ChoosesOf
      (λ (q : CtorKey). FindsIn (IsSuperclass rows (scope_of c).class)
      (λ k x. FindsCtorOf rows (scope_of c) k ts x) (one (constructor_decl q)))
      (SuperCtorSpells at us) o

  -- ---- classes as types

  abbrev pub TypeSpells : (at : ℕ) → (old : List ℕ) → ClassKey → Choice → Type 0
  TypeSpells at old k h = Spells at old (class_to g k).name (class_decl k)
      (class_decl (class_to g k))
      (reference ref.ClassName (class_to g k).name None [])
      (FindsTypeNamed (rows_to g rows) (scope_to g c) (class_to g k).name) h

  abbrev pub TypeIsChosen : (at : ℕ) → (old : List ℕ) → Option Choice → Type 0
  TypeIsChosen at old o = ChoosesOf
      (λ (k : ClassKey). FindsTypeNamed rows (scope_of c) old (one (class_decl k)))
      (TypeSpells at old) o

  -- of class k, which stands behind the name of class o
  abbrev pub QualifiedTypeSpells : (at : ℕ) → (old : List ℕ) → (o k : ClassKey) → Choice → Type 0
  QualifiedTypeSpells at old o k h = Spells at old (class_to g k).name (class_decl k)
      (class_decl (class_to g k))
      (reference ref.ClassName (dotted (class_to g o).name (class_to g k).name) None [])
      (spelling.QualifiedThere unmarked rows (region_of rows g) (scope_to g c)
      (class_to g o).name (class_to g k).name)
      h

  -- a class, and the member class of it
  abbrev pub QualifiedTypeFinds : (outer old : List ℕ) → ClassKey × ClassKey → Type 0
  QualifiedTypeFinds outer old p = FindsTypeNamed rows (scope_of c) outer (one (class_decl p.0))
      × FindsTypeOf rows (scope_of c) p.0 old (one (class_decl p.1))

  abbrev pub QualifiedTypeIsChosen : (at : ℕ) → (outer old : List ℕ) → Option Choice → Type 0
  QualifiedTypeIsChosen at outer old x = ChoosesOf (QualifiedTypeFinds outer old)
      (λ p h. QualifiedTypeSpells at old p.0 p.1 h) x

  -- the class in front of the dot
  abbrev pub QualifierSpells : (at : ℕ) → (old : List ℕ) → ClassKey → Choice → Type 0
  QualifierSpells at old k h = SpellsLeft at old k
      (FindsTypeNamed (rows_to g rows) (scope_to g c) (class_to g k).name
      (one (class_decl (class_to g k))))
      (FindsTypeNamed (rows_to g rows) (scope_to g c) (class_to g k).name) h

  abbrev pub QualifierIsChosen : (at : ℕ) → (old : List ℕ) → Option Choice → Type 0
  QualifierIsChosen at old o = ChoosesOf
      (λ (k : ClassKey). FindsTypeNamed rows (scope_of c) old (one (class_decl k)))
      (QualifierSpells at old) o

-- the superclass of a top-level class
abbrev pub TopParentSpells : List Row → Mapping → (at : ℕ) → (old : List ℕ) → ClassKey → Choice
    → Type 0
TopParentSpells rows g at old k h = spelling.LeftChoice unmarked rows (region_of rows g) at old k
    (TopFinds (rows_to g rows) (class_to g k).name (one (class_decl (class_to g k))))
    (TopFinds (rows_to g rows) (class_to g k).name) h

abbrev pub TopParentIsChosen : List Row → Mapping → (at : ℕ) → (old : List ℕ) → Option Choice
    → Type 0
TopParentIsChosen rows g at old o = ChoosesOf
    (λ (k : ClassKey). TopFinds rows old (one (class_decl k))) (TopParentSpells rows g at old) o
