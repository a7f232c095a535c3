-- The ways in which references lead to their declarations: how one looks the name up, and how it is
-- asked in the new program.
use Rattle.std.specs.Prelude.{◌≡◌, ℕ, List, [], Option, Some, None, Bool, true, false}
use Rattle.jr_table.specs.Keys.{ClassKey, Ty, int, boolean, void, null, class}
use Rattle.jr_table.specs.Decls.{
  Decl,
  class_decl,
  field_decl,
  method_decl,
  constructor_decl,
  local_decl,
}
use Rattle.jr_table.specs.Rows.{Row}
use Rattle.jr_table.specs.Found.{Found, one, nothing}
use Rattle.jr_table.specs.TypeView.{class_key_of, ty_of}
use Rattle.jr_table.specs.Scope.{Scope}
use Rattle.jr_table.specs.Lookup.{
  FindsVariable,
  FindsTypeNamed,
  FindsTypeOf,
  FindsFieldIn,
  FindsMethodNamed,
  FindsMethodOf,
  FindsCtorOf,
}
use Rattle.jr_table.specs.Context.{Context, scope_of, IsSuperclass}
use Rattle.jr_table.specs.Binding.{FindsIn}
use Rattle.jr_spell.specs.declared.references.RefForm.{RefForm}
use Rattle.jr_spell.specs.declared.references.RefForm.TheVariants as ref
use Rattle.jr_spell.specs.References.{Reference, Operand}
use Rattle.jr_rewrite.specs.Respellings.{Choice, loses}
use Rattle.jr_images.specs.Words.{InFront, named_class, FindsBehind}
use Rattle.jr_images.specs.Spelling.{operand_of, on_type, dotted}
use Rattle.jr_new_words.specs.Mappings.{Mapping, class_to, name_to, decl_to, rows_to, scope_to}
use Rattle.jr_new_words.specs.FrontView.{in_front_of}
use Rattle.jr_new_words.specs.declared.ways.Way as raw
use Rattle.jr_new_words.specs.declared.ways.Way.TheVariants as variant
use Rattle.jr_new_words.specs.Chosen.{ChoosesOf}
use Rattle.jr_new_words.specs.Taking.{asked, SpellsAt}

pub data Way : Type 0 where
  -- a variable by its simple name
  local : Way
  own_field : Way
  -- on a value of the class
  field_on : ClassKey → Way
  -- on a value of a type that is no class
  field_on_none : Ty → Way
  -- through the class, whose words stand so
  field_through : InFront → ClassKey → Way
  -- behind `super`
  field_above : Way
  -- a call without a target
  method_named : Way
  method_on : ClassKey → Way
  method_on_none : Ty → Way
  method_through : InFront → ClassKey → Way
  method_above : Way
  -- a creation of the class, and `super(..)`
  ctor_of : ClassKey → Way
  ctor_above : Way
  -- a class as a type, by its name alone and behind that of another
  type_named : Way
  type_behind : (outer : List ℕ) → Way

abbrev pub way_of : raw.Way → Way
way_of variant.Local = local
way_of variant.OwnField = own_field
way_of (variant.FieldOn k) = field_on (class_key_of k.now)
way_of (variant.FieldOnNone t) = field_on_none (ty_of t.now)
way_of (variant.FieldThrough w k) = field_through (in_front_of w) (class_key_of k.now)
way_of variant.FieldAbove = field_above
way_of variant.MethodNamed = method_named
way_of (variant.MethodOn k) = method_on (class_key_of k.now)
way_of (variant.MethodOnNone t) = method_on_none (ty_of t.now)
way_of (variant.MethodThrough w k) = method_through (in_front_of w) (class_key_of k.now)
way_of variant.MethodAbove = method_above
way_of (variant.CtorOf k) = ctor_of (class_key_of k.now)
way_of variant.CtorAbove = ctor_above
way_of variant.TypeNamed = type_named
way_of (variant.TypeBehind outer) = type_behind outer.now

-- on a value of a type
abbrev pub field_on_type : Ty → Way
field_on_type int = field_on_none int
field_on_type boolean = field_on_none boolean
field_on_type void = field_on_none void
field_on_type null = field_on_none null
field_on_type (class k) = field_on k

abbrev pub method_on_type : Ty → Way
method_on_type int = method_on_none int
method_on_type boolean = method_on_none boolean
method_on_type void = method_on_none void
method_on_type null = method_on_none null
method_on_type (class k) = method_on k

-- whether a simple name is looked up as a variable
abbrev pub is_simple : Way → Bool
is_simple local = true
is_simple own_field = true
is_simple (field_on k) = false
is_simple (field_on_none t) = false
is_simple (field_through w k) = false
is_simple field_above = false
is_simple method_named = false
is_simple (method_on k) = false
is_simple (method_on_none t) = false
is_simple (method_through w k) = false
is_simple method_above = false
is_simple (ctor_of k) = false
is_simple ctor_above = false
is_simple type_named = false
is_simple (type_behind outer) = false

-- ---- declarations

abbrev pub is_class : Decl → Bool
is_class (class_decl k) = true
is_class (field_decl k) = false
is_class (method_decl k) = false
is_class (constructor_decl k) = false
is_class (local_decl k) = false

abbrev pub is_field : Decl → Bool
is_field (class_decl k) = false
is_field (field_decl k) = true
is_field (method_decl k) = false
is_field (constructor_decl k) = false
is_field (local_decl k) = false

abbrev pub is_method : Decl → Bool
is_method (class_decl k) = false
is_method (field_decl k) = false
is_method (method_decl k) = true
is_method (constructor_decl k) = false
is_method (local_decl k) = false

abbrev pub is_ctor : Decl → Bool
is_ctor (class_decl k) = false
is_ctor (field_decl k) = false
is_ctor (method_decl k) = false
is_ctor (constructor_decl k) = true
is_ctor (local_decl k) = false

abbrev pub is_local : Decl → Bool
is_local (class_decl k) = false
is_local (field_decl k) = false
is_local (method_decl k) = false
is_local (constructor_decl k) = false
is_local (local_decl k) = true

-- whether the way leads to declarations of this kind
abbrev pub leads_to : Way → Decl → Bool
leads_to local d = is_local d
leads_to own_field d = is_field d
leads_to (field_on k) d = is_field d
leads_to (field_on_none t) d = is_field d
leads_to (field_through w k) d = is_field d
leads_to field_above d = is_field d
leads_to method_named d = is_method d
leads_to (method_on k) d = is_method d
leads_to (method_on_none t) d = is_method d
leads_to (method_through w k) d = is_method d
leads_to method_above d = is_method d
leads_to (ctor_of k) d = is_ctor d
leads_to ctor_above d = is_ctor d
leads_to type_named d = is_class d
leads_to (type_behind outer) d = is_class d

-- the name that a declaration is asked by; a local goes by this one, a constructor by none
abbrev pub name_in : Decl → (of_local : List ℕ) → List ℕ
name_in (class_decl k) name = k.name
name_in (field_decl k) name = k.name
name_in (method_decl k) name = k.name
name_in (constructor_decl k) name = []
name_in (local_decl k) name = name

-- ---- as it is asked

abbrev pub form_of : Way → RefForm
form_of local = ref.AsAsked
form_of own_field = ref.FieldSimple
form_of (field_on k) = ref.FieldOn
form_of (field_on_none t) = ref.FieldOn
form_of (field_through w k) = ref.ThroughClass
form_of field_above = ref.FieldSuper
form_of method_named = ref.MethodSimple
form_of (method_on k) = ref.MethodOn
form_of (method_on_none t) = ref.MethodOn
form_of (method_through w k) = ref.ThroughClass
form_of method_above = ref.AsAsked
form_of (ctor_of k) = ref.AsAsked
form_of ctor_above = ref.AsAsked
form_of type_named = ref.ClassName
form_of (type_behind outer) = ref.ClassName

abbrev pub text_by : Way → (name : List ℕ) → List ℕ
text_by local name = name
text_by own_field name = name
text_by (field_on k) name = name
text_by (field_on_none t) name = name
text_by (field_through w k) name = name
text_by field_above name = name
text_by method_named name = name
text_by (method_on k) name = name
text_by (method_on_none t) name = name
text_by (method_through w k) name = name
text_by method_above name = name
text_by (ctor_of k) name = name
text_by ctor_above name = name
text_by type_named name = name
text_by (type_behind outer) name = dotted outer name

abbrev pub operand_by : Way → Option Operand
operand_by local = None
operand_by own_field = None
operand_by (field_on k) = operand_of k
operand_by (field_on_none t) = on_type t
operand_by (field_through w k) = operand_of k
operand_by field_above = None
operand_by method_named = None
operand_by (method_on k) = operand_of k
operand_by (method_on_none t) = on_type t
operand_by (method_through w k) = operand_of k
operand_by method_above = None
operand_by (ctor_of k) = operand_of k
operand_by ctor_above = None
operand_by type_named = None
operand_by (type_behind outer) = None

-- the class that words in front of the dot find, if they find one
abbrev pub front_by : Way → Option ClassKey
front_by local = None
front_by own_field = None
front_by (field_on k) = None
front_by (field_on_none t) = None
front_by (field_through w k) = named_class w
front_by field_above = None
front_by method_named = None
front_by (method_on k) = None
front_by (method_on_none t) = None
front_by (method_through w k) = named_class w
front_by method_above = None
front_by (ctor_of k) = None
front_by ctor_above = None
front_by type_named = None
front_by (type_behind outer) = None

abbrev pub reference_by : Way → (name : List ℕ) → List Ty → Reference
reference_by w name ts = record {
  form = form_of w;
  asked = text_by w name;
  operand = operand_by w;
  front = front_by w;
  args = ts;
}

-- ---- what is found

module _ (rows : List Row) (s : Scope) where
  abbrev pub Finds : Way → (name : List ℕ) → List Ty → Found → Type 0
  Finds local name ts f = FindsVariable rows s name f
  Finds own_field name ts f = FindsVariable rows s name f
  Finds (field_on k) name ts f = FindsFieldIn rows s k name f
  Finds (field_on_none t) name ts f = f ≡ nothing
  Finds (field_through w k) name ts f = FindsBehind w (λ o. FindsFieldIn rows s o name) f
  Finds field_above name ts f =
      FindsIn (IsSuperclass rows s.class) (λ k x. FindsFieldIn rows s k name x) f
  Finds method_named name ts f = FindsMethodNamed rows s name ts f
  Finds (method_on k) name ts f = FindsMethodOf rows s k name ts f
  Finds (method_on_none t) name ts f = f ≡ nothing
  Finds (method_through w k) name ts f = FindsBehind w (λ o. FindsMethodOf rows s o name ts) f
  Finds method_above name ts f =
      FindsIn (IsSuperclass rows s.class) (λ k x. FindsMethodOf rows s k name ts x) f
  Finds (ctor_of k) name ts f = FindsCtorOf rows s k ts f
  Finds ctor_above name ts f =
      FindsIn (IsSuperclass rows s.class) (λ k x. FindsCtorOf rows s k ts x) f
  Finds type_named name ts f = FindsTypeNamed rows s name f
  Finds (type_behind outer) name ts f =
      FindsIn (λ k. FindsTypeNamed rows s outer (one (class_decl k)))
      (λ k x. FindsTypeOf rows s k name x) f

-- ---- what is chosen

-- of a declaration, where there is one
abbrev pub OfDecl : Option Decl → (Kept : Decl → Type 0) → (Gone : Type 0) → Type 0
OfDecl (Some d) Kept Gone = Kept d
OfDecl None Kept Gone = Gone

module _ (rows : List Row) (g : Mapping) (c : Context) where
  -- of a declaration with this image
  abbrev pub SpellsTo : (image : Decl) → Way → List Ty → (at : ℕ) → (old : List ℕ) → Decl
      → Choice → Type 0
  SpellsTo i w ts at old d h = SpellsAt (rows_to g rows) (scope_to g c)
      (asked (reference_by w (name_in i (name_to g d old)) ts) i (name_in i (name_to g d old)))
      at old d (Finds (rows_to g rows) (scope_to g c) w (name_in i (name_to g d old)) ts) h

  -- of a class as a type that comes with a refactoring, which is asked by its name
  abbrev pub MakesType : (at : ℕ) → ClassKey → Choice → Type 0
  MakesType at k h =
      SpellsTo (class_decl (class_to g k)) type_named [] at k.name (class_decl k) h

  -- of one that is gone: it is lost, with what its name finds
  abbrev pub Gone : Way → List Ty → (at : ℕ) → (old : List ℕ) → Decl → Choice → Type 0
  Gone w ts at old d h = (f : Found)
      × Finds (rows_to g rows) (scope_to g c) w (name_to g d old) ts f
      × (h ≡ loses (record { at = at; declaration = d; found = f }))

  abbrev pub SpellsBy : Way → List Ty → (at : ℕ) → (old : List ℕ) → Decl → Choice → Type 0
  SpellsBy w ts at old d h =
      OfDecl (decl_to g d) (λ i. SpellsTo i w ts at old d h) (Gone w ts at old d h)

  -- where the way leads to such declarations
  abbrev pub IsChosenFor : Way → List Ty → (at : ℕ) → (old : List ℕ) → Decl → Option Choice
      → Type 0
  IsChosenFor w ts at old d (Some h) = (leads_to w d ≡ true) × SpellsBy w ts at old d h
  IsChosenFor w ts at old d None = leads_to w d ≡ false

  -- the old way finds the declaration, which is asked the new way
  abbrev pub IsChosenBy : (from : Way) → List Ty → (to : Way) → List Ty → (at : ℕ)
      → (old : List ℕ) → Option Choice → Type 0
  IsChosenBy from types to images at old o = ChoosesOf
      (λ d. (leads_to to d ≡ true) × Finds rows (scope_of c) from old types (one d))
      (SpellsBy to images at old) o
