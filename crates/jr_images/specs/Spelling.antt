-- How each kept reference of the old program is spelled in the new one: the first spelling that
-- binds to the image of its declaration is taken, and what has none is lost (JLS 6.4.1, 6.4.2,
-- 6.5).
-- All is asked of the new rows and the new scope, with the types that operands and arguments have
-- there. Each class in front of a dot is a reference of its own; what is asked behind it is looked
-- up by the words as they are (`Words`), whatever class these find.
use Rattle.std.specs.Prelude.{
  ◌≡◌,
  ℕ,
  List,
  [],
  ◌++◌,
  Option,
  Some,
  None,
  false,
  codes,
  ◌⊎◌,
  if◌then◌else◌,
}
use Rattle.jr_ast.specs.Tree as tree
use Rattle.jr_table.specs.Keys.{ClassKey, FieldKey, MethodKey, CtorKey, Ty, class}
use Rattle.jr_table.specs.Decls.{
  Decl,
  class_decl,
  field_decl,
  method_decl,
  constructor_decl,
  local_decl,
  LocalKey,
  head,
}
use Rattle.jr_table.specs.SameKeys.{same_name}
use Rattle.jr_table.specs.Rows.{Row}
use Rattle.jr_table.specs.Prelude.{top_key}
use Rattle.jr_table.specs.Entries.{class_of}
use Rattle.jr_table.specs.Found.{Found, one, nothing}
use Rattle.jr_table.specs.Scope.{Scope}
use Rattle.jr_table.specs.Lookup.{FindsVariable, FindsTypeNamed, FindsTypeOf, FindsFieldIn}
use Rattle.jr_table.specs.Lookup.{FindsMethodNamed, FindsMethodOf, FindsCtorOf, FindsLeft}
use Rattle.jr_table.specs.Context.{Context, scope_of, NamesClass, WritesType, IsSuperclass}
use Rattle.jr_table.specs.Binding.{
  HasType,
  IsClassName,
  HaveTypes,
  FindsIn,
  FieldFinds,
  SuperFieldFinds,
  CallFinds,
  SuperCallFinds,
  CreationFinds,
  SuperCtorFinds,
  Role,
  left,
  word_at,
}
use Rattle.jr_table.specs.HeadRules.{plain, TopFinds}
use Rattle.jr_spell.specs.declared.references.RefForm.{RefForm}
use Rattle.jr_spell.specs.declared.references.RefForm.TheVariants as ref
use Rattle.jr_spell.specs.declared.spellings.Form.{Form}
use Rattle.jr_spell.specs.declared.spellings.Form.TheVariants.{Asked, OnThis, OnSuper, OnCastThis}
use Rattle.jr_spell.specs.declared.spellings.Form.TheVariants.{OnCastOperand, OnClass}
use Rattle.jr_spell.specs.declared.spellings.Form.TheVariants.{OnOuterClass, Class, OuterClass}
use Rattle.jr_spell.specs.declared.spellings.Form.TheVariants.{ClassInFront, OuterClassInFront}
use Rattle.jr_spell.specs.References.{Reference, Operand}
use Rattle.jr_spell.specs.Taken.{IsTaken, NoneBinds}
use Rattle.jr_rewrite.specs.Respellings.{Front, same, alone, by_this, by_super, by_cast_this}
use Rattle.jr_rewrite.specs.Respellings.{by_class, by_outer_class, by_cast, Choice, stays}
use Rattle.jr_rewrite.specs.Respellings.{becomes, loses}
use Rattle.jr_rewrite.specs.Rewrites.{Choosing}
use Rattle.jr_images.specs.Words.{
  InFront,
  named_class,
  FindsBehind,
  FindsBetween,
  FirstWord,
  NextWord,
  AreWords,
}
use Rattle.jr_images.specs.Images.{Renaming, decl_to}
use Rattle.jr_images.specs.Regions.{Images, Region, region_of}

-- ---- what a spelling makes of a word

abbrev pub respelled : List ℕ → Front → Choice
respelled text front = becomes (record { text = text; front = front })

-- it has this name, and what stands in front of it stays
abbrev pub renamed : (old new : List ℕ) → Choice
renamed old new = if same_name old new then stays else respelled new same

-- `Outer.K`, of a class that is a member of another
abbrev pub outer_front : ClassKey → Front
outer_front k = of_outer k.outer
  where
    of_outer : Option (List ℕ) → Front
    of_outer None = by_class k.name
    of_outer (Some o) = by_outer_class o k.name

abbrev pub outer_type : ClassKey → Front
outer_type k = of_outer k.outer
  where
    of_outer : Option (List ℕ) → Front
    of_outer None = alone
    of_outer (Some o) = by_class o

-- K is the class that declares the declaration
abbrev pub spelled : (old new : List ℕ) → (k : ClassKey) → Form → Choice
spelled old new k Asked = renamed old new
spelled old new k OnThis = respelled new by_this
spelled old new k OnSuper = respelled new by_super
spelled old new k OnCastThis = respelled new (by_cast_this k.name)
spelled old new k OnCastOperand = respelled new (by_cast k.name)
spelled old new k OnClass = respelled new (by_class k.name)
spelled old new k OnOuterClass = respelled new (outer_front k)
spelled old new k Class = respelled k.name alone
spelled old new k OuterClass = respelled k.name (outer_type k)
spelled old new k ClassInFront = respelled k.name alone
spelled old new k OuterClassInFront = respelled k.name (outer_type k)

-- ---- references

-- what a member is on: a value of the class, or the class's name
abbrev pub operand_of : ClassKey → Option Operand
operand_of k = Some (record { ty = class k; text = [] })

abbrev pub reference : RefForm → (asked : List ℕ) → Option Operand → List Ty → Reference
reference form asked operand args =
    record { form = form; asked = asked; operand = operand; front = None; args = args }

-- behind words that stand so, or of such words
abbrev pub behind_words : InFront → Reference → Reference
behind_words w r = record {
  form = r.form;
  asked = r.asked;
  operand = r.operand;
  front = named_class w;
  args = r.args;
}

-- on a value of the type
abbrev pub on_type : Ty → Option Operand
on_type t = Some (record { ty = t; text = [] })

-- what is found on a value of the type; nothing where that is no class
abbrev pub FindsOn : Ty → (Finds : ClassKey → Found → Type 0) → Found → Type 0
FindsOn (class k) Finds f = Finds k f
FindsOn _ Finds f = f ≡ nothing

-- of a local's image, or where it is gone
abbrev pub OfImage : Option LocalKey → (Kept : LocalKey → Type 0) → (Gone : Type 0) → Type 0
OfImage (Some k) Kept Gone = Kept k
OfImage None Kept Gone = Gone

abbrev pub dotted : (front back : List ℕ) → List ℕ
dotted front back = front ++ (codes "." ++ back)

module _ {A : Type 0} (begins : A → ℕ → ℕ) (rows : List Row) (R : Region A) where
  abbrev pub to : Images
  to = R.seen.images

  abbrev pub new_rows : List Row
  new_rows = R.seen.images.rows

  abbrev pub there : Context → Scope
  there c = R.seen.scope c

  abbrev pub lost : (at : ℕ) → Decl → Found → Choice
  lost at d f = loses (record { at = at; declaration = d; found = f })

  -- The reference, whose word `old` begins there and which is bound to d, is to be bound to the
  -- image.
  -- It is to have the word `new` and is asked so in the new scope; as it is asked it finds what has
  -- the property.
  abbrev pub TakenChoice : Scope → (at : ℕ) → (old new : List ℕ) → (d image : Decl) → Reference
      → (Finds : Found → Type 0) → Choice → Type 0
  TakenChoice s at old new d i r Finds h = ((f : Form) × IsTaken new_rows s r i f
      × (h ≡ spelled old new (class_of i) f))
      ⊎ (NoneBinds new_rows s r i × ((f : Found) × Finds f
      × (h ≡ lost at d f)))

  -- the same of a class that has no other spelling: as a type in front of a dot, since a type has
  -- one dot, and the superclass of a top-level class
  abbrev pub LeftChoice : (at : ℕ) → (old : List ℕ) → ClassKey → (Leads : Type 0)
      → (Finds : Found → Type 0) → Choice → Type 0
  LeftChoice at old k Leads Finds h = (Leads × (h ≡ renamed old (to.class_to k).name))
      ⊎ ((Leads → ⊥) × ((f : Found) × Finds f × (h ≡ lost at (class_decl k) f)))

  -- ---- simple names

  -- a variable: a local, or a field (JLS 6.5.6.1)
  abbrev pub LocalChoice : Context → (at : ℕ) → (old : List ℕ) → LocalKey → Choice → Type 0
  LocalChoice c at old k h = FindsVariable rows (scope_of c) old (one (local_decl k))
      × OfImage (R.seen.local_to c k)
      (λ i. TakenChoice (there c) at old (to.name_to (local_decl k) old) (local_decl k)
      (local_decl i)
      (reference ref.AsAsked (to.name_to (local_decl k) old) None [])
      (FindsVariable new_rows (there c) (to.name_to (local_decl k) old)) h)
      ((f : Found) × FindsVariable new_rows (there c) (to.name_to (local_decl k) old) f
      × (h ≡ lost at (local_decl k) f))

  abbrev pub OwnFieldChoice : Context → (at : ℕ) → (old : List ℕ) → FieldKey → Choice → Type 0
  OwnFieldChoice c at old k h = FindsVariable rows (scope_of c) old (one (field_decl k))
      × TakenChoice (there c) at old (to.field_to k).name (field_decl k)
      (field_decl (to.field_to k)) (reference ref.FieldSimple (to.field_to k).name None [])
      (FindsVariable new_rows (there c) (to.field_to k).name) h

  abbrev pub VariableChoice : Context → (at : ℕ) → (old : List ℕ) → Choice → Type 0
  VariableChoice c at old h = ((k : LocalKey) × LocalChoice c at old k h)
      ⊎ ((k : FieldKey) × OwnFieldChoice c at old k h)

  -- a class in front of a dot, where no variable has the name (JLS 6.4.2, 6.5.2)
  abbrev pub ClassChoice : Context → Role → (at : ℕ) → (old : List ℕ) → Choice → Type 0
  ClassChoice c left at old h = (k : ClassKey) × FindsVariable rows (scope_of c) old nothing
      × FindsTypeNamed rows (scope_of c) old (one (class_decl k))
      × (w : InFront) × FirstWord R.seen c k w
      × TakenChoice (there c) at old (to.class_to k).name (class_decl k)
      (class_decl (to.class_to k)) (behind_words w (reference ref.ClassInFront
      (to.class_to k).name None []))
      (FindsLeft new_rows (there c) (to.class_to k).name) h
  ClassChoice c _ at old h = ⊥

  -- ---- what stands behind a dot

  -- on a value or through a class (JLS 15.11.1, 15.12.1): `Value` and `Through` say what is chosen
  abbrev pub OnValueOrClass : Context → tree.Exp A → (Value : Ty → Type 0)
      → (Through : ClassKey → Type 0) → Type 0
  OnValueOrClass c e Value Through = ((k : ClassKey) × IsClassName rows c e k × Through k)
      ⊎ (((k : ClassKey) → IsClassName rows c e k → ⊥)
      × ((k : ClassKey) × HasType rows c e (class k) × Value (R.type_now c e (class k))))

  abbrev pub FieldChoice : Context → (at : ℕ) → tree.Exp A → (old : List ℕ) → Choice → Type 0
  FieldChoice c at e old h = (f : FieldKey) × FieldFinds rows c e old (one (field_decl f))
      × OnValueOrClass c e
      (λ t. TakenChoice (there c) at old (to.field_to f).name (field_decl f)
      (field_decl (to.field_to f)) (reference ref.FieldOn (to.field_to f).name (on_type t) [])
      (FindsOn t (λ k. FindsFieldIn new_rows (there c) k (to.field_to f).name)) h)
      (λ k. (w : InFront) × AreWords rows R.seen c e k w
      × TakenChoice (there c) at old (to.field_to f).name (field_decl f)
      (field_decl (to.field_to f)) (behind_words w
      (reference ref.ThroughClass (to.field_to f).name (operand_of (to.class_to k)) []))
      (FindsBehind w
      (λ o. FindsFieldIn new_rows (there c) o (to.field_to f).name)) h)

  -- a member class in front of a further dot, where no field has the name (JLS 6.5.2)
  abbrev pub MemberClassChoice : Context → Role → (at : ℕ) → tree.Exp A → (old : List ℕ) → Choice
      → Type 0
  MemberClassChoice c left at e old h = (o k : ClassKey) × IsClassName rows c e o
      × FindsFieldIn rows (scope_of c) o old nothing
      × FindsTypeOf rows (scope_of c) o old (one (class_decl k))
      × (v : InFront) × AreWords rows R.seen c e o v × (w : InFront) × NextWord R.seen c v k w
      × TakenChoice (there c) at old (to.class_to k).name (class_decl k)
      (class_decl (to.class_to k)) (behind_words w
      (reference ref.ClassInFront (to.class_to k).name (operand_of (to.class_to o)) []))
      (FindsBetween R.seen c v (to.class_to k).name) h
  MemberClassChoice c _ at e old h = ⊥

  abbrev pub SuperFieldChoice : Context → (at : ℕ) → (old : List ℕ) → Choice → Type 0
  SuperFieldChoice c at old h = (q : FieldKey) × SuperFieldFinds rows c old (one (field_decl q))
      × TakenChoice (there c) at old (to.field_to q).name (field_decl q)
      (field_decl (to.field_to q)) (reference ref.FieldSuper (to.field_to q).name None [])
      (FindsIn (IsSuperclass new_rows (there c).class)
      (λ k f. FindsFieldIn new_rows (there c) k (to.field_to q).name f)) h

  -- ---- calls

  -- a call without a target (JLS 15.12.1)
  abbrev pub SimpleCallChoice : Context → (at : ℕ) → (old : List ℕ) → tree.Exps A → Choice → Type 0
  SimpleCallChoice c at old args h = (q : MethodKey) × (ts : List Ty)
      × CallFinds rows c tree.no_target old args (one (method_decl q)) × HaveTypes rows c args ts
      × TakenChoice (there c) at old (to.method_to q).name (method_decl q)
      (method_decl (to.method_to q)) (reference ref.MethodSimple (to.method_to q).name None
      (R.types_now c args ts))
      (FindsMethodNamed new_rows (there c) (to.method_to q).name (R.types_now c args ts)) h

  abbrev pub CallChoice : Context → (at : ℕ) → tree.Exp A → (old : List ℕ) → tree.Exps A → Choice
      → Type 0
  CallChoice c at e old args h = (q : MethodKey) × (ts : List Ty)
      × CallFinds rows c (tree.on e) old args (one (method_decl q)) × HaveTypes rows c args ts
      × OnValueOrClass c e
      (λ t. TakenChoice (there c) at old (to.method_to q).name (method_decl q)
      (method_decl (to.method_to q))
      (reference ref.MethodOn (to.method_to q).name (on_type t) (R.types_now c args ts))
      (FindsOn t (λ k. FindsMethodOf new_rows (there c) k (to.method_to q).name
      (R.types_now c args ts))) h)
      (λ k. (w : InFront) × AreWords rows R.seen c e k w
      × TakenChoice (there c) at old (to.method_to q).name (method_decl q)
      (method_decl (to.method_to q)) (behind_words w (reference ref.ThroughClass
      (to.method_to q).name
      (operand_of (to.class_to k)) (R.types_now c args ts)))
      (FindsBehind w (λ o. FindsMethodOf new_rows (there c) o (to.method_to q).name
      (R.types_now c args ts))) h)

  abbrev pub SuperCallChoice : Context → (at : ℕ) → (old : List ℕ) → tree.Exps A → Choice → Type 0
  SuperCallChoice c at old args h = (q : MethodKey) × (ts : List Ty)
      × SuperCallFinds rows c old args (one (method_decl q)) × HaveTypes rows c args ts
      × TakenChoice (there c) at old (to.method_to q).name (method_decl q)
      (method_decl (to.method_to q)) (reference ref.AsAsked (to.method_to q).name None
      (R.types_now c args ts))
      (FindsIn (IsSuperclass new_rows (there c).class)
      (λ k f. FindsMethodOf new_rows (there c) k (to.method_to q).name (R.types_now c args ts)
      f))
      h

  -- the reference of an expression itself
  abbrev pub ExpChoice : Context → Role → (base : ℕ) → tree.Exp A → Choice → Type 0
  ExpChoice c r base (tree.name m w) h = VariableChoice c (word_at begins m base w) w.text h
      ⊎ ClassChoice c r (word_at begins m base w) w.text h
  ExpChoice c r base (tree.field m e w) h = FieldChoice c (word_at begins m base w) e w.text h
      ⊎ MemberClassChoice c r (word_at begins m base w) e w.text h
  ExpChoice c r base (tree.super_field m w) h =
      SuperFieldChoice c (word_at begins m base w) w.text h
  ExpChoice c r base (tree.call m tree.no_target w args) h =
      SimpleCallChoice c (word_at begins m base w) w.text args h
  ExpChoice c r base (tree.call m (tree.on e) w args) h =
      CallChoice c (word_at begins m base w) e w.text args h
  ExpChoice c r base (tree.super_call m w args) h =
      SuperCallChoice c (word_at begins m base w) w.text args h
  ExpChoice c r base _ h = ⊥

  -- ---- constructors, which are asked alone (JLS 15.9.3, 8.8.7.1)

  abbrev pub CreationChoice : Context → (base : ℕ) → tree.Exp A → Choice → Type 0
  CreationChoice c base (tree.create m t args) h = (k : ClassKey) × (q : CtorKey) × (ts : List Ty)
      × WritesType rows (scope_of c) t (class k)
      × CreationFinds rows c t args (one (constructor_decl q))
      × HaveTypes rows c args ts × TakenChoice (there c) (begins m base) [] [] (constructor_decl q)
      (constructor_decl (to.ctor_to q)) (reference ref.AsAsked [] (operand_of (to.class_to k))
      (R.types_now c args ts))
      (FindsCtorOf new_rows (there c) (to.class_to k) (R.types_now c args ts)) h
  CreationChoice c base _ h = ⊥

  -- `super_at`: where the word `super` stands
  abbrev pub SuperCtorChoice : (super_at : ℕ) → Context → tree.Exps A → Choice → Type 0
  SuperCtorChoice super_at c args h = (q : CtorKey) × (ts : List Ty)
      × SuperCtorFinds rows c args (one (constructor_decl q)) × HaveTypes rows c args ts
      × TakenChoice (there c) super_at [] [] (constructor_decl q)
      (constructor_decl (to.ctor_to q)) (reference ref.AsAsked [] None (R.types_now c args ts))
      (FindsIn (IsSuperclass new_rows (there c).class)
      (λ k f. FindsCtorOf new_rows (there c) k (R.types_now c args ts) f)) h

  -- ---- classes as types (JLS 6.5.5)

  -- what a name behind another finds as a type
  abbrev pub QualifiedThere : Scope → (outer name : List ℕ) → Found → Type 0
  QualifiedThere s outer name f =
      FindsIn (λ k. FindsTypeNamed new_rows s outer (one (class_decl k)))
      (λ k x. FindsTypeOf new_rows s k name x) f

  abbrev pub TypeChoice : Context → (base : ℕ) → tree.TypeName A → Choice → Type 0
  TypeChoice c base (tree.named m None w) h = (k : ClassKey)
      × NamesClass rows (scope_of c) None w.text k
      × TakenChoice (there c) (word_at begins m base w) w.text (to.class_to k).name (class_decl k)
      (class_decl (to.class_to k)) (reference ref.ClassName (to.class_to k).name None [])
      (FindsTypeNamed new_rows (there c) (to.class_to k).name) h
  TypeChoice c base (tree.named m (Some v) w) h = (o k : ClassKey)
      × FindsTypeNamed rows (scope_of c) v.text (one (class_decl o))
      × FindsTypeOf rows (scope_of c) o w.text (one (class_decl k))
      × TakenChoice (there c) (word_at begins m base w) w.text (to.class_to k).name (class_decl k)
      (class_decl (to.class_to k)) (reference ref.ClassName (dotted (to.class_to o).name
      (to.class_to k).name) None [])
      (QualifiedThere (there c) (to.class_to o).name (to.class_to k).name) h
  TypeChoice c base _ h = ⊥

  -- the name in front of the dot
  abbrev pub QualifierChoice : Context → (base : ℕ) → tree.TypeName A → Choice → Type 0
  QualifierChoice c base (tree.named m (Some v) w) h = (o : ClassKey)
      × FindsTypeNamed rows (scope_of c) v.text (one (class_decl o))
      × LeftChoice (word_at begins m base v) v.text o
      (FindsTypeNamed new_rows (there c) (to.class_to o).name
      (one (class_decl (to.class_to o))))
      (FindsTypeNamed new_rows (there c) (to.class_to o).name) h
  QualifierChoice c base _ h = ⊥

  -- The superclass: of a member class it is seen from the body of the class around it; of a
  -- top-level class it is a top-level class (JLS 8.1.4).
  abbrev pub ParentChoice : Option (List ℕ) → (base : ℕ) → tree.TypeName A → Choice → Type 0
  ParentChoice (Some outer) base t h = TypeChoice (plain (head (top_key outer)) false) base t h
  ParentChoice None base (tree.named m None w) h = (k : ClassKey)
      × TopFinds rows w.text (one (class_decl k))
      × LeftChoice (word_at begins m base w) w.text k
      (TopFinds new_rows (to.class_to k).name (one (class_decl (to.class_to k))))
      (TopFinds new_rows (to.class_to k).name) h
  ParentChoice None base _ h = ⊥

  abbrev pub ParentQualifierChoice : Option (List ℕ) → (base : ℕ) → tree.TypeName A → Choice
      → Type 0
  ParentQualifierChoice (Some outer) base t h =
      QualifierChoice (plain (head (top_key outer)) false) base t h
  ParentQualifierChoice None base t h = ⊥

  -- ---- all words of a program

  abbrev pub DeclaredChoice : Decl → tree.Word A → Choice → Type 0
  DeclaredChoice d w h = h ≡ renamed w.text (to.name_to d w.text)

  abbrev pub choosing : (super_at : Context → ℕ) → Choosing A
  choosing super_at = record {
    expression = ExpChoice;
    creation = CreationChoice;
    super_call = λ c args h. SuperCtorChoice (super_at c) c args h;
    qualifier = QualifierChoice;
    type = TypeChoice;
    parent_qualifier = ParentQualifierChoice;
    parent = ParentChoice;
    declared = DeclaredChoice;
  }

-- ---- of a rename

module _ {A : Type 0} (begins : A → ℕ → ℕ) (rows : List Row) (g : Renaming) where
  abbrev pub Spells : Scope → (at : ℕ) → (old new : List ℕ) → Decl → Reference → (Finds : Found
      → Type 0) → Choice → Type 0
  Spells s at old new d r Finds h = TakenChoice begins rows (region_of rows g) s at old new d
      (decl_to g d) r Finds h

  abbrev pub SpellsLeft : (at : ℕ) → (old : List ℕ) → ClassKey → (Leads : Type 0)
      → (Finds : Found → Type 0) → Choice → Type 0
  SpellsLeft = LeftChoice begins rows (region_of rows g)

  abbrev pub LocalSpells : Context → (at : ℕ) → (old : List ℕ) → LocalKey → Choice → Type 0
  LocalSpells = LocalChoice begins rows (region_of rows g)

  abbrev pub OwnFieldSpells : Context → (at : ℕ) → (old : List ℕ) → FieldKey → Choice → Type 0
  OwnFieldSpells = OwnFieldChoice begins rows (region_of rows g)

  abbrev pub VariableSpells : Context → (at : ℕ) → (old : List ℕ) → Choice → Type 0
  VariableSpells = VariableChoice begins rows (region_of rows g)

  abbrev pub ClassSpells : Context → Role → (at : ℕ) → (old : List ℕ) → Choice → Type 0
  ClassSpells = ClassChoice begins rows (region_of rows g)

  abbrev pub OnOperand : Context → tree.Exp A → (Value : ClassKey → Type 0)
      → (Through : ClassKey → Type 0) → Type 0
  OnOperand c e Value Through = ((k : ClassKey) × IsClassName rows c e k × Through k)
      ⊎ (((k : ClassKey) → IsClassName rows c e k → ⊥) × ((k : ClassKey)
      × HasType rows c e (class k) × Value k))

  abbrev pub FieldSpells : Context → (at : ℕ) → tree.Exp A → (old : List ℕ) → Choice → Type 0
  FieldSpells = FieldChoice begins rows (region_of rows g)

  abbrev pub MemberClassSpells : Context → Role → (at : ℕ) → tree.Exp A → (old : List ℕ)
      → Choice → Type 0
  MemberClassSpells = MemberClassChoice begins rows (region_of rows g)

  abbrev pub SuperFieldSpells : Context → (at : ℕ) → (old : List ℕ) → Choice → Type 0
  SuperFieldSpells = SuperFieldChoice begins rows (region_of rows g)

  abbrev pub SimpleCallSpells : Context → (at : ℕ) → (old : List ℕ) → tree.Exps A → Choice → Type 0
  SimpleCallSpells = SimpleCallChoice begins rows (region_of rows g)

  abbrev pub CallSpells : Context → (at : ℕ) → tree.Exp A → (old : List ℕ) → tree.Exps A
      → Choice → Type 0
  CallSpells = CallChoice begins rows (region_of rows g)

  abbrev pub SuperCallSpells : Context → (at : ℕ) → (old : List ℕ) → tree.Exps A → Choice → Type 0
  SuperCallSpells = SuperCallChoice begins rows (region_of rows g)

  abbrev pub ExpSpells : Context → Role → (base : ℕ) → tree.Exp A → Choice → Type 0
  ExpSpells = ExpChoice begins rows (region_of rows g)

  abbrev pub CreationSpells : Context → (base : ℕ) → tree.Exp A → Choice → Type 0
  CreationSpells = CreationChoice begins rows (region_of rows g)

  abbrev pub SuperCtorSpells : (super_at : ℕ) → Context → tree.Exps A → Choice → Type 0
  SuperCtorSpells = SuperCtorChoice begins rows (region_of rows g)

  abbrev pub TypeSpells : Context → (base : ℕ) → tree.TypeName A → Choice → Type 0
  TypeSpells = TypeChoice begins rows (region_of rows g)

  abbrev pub QualifierSpells : Context → (base : ℕ) → tree.TypeName A → Choice → Type 0
  QualifierSpells = QualifierChoice begins rows (region_of rows g)

  abbrev pub ParentSpells : Option (List ℕ) → (base : ℕ) → tree.TypeName A → Choice → Type 0
  ParentSpells = ParentChoice begins rows (region_of rows g)

  abbrev pub ParentQualifierSpells : Option (List ℕ) → (base : ℕ) → tree.TypeName A → Choice
      → Type 0
  ParentQualifierSpells = ParentQualifierChoice begins rows (region_of rows g)

  abbrev pub spelling : (super_at : Context → ℕ) → Choosing A
  spelling = choosing begins rows (region_of rows g)
