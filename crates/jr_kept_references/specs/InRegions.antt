-- What is known at a place of the new program by the region of the old one that it stands for, and
-- which types expressions have there that are rewritten node by node.
use Rattle.std.specs.Prelude.{◌≡◌, ℕ, List, Some}
use Rattle.jr_ast.specs.Tree as tree
use Rattle.jr_table.specs.Keys.{ClassKey, FieldKey, MethodKey, CtorKey, Ty, class}
use Rattle.jr_table.specs.Decls.{MemberKey, LocalKey, Decl, local_decl}
use Rattle.jr_table.specs.Rows.{Row}
use Rattle.jr_table.specs.Found.{one}
use Rattle.jr_table.specs.Scope.{Scope}
use Rattle.jr_table.specs.Lookup.{FindsVariable}
use Rattle.jr_table.specs.Context.{Context, scope_of, IsTypeOf}
use Rattle.jr_table.specs.Binding.{
  HasType,
  FieldFinds,
  SuperFieldFinds,
  CallFinds,
  SuperCallFinds,
}
use Rattle.jr_images.specs.Regions.{
  image_of_type,
  image_of_member,
  image_at,
  itself,
  Region,
}

-- ---- images, by the region

module _ {A : Type 0} (R : Region A) where
  abbrev pub rows_in : List Row
  rows_in = R.seen.images.rows

  abbrev pub class_in : ClassKey → ClassKey
  class_in = R.seen.images.class_to

  abbrev pub field_in : FieldKey → FieldKey
  field_in = R.seen.images.field_to

  abbrev pub method_in : MethodKey → MethodKey
  method_in = R.seen.images.method_to

  abbrev pub ctor_in : CtorKey → CtorKey
  ctor_in = R.seen.images.ctor_to

  abbrev pub member_in : MemberKey → MemberKey
  member_in = image_of_member R.seen.images

  abbrev pub name_in : Decl → (old : List ℕ) → List ℕ
  name_in = R.seen.images.name_to

  abbrev pub type_in : Ty → Ty
  type_in = image_of_type R.seen.images

  abbrev pub scope_in : Context → Scope
  scope_in = R.seen.scope

  -- ---- places

  -- d is known at the new place that stands for one where c is known: lookup sees there what the
  -- region says, and a kept local has the image of its type
  pub record StandsFor (rows : List Row) (c d : Context) : Type 0 where
    pub scope : scope_of d ≡ scope_in c
    pub local_types : (k m : LocalKey) (t : Ty) → R.seen.local_to c k ≡ Some m
        → IsTypeOf rows c (local_decl k) t → IsTypeOf rows_in d (local_decl m) (type_in t)

-- ---- types

-- a variable's name or a call finds the declaration
abbrev pub FindsItself : {A : Type 0} → List Row → Context → tree.Exp A → Decl → Type 0
FindsItself rows c (tree.name m w) x = FindsVariable rows (scope_of c) w.text (one x)
FindsItself rows c (tree.field m e w) x = FieldFinds rows c e w.text (one x)
FindsItself rows c (tree.super_field m w) x = SuperFieldFinds rows c w.text (one x)
FindsItself rows c (tree.call m to w args) x = CallFinds rows c to w.text args (one x)
FindsItself rows c (tree.super_call m w args) x = SuperCallFinds rows c w.text args (one x)
FindsItself rows c _ x = ⊥

-- the expression has a type by itself, which no declaration and no part of it gives
abbrev pub HasOwnType : {A : Type 0} → tree.Exp A → Type 0
HasOwnType (tree.this m) = ⊥
HasOwnType (tree.name m w) = ⊥
HasOwnType (tree.field m e w) = ⊥
HasOwnType (tree.super_field m w) = ⊥
HasOwnType (tree.call m to w args) = ⊥
HasOwnType (tree.super_call m w args) = ⊥
HasOwnType (tree.paren m e) = ⊥
HasOwnType (tree.assign m e f) = ⊥
HasOwnType _ = Unit {0}

-- Of what is rewritten node by node, the type that a region tells is the one that the new tree has:
-- the image of the old type, but of `this` the class of the new place, and of an expression in
-- parentheses and of an assignment that of the operand.
pub record TellsTypes {A : Type 0} (rows : List Row) (R : Region A) : Type 0 where
  pub own : (c : Context) (e : tree.Exp A) (t : Ty) → HasOwnType e → HasType rows c e t
      → R.type_now c e t ≡ type_in R t
  pub this : (c : Context) (m : A) (t : Ty) → R.receiver ≡ itself → HasType rows c (tree.this m) t
      → R.type_now c (tree.this m) t ≡ class (scope_in R c).class
  pub bound : (c : Context) (e : tree.Exp A) (t : Ty) (x y : Decl) → FindsItself rows c e x
      → image_at R.seen c x ≡ Some y → IsTypeOf rows c x t → R.type_now c e t ≡ type_in R t
  pub paren : (c : Context) (m : A) (e : tree.Exp A) (t : Ty)
      → R.type_now c (tree.paren m e) t ≡ R.type_now c e t
  pub assign : (c : Context) (m : A) (e f : tree.Exp A) (t : Ty)
      → R.type_now c (tree.assign m e f) t ≡ R.type_now c e t
