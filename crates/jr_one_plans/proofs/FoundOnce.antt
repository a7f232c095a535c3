-- What a name finds in one class, where that class is one, is one thing.
use Rattle.std.proofs.Common.{◌≡◌, ℕ, List, Option, Some, None, sym, ap, subst, ◌∙◌, inl, inr}
use Rattle.std.specs.Prelude.{slice_get}
use Rattle.std.proofs.lemmas.Option.{same_Some}
use Rattle.jr_ast.specs.Tree as tree
use Rattle.jr_table.specs.Keys.{ClassKey, FieldKey, MethodKey, CtorKey, class}
use Rattle.jr_table.specs.Decls.{LocalKey, Decl, class_decl, field_decl, method_decl, constructor_decl, local_decl}
use Rattle.jr_table.specs.Rows.{Row}
use Rattle.jr_table.specs.Entries.{IsRowOf}
use Rattle.jr_table.specs.Conditions.{AreRows}
use Rattle.jr_table.specs.Found.{Found, one}
use Rattle.jr_table.specs.Scope.{Scope}
use Rattle.jr_table.specs.Lookup.{FindsTypeNamed, FindsTypeOf}
use Rattle.jr_table.specs.LookupLaws.{HasOne, EachHasOne}
use Rattle.jr_table.specs.Context.{IsSuperclass, WritesType, NamesClass, LocalType, known, written, IsLocalType}
use Rattle.jr_table.specs.Binding.{FindsIn}
use Rattle.jr_table.specs.HeadRules.{TopFinds}
use Rattle.jr_images.specs.Words.{InFront, class_name, value_of, neither, FindsBehind}

-- ---- keys

pub class_key : (j k : ClassKey) → one (class_decl j) ≡ one (class_decl k) → j ≡ k
class_key j k e = cc

pub field_key : (j k : FieldKey) → one (field_decl j) ≡ one (field_decl k) → j ≡ k
field_key j k e = cc

pub method_key : (j k : MethodKey) → one (method_decl j) ≡ one (method_decl k) → j ≡ k
method_key j k e = cc

pub ctor_key : (j k : CtorKey) → one (constructor_decl j) ≡ one (constructor_decl k) → j ≡ k
ctor_key j k e = cc

pub local_key : (j k : LocalKey) → one (local_decl j) ≡ one (local_decl k) → j ≡ k
local_key j k e = cc

pub value_key : (j k : ClassKey) → class j ≡ class k → j ≡ k
value_key j k e = cc

-- ---- in one class

pub in_once : (Class : ClassKey → Type 0) (In : ClassKey → Found → Type 0) → HasOne Class → ((k : ClassKey) → HasOne (In k)) → HasOne (FindsIn Class In)
in_once Class In c f a b (inl x) (inl y) = f x.0 a b x.2 (subst (λ (k : ClassKey). In k b) (sym (c x.0 y.0 x.1 y.1)) y.2)
in_once Class In c f a b (inl x) (inr y) = absurd (y.0 x.0 x.1)
in_once Class In c f a b (inr x) (inl y) = absurd (x.0 y.0 y.1)
in_once Class In c f a b (inr x) (inr y) = x.1 ∙ sym y.1

-- behind what stands in front of a dot
pub behind_once : (w : InFront) (In : ClassKey → Found → Type 0) → ((k : ClassKey) → HasOne (In k)) → HasOne (FindsBehind w In)
behind_once (class_name k) In each a b x y = each k a b x y
behind_once (value_of k) In each a b x y = each k a b x y
behind_once neither In each a b x y = x ∙ sym y

pub top_once : (rows : List Row) (name : List ℕ) → HasOne (TopFinds rows name)
top_once rows name a b (inl x) (inl y) = x.2 ∙ sym y.2
top_once rows name a b (inl x) (inr y) = absurd (y.0 x.0 x.1)
top_once rows name a b (inr x) (inl y) = absurd (x.0 y.0 y.1)
top_once rows name a b (inr x) (inr y) = x.1 ∙ sym y.1

-- ---- rows

pub same_row : (rows : List Row) (fit : AreRows rows) (d : Decl) (i j : ℕ) (x : IsRowOf rows d i) (y : IsRowOf rows d j) → x.row ≡ y.row
same_row rows fit d i j x y = same_Some x.row y.row (sym x.stands ∙ ap (slice_get rows) (fit.one_each d i j x y) ∙ y.stands)

module _ (rows : List Row) (fit : AreRows rows) where
  pub superclass_once : (k : ClassKey) → HasOne (IsSuperclass rows k)
  superclass_once k p q x y = same_Some p q (sym x.2 ∙ ap (λ (r : Row). r.parent) (same_row rows fit (class_decl k) x.0 y.0 x.1 y.1) ∙ y.2)

  pub above_once : (k : ClassKey) (In : ClassKey → Found → Type 0) → ((o : ClassKey) → HasOne (In o)) → HasOne (FindsIn (IsSuperclass rows k) In)
  above_once k In each = in_once (IsSuperclass rows k) In (superclass_once k) each

-- ---- classes by their names

module _ (rows : List Row) (each : EachHasOne rows) (s : Scope) where
  pub named_once : (name : List ℕ) → HasOne (λ (k : ClassKey). FindsTypeNamed rows s name (one (class_decl k)))
  named_once name j k x y = class_key j k (each.type_named s name (one (class_decl j)) (one (class_decl k)) x y)

  -- a member class of one class
  pub inner_once : (name : List ℕ) (o p : ClassKey) → o ≡ p → (k l : ClassKey) → FindsTypeOf rows s o name (one (class_decl k)) → FindsTypeOf rows s p name (one (class_decl l)) → k ≡ l
  inner_once name o p e k l x y = class_key k l (each.type_of s o name (one (class_decl k)) (one (class_decl l)) x (subst (λ (z : ClassKey). FindsTypeOf rows s z name (one (class_decl l))) (sym e) y))

  pub qualified_once : (outer name : List ℕ) → HasOne (FindsIn (λ k. FindsTypeNamed rows s outer (one (class_decl k))) (λ k f. FindsTypeOf rows s k name f))
  qualified_once outer name = in_once (λ k. FindsTypeNamed rows s outer (one (class_decl k))) (λ k f. FindsTypeOf rows s k name f) (named_once outer) (λ k. each.type_of s k name)

  names_once : (outer : Option (List ℕ)) (name : List ℕ) → HasOne (NamesClass rows s outer name)
  names_once None name j k x y = named_once name j k x y
  names_once (Some outer) name j k (o, front, x) (p, other, y) = inner_once name o p (named_once outer o p front other) j k x y

  -- a written type is one class
  pub written_once : {A : Type 0} (t : tree.TypeName A) (k l : ClassKey) → WritesType rows s t (class k) → WritesType rows s t (class l) → k ≡ l
  written_once (tree.int m) k l x y = absurd cc
  written_once (tree.boolean m) k l x y = absurd cc
  written_once (tree.named m None w) k l x y = value_key k l (x.2 ∙ ap class (named_once w.text x.0 y.0 x.1 y.1) ∙ sym y.2)
  written_once (tree.named m (Some v) w) k l x y =
      value_key k l (x.2 ∙ ap class (inner_once w.text x.1.0 y.1.0 (named_once v.text x.1.0 y.1.0 x.1.1 y.1.1) x.0 y.0 x.1.2 y.1.2) ∙ sym y.2)

  -- a local is of one class
  pub held_once : (l : LocalType) (t u : ClassKey) → IsLocalType rows s l (class t) → IsLocalType rows s l (class u) → t ≡ u
  held_once (known ty) t u x y = value_key t u (x ∙ sym y)
  held_once (written outer name) t u (j, x, e) (k, y, f) = value_key t u (e ∙ ap class (names_once outer name j k x y) ∙ sym f)
