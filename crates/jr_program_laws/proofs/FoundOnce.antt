-- Each reference finds one thing.
use Rattle.std.proofs.Common.{◌≡◌, ℕ, List, [], ◌∷◌, Some, sym, ap, subst, ◌∙◌, inl, inr}
use Rattle.std.specs.Prelude.{slice_get}
use Rattle.jr_text.specs.declared.spans.Span.{Span}
use Rattle.jr_ast.specs.Tree as tree
use Rattle.jr_table.specs.Keys.{ClassKey, Ty}
use Rattle.jr_table.specs.Decls.{Decl, class_decl}
use Rattle.jr_table.specs.Rows.{Row}
use Rattle.jr_table.specs.Conditions.{AreRows}
use Rattle.jr_table.specs.Found.{Found, one}
use Rattle.jr_table.specs.Lookup.{FindsTypeNamed, FindsTypeOf, FindsLeftOf}
use Rattle.jr_table.specs.LookupLaws.{Decided, HasOne, EachHasOne}
use Rattle.jr_table.specs.BindingLaws.{IsBound}
use Rattle.jr_table.specs.Context.{Context, scope_of, IsSuperclass}
use Rattle.jr_table.specs.Binding.{HasType, IsClassName, HaveTypes, FindsIn, FindsFor, SuperFieldFinds, FieldFinds, CallFinds, SuperCallFinds, CreationFinds, SuperCtorFinds, Role, value, left, Sought, NameFinds, DottedFinds}
use Rattle.jr_table.specs.Binding as role
use Rattle.jr_table.specs.HeadRules.{TopFinds}
use Rattle.jr_program_laws.specs.FileParts.{begins}

decided_once : {X : Type 0} (found : X) (Finds : X → Type 0) → Decided found Finds → HasOne Finds
decided_once found Finds is a b p q = sym ((is a).1 p) ∙ (is b).1 q

in_once : (Class : ClassKey → Type 0) (Finds : ClassKey → Found → Type 0) → HasOne Class → ((k : ClassKey) → HasOne (Finds k)) → HasOne (FindsIn Class Finds)
in_once Class Finds c f a b (inl x) (inl y) = f x.0 a b x.2 (subst (λ (k : ClassKey). Finds k b) (sym (c x.0 y.0 x.1 y.1)) y.2)
in_once Class Finds c f a b (inl x) (inr y) = absurd (y.0 x.0 x.1)
in_once Class Finds c f a b (inr x) (inl y) = absurd (x.0 y.0 y.1)
in_once Class Finds c f a b (inr x) (inr y) = x.1 ∙ sym y.1

for_once : (Types : List Ty → Type 0) (Finds : List Ty → Found → Type 0) → HasOne Types → ((ts : List Ty) → HasOne (Finds ts)) → HasOne (FindsFor Types Finds)
for_once Types Finds c f a b (inl x) (inl y) = f x.0 a b x.2 (subst (λ (ts : List Ty). Finds ts b) (sym (c x.0 y.0 x.1 y.1)) y.2)
for_once Types Finds c f a b (inl x) (inr y) = absurd (y.0 x.0 x.1)
for_once Types Finds c f a b (inr x) (inl y) = absurd (x.0 y.0 y.1)
for_once Types Finds c f a b (inr x) (inr y) = x.1 ∙ sym y.1

pub same_decl : (d e : Decl) → one d ≡ one e → d ≡ e
same_decl d e h = cc

-- of a top-level class
pub top_once : (rows : List Row) (name : List ℕ) → (d e : Decl) → TopFinds rows name (one d) → TopFinds rows name (one e) → d ≡ e
top_once rows name d e (inl x) (inl y) = same_decl d e (x.2 ∙ sym y.2)
top_once rows name d e (inl x) (inr y) = let never = y.1 in absurd cc
top_once rows name d e (inr x) y = let never = x.1 in absurd cc

module _ (rows : List Row) (fit : AreRows rows) (lookups : EachHasOne rows) (c : Context) (bound : IsBound Span rows c) where
  pub type_named_once : (name : List ℕ) → HasOne (FindsTypeNamed rows (scope_of c) name)
  type_named_once name = lookups.type_named (scope_of c) name

  named_class_once : (name : List ℕ) → HasOne (λ (k : ClassKey). FindsTypeNamed rows (scope_of c) name (one (class_decl k)))
  named_class_once name j k p q = let same = lookups.type_named (scope_of c) name (one (class_decl j)) (one (class_decl k)) p q in cc

  -- a type's name behind a dot
  pub type_behind_once : (outer name : List ℕ) → HasOne (FindsIn (λ k. FindsTypeNamed rows (scope_of c) outer (one (class_decl k))) (λ k g. FindsTypeOf rows (scope_of c) k name g))
  type_behind_once outer name = in_once _ _ (named_class_once outer) (λ k. lookups.type_of (scope_of c) k name)

  pub name_once : (r : Role) (name : List ℕ) (q p : Sought) (f g : Found) → NameFinds begins rows c r name q f → NameFinds begins rows c r name p g → f ≡ g
  name_once left name q p f g h k = lookups.left (scope_of c) name f g h.1 k.1
  name_once value name q p f g h k = lookups.variable (scope_of c) name f g h.1 k.1
  name_once role.statement name q p f g h k = lookups.variable (scope_of c) name f g h.1 k.1

  class_name_once : (e : tree.Exp Span) → HasOne (IsClassName rows c e)
  class_name_once e j k p q = let a = (bound.names e j).1 p in let b = (bound.names e k).1 q in cc

  pub field_once : (e : tree.Exp Span) (name : List ℕ) → HasOne (FieldFinds rows c e name)
  field_once e name = decided_once _ _ (bound.fields e name)

  dotted_left_once : (e : tree.Exp Span) (name : List ℕ) (q p : Sought) (f g : Found) → DottedFinds begins rows c left e name q f → DottedFinds begins rows c left e name p g → f ≡ g
  dotted_left_once e name q p f g (inl h) (inl k) =
      lookups.left_of (scope_of c) h.0 name f g h.3 (subst (λ (o : ClassKey). FindsLeftOf rows (scope_of c) o name g) (sym (class_name_once e h.0 k.0 h.1 k.1)) k.3)
  dotted_left_once e name q p f g (inl h) (inr k) = absurd (k.0 h.0 h.1)
  dotted_left_once e name q p f g (inr h) (inl k) = absurd (h.0 k.0 k.1)
  dotted_left_once e name q p f g (inr h) (inr k) = field_once e name f g h.2 k.2

  pub dotted_once : (r : Role) (e : tree.Exp Span) (name : List ℕ) (q p : Sought) (f g : Found) → DottedFinds begins rows c r e name q f → DottedFinds begins rows c r e name p g → f ≡ g
  dotted_once left e name q p f g h k = dotted_left_once e name q p f g h k
  dotted_once value e name q p f g h k = field_once e name f g h.1 k.1
  dotted_once role.statement e name q p f g h k = field_once e name f g h.1 k.1

  pub super_field_once : (name : List ℕ) → HasOne (SuperFieldFinds rows c name)
  super_field_once name = decided_once _ _ (bound.super_fields name)

  pub call_once : (to : tree.Target Span) (name : List ℕ) (args : tree.Exps Span) → HasOne (CallFinds rows c to name args)
  call_once to name args = decided_once _ _ (bound.calls to name args)

  pub super_call_once : (name : List ℕ) (args : tree.Exps Span) → HasOne (SuperCallFinds rows c name args)
  super_call_once name args = decided_once _ _ (bound.super_calls name args)

  pub creation_once : (of : tree.TypeName Span) (args : tree.Exps Span) → HasOne (CreationFinds rows c of args)
  creation_once of args = decided_once _ _ (bound.creations of args)

  -- a written `super(..)`

  has_type_once : (e : tree.Exp Span) → HasOne (HasType rows c e)
  has_type_once e t u p q = let a = (bound.types e t).1 p in let b = (bound.types e u).1 q in cc

  have_types_once : (args : tree.Exps Span) → HasOne (HaveTypes rows c args)
  unfolding HaveTypes
  have_types_once tree.end ts us p q = p ∙ sym q
  have_types_once (tree.more e es) [] us p q = absurd p
  have_types_once (tree.more e es) (t ∷ ts) [] p q = absurd q
  have_types_once (tree.more e es) (t ∷ ts) (u ∷ us) p q = let first = has_type_once e t u p.0 q.0 in let rest = have_types_once es ts us p.1 q.1 in cc

  superclass_once : (k : ClassKey) → HasOne (IsSuperclass rows k)
  superclass_once k p q x y =
      let same : x.0 ≡ y.0 = fit.one_each (class_decl k) x.0 y.0 x.1 y.1 in
      let stands : Some x.1.row ≡ Some y.1.row = sym x.1.stands ∙ ap (slice_get rows) same ∙ y.1.stands in
      let a = x.2 in
      let b = y.2 in
      cc

  pub super_ctor_once : (args : tree.Exps Span) → HasOne (SuperCtorFinds rows c args)
  super_ctor_once args = in_once _ _ (superclass_once (scope_of c).class) (λ k. for_once _ _ (have_types_once args) (λ ts. lookups.ctor_of (scope_of c) k ts))
