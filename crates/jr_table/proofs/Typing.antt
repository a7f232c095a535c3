-- Types: what is computed is what the relations say.
use Rattle.std.proofs.Common.{◌≡◌, ◌≢◌, ℕ, List, [], ◌∷◌, Option, Some, None, refl, sym, ap, subst, ◌∙◌, inl, inr}
use Rattle.std.specs.Prelude.{◌⊎◌, ◌↔◌, option_and_then, option_map, codes}
use Rattle.jr_ast.specs.Tree as tree
use Rattle.jr_table.specs.Keys.{ClassKey, Ty, int, boolean, void, null, class}
use Rattle.jr_table.specs.Decls.{Decl, class_decl, field_decl, method_decl, constructor_decl, local_decl}
use Rattle.jr_table.specs.Rows.{Row}
use Rattle.jr_table.specs.Conditions.{AreRows}
use Rattle.jr_table.specs.Prelude.{top_key}
use Rattle.jr_table.specs.Found.{Found, one, nothing, many, not_accessible, from_static}
use Rattle.jr_table.specs.Scope.{Scope}
use Rattle.jr_table.specs.Lookup.{FindsVariable, find_variable, FindsTypeNamed, find_type_named, FindsTypeOf, find_type_of, FindsFieldIn, find_field_in, FindsMethodNamed, find_method_named, FindsMethodOf, find_method_of, FindsCtorOf, find_ctor_of, FindsLeft, FindsLeftOf}
use Rattle.jr_table.specs.LookupLaws.{Decided, KeysAreFound}
use Rattle.jr_table.specs.Context.{Context, scope_of, WritesType, IsTypeOf, IsSuperclass}
use Rattle.jr_table.specs.Binding.{sign_type, operator_type, FindsIn, FindsFor, On, HasType, IsClassName, TargetFinds, HaveTypes, IsOn, FieldFinds, SuperFieldFinds, CallFinds, SuperCallFinds, CreationFinds, SuperCtorFinds}
use Rattle.jr_table.specs.Meanings.{class_found, written_type, type_of_decl, type_of_found, class_in, on_class, find_in, find_for, with_first, or_type, find_left, find_left_of, created, field_found, call_found, plain_call_found, ctor_found, own_superclass, created_class, type_of, class_name_of, target_found, types_of, class_on}
use Rattle.jr_table.proofs.RowTypes.{chain, some_iff, then_iff, class_found_iff, class_in_iff, superclass_iff, written_iff, decl_type_iff}

-- what is found in a class, and with argument types
pub in_iff : (o : Option ClassKey) (find : ClassKey → Found) (Class : ClassKey → Type 0) (Finds : ClassKey → Found → Type 0)
    → ((k : ClassKey) → (o ≡ Some k) ↔ Class k) → ((k : ClassKey) → Decided (find k) (Finds k)) → Decided (find_in o find) (FindsIn Class Finds)
in_iff None find Class Finds is finds f = (λ e. inr (λ k c. let x = (is k).1 c in absurd cc, sym e), back)
  where
    back : FindsIn Class Finds f → nothing ≡ f
    back (inl (k, c, h)) = let x = (is k).1 c in absurd cc
    back (inr (none, e)) = sym e
in_iff (Some k) find Class Finds is finds f = (λ e. inl (k, (is k).0 refl, (finds k f).0 e), back)
  where
    back : FindsIn Class Finds f → find k ≡ f
    back (inl (j, c, h)) = let e = (is j).1 c in let same : k ≡ j = cc in ap find same ∙ (finds j f).1 h
    back (inr (none, e)) = absurd (none k ((is k).0 refl))

pub for_iff : (o : Option (List Ty)) (find : List Ty → Found) (Types : List Ty → Type 0) (Finds : List Ty → Found → Type 0)
    → ((ts : List Ty) → (o ≡ Some ts) ↔ Types ts) → ((ts : List Ty) → Decided (find ts) (Finds ts)) → Decided (find_for o find) (FindsFor Types Finds)
for_iff None find Types Finds is finds f = (λ e. inr (λ ts h. let x = (is ts).1 h in absurd cc, sym e), back)
  where
    back : FindsFor Types Finds f → nothing ≡ f
    back (inl (ts, c, h)) = let x = (is ts).1 c in absurd cc
    back (inr (none, e)) = sym e
for_iff (Some ts) find Types Finds is finds f = (λ e. inl (ts, (is ts).0 refl, (finds ts f).0 e), back)
  where
    back : FindsFor Types Finds f → find ts ≡ f
    back (inl (us, c, h)) = let e = (is us).1 c in let same : ts ≡ us = cc in ap find same ∙ (finds us f).1 h
    back (inr (none, e)) = absurd (none ts ((is ts).0 refl))

-- the class of a name, or else that of a value
pub on_iff : (o : Option ClassKey) (x : Option Ty) (Name : ClassKey → Type 0) (Has : Ty → Type 0)
    → ((k : ClassKey) → (o ≡ Some k) ↔ Name k) → ((t : Ty) → (x ≡ Some t) ↔ Has t) → (k : ClassKey) → (on_class o x ≡ Some k) ↔ On Name Has k
on_iff None x Name Has named typed k = (to, back)
  where
    to : class_in x ≡ Some k → On Name Has k
    to e = inr (λ j n. let z = (named j).1 n in absurd cc, (typed (class k)).0 ((class_in_iff x k).0 e))

    back : On Name Has k → class_in x ≡ Some k
    back (inl n) = let z = (named k).1 n in absurd cc
    back (inr (none, h)) = (class_in_iff x k).1 ((typed (class k)).1 h)
on_iff (Some j) x Name Has named typed k = (λ e. inl ((named k).0 e), back)
  where
    back : On Name Has k → Some j ≡ Some k
    back (inl n) = (named k).1 n
    back (inr (none, h)) = absurd (none j ((named j).0 refl))

-- a variable, or else a type
pub or_iff : (f g : Found) (First Second : Found → Type 0) → Decided f First → Decided g Second → Decided (or_type f g) (λ h. (First h × (h ≢ nothing)) ⊎ (First nothing × Second h))
or_iff nothing g First Second first second h = (λ e. inr ((first nothing).0 refl, (second h).0 e), back)
  where
    back : ((First h × (h ≢ nothing)) ⊎ (First nothing × Second h)) → g ≡ h
    back (inl (a, differs)) = absurd (differs (sym ((first h).1 a)))
    back (inr (a, b)) = (second h).1 b
or_iff (one d) g First Second first second h = (λ e. inl ((first h).0 e, λ z. let x = e ∙ z in absurd cc), back)
  where
    back : ((First h × (h ≢ nothing)) ⊎ (First nothing × Second h)) → one d ≡ h
    back (inl (a, differs)) = (first h).1 a
    back (inr (a, b)) = let x = (first nothing).1 a in absurd cc
or_iff (many c d) g First Second first second h = (λ e. inl ((first h).0 e, λ z. let x = e ∙ z in absurd cc), back)
  where
    back : ((First h × (h ≢ nothing)) ⊎ (First nothing × Second h)) → many c d ≡ h
    back (inl (a, differs)) = (first h).1 a
    back (inr (a, b)) = let x = (first nothing).1 a in absurd cc
or_iff (not_accessible d) g First Second first second h = (λ e. inl ((first h).0 e, λ z. let x = e ∙ z in absurd cc), back)
  where
    back : ((First h × (h ≢ nothing)) ⊎ (First nothing × Second h)) → not_accessible d ≡ h
    back (inl (a, differs)) = (first h).1 a
    back (inr (a, b)) = let x = (first nothing).1 a in absurd cc
or_iff (from_static d) g First Second first second h = (λ e. inl ((first h).0 e, λ z. let x = e ∙ z in absurd cc), back)
  where
    back : ((First h × (h ≢ nothing)) ⊎ (First nothing × Second h)) → from_static d ≡ h
    back (inl (a, differs)) = (first h).1 a
    back (inr (a, b)) = let x = (first nothing).1 a in absurd cc

first_none : (x : Option Ty) (y : Option (List Ty)) → with_first x y ≡ Some [] → ⊥
first_none None y e = absurd cc
first_none (Some t) None e = absurd cc
first_none (Some t) (Some ts) e = absurd cc

first_iff : (x : Option Ty) (y : Option (List Ty)) (t : Ty) (ts : List Ty) → (with_first x y ≡ Some (t ∷ ts)) ↔ ((x ≡ Some t) × (y ≡ Some ts))
first_iff None y t ts = (λ e. absurd cc, λ h. let x = h.0 in absurd cc)
first_iff (Some u) None t ts = (λ e. absurd cc, λ h. let x = h.1 in absurd cc)
first_iff (Some u) (Some us) t ts = (λ e. let i : u ≡ t = cc in let j : us ≡ ts = cc in (ap Some i, ap Some j), λ h. let x = h.0 in let y = h.1 in cc)

created_iff : (o : Option ClassKey) (f : Found) (t : Ty) → (created o f ≡ Some t) ↔ ((k : ClassKey) × (d : Decl) × (o ≡ Some k) × (f ≡ one d) × (t ≡ class k))
created_iff None (one d) t = (λ e. absurd cc, λ h. let x = h.2 in absurd cc)
created_iff (Some k) (one d) t = (λ e. let i : class k ≡ t = cc in (k, d, refl, refl, sym i), λ h. let x = h.2 in let i : k ≡ h.0 = cc in ap Some (ap class i ∙ sym h.4))
created_iff o nothing t = (λ e. absurd cc, λ h. let x = h.3 in absurd cc)
created_iff o (many a b) t = (λ e. absurd cc, λ h. let x = h.3 in absurd cc)
created_iff o (not_accessible a) t = (λ e. absurd cc, λ h. let x = h.3 in absurd cc)
created_iff o (from_static a) t = (λ e. absurd cc, λ h. let x = h.3 in absurd cc)

no_class : (k : ClassKey) → (None ≡ Some k) ↔ ⊥
no_class k = (λ e. absurd cc, λ h. absurd h)

module _ (rows : List Row) (fit : AreRows rows) (found : KeysAreFound rows) (c : Context) where
  found_iff : (f : Found) (t : Ty) → (type_of_found rows c f ≡ Some t) ↔ ((d : Decl) × (f ≡ one d) × IsTypeOf rows c d t)
  found_iff (one d) t = chain (decl_type_iff rows fit found c d t) (λ h. (d, refl, h), λ h. let x = h.1 in let i : d ≡ h.0 = cc in subst (λ y. IsTypeOf rows c y t) (sym i) h.2)
  found_iff nothing t = (λ e. absurd cc, λ h. let x = h.1 in absurd cc)
  found_iff (many a b) t = (λ e. absurd cc, λ h. let x = h.1 in absurd cc)
  found_iff (not_accessible a) t = (λ e. absurd cc, λ h. let x = h.1 in absurd cc)
  found_iff (from_static a) t = (λ e. absurd cc, λ h. let x = h.1 in absurd cc)

  -- the type of what a reference finds
  typed_by : (f : Found) (Finds : Found → Type 0) → Decided f Finds → (t : Ty) → (type_of_found rows c f ≡ Some t) ↔ ((d : Decl) × Finds (one d) × IsTypeOf rows c d t)
  typed_by f Finds is t = chain (found_iff f t) (λ h. (h.0, (is (one h.0)).0 h.1, h.2), λ h. (h.0, (is (one h.0)).1 h.1, h.2))

  pub left_iff : (name : List ℕ) → Decided (find_left rows (scope_of c) name) (FindsLeft rows (scope_of c) name)
  unfolding find_left
  left_iff name = or_iff (find_variable rows (scope_of c) name) (find_type_named rows (scope_of c) name) (FindsVariable rows (scope_of c) name) (FindsTypeNamed rows (scope_of c) name) (found.variable (scope_of c) name) (found.type_named (scope_of c) name)

  pub left_of_iff : (k : ClassKey) (name : List ℕ) → Decided (find_left_of rows (scope_of c) k name) (FindsLeftOf rows (scope_of c) k name)
  unfolding find_left_of
  left_of_iff k name = or_iff (find_field_in rows (scope_of c) k name) (find_type_of rows (scope_of c) k name) (FindsFieldIn rows (scope_of c) k name) (FindsTypeOf rows (scope_of c) k name) (found.field_in (scope_of c) k name) (found.type_of (scope_of c) k name)

  pub own_super_iff : (k : ClassKey) → (own_superclass rows c ≡ Some k) ↔ IsSuperclass rows (scope_of c).class k
  own_super_iff k = superclass_iff rows fit (scope_of c).class k

  -- a field of a class, and a method of a class, for argument types
  pub field_iff : (o : Option ClassKey) (Class : ClassKey → Type 0) (name : List ℕ) → ((k : ClassKey) → (o ≡ Some k) ↔ Class k)
      → Decided (field_found rows c o name) (FindsIn Class (λ k f. FindsFieldIn rows (scope_of c) k name f))
  field_iff o Class name is = in_iff o (λ k. find_field_in rows (scope_of c) k name) Class (λ k f. FindsFieldIn rows (scope_of c) k name f) is (λ k. found.field_in (scope_of c) k name)

  pub method_iff : (o : Option ClassKey) (Class : ClassKey → Type 0) (name : List ℕ) (ts : Option (List Ty)) (Types : List Ty → Type 0)
      → ((k : ClassKey) → (o ≡ Some k) ↔ Class k) → ((us : List Ty) → (ts ≡ Some us) ↔ Types us)
      → Decided (call_found rows c o name ts) (FindsIn Class (λ k. FindsFor Types (λ us f. FindsMethodOf rows (scope_of c) k name us f)))
  method_iff o Class name ts Types is are = in_iff o (λ k. find_for ts (λ us. find_method_of rows (scope_of c) k name us)) Class (λ k. FindsFor Types (λ us f. FindsMethodOf rows (scope_of c) k name us f)) is
      (λ k. for_iff ts (λ us. find_method_of rows (scope_of c) k name us) Types (λ us f. FindsMethodOf rows (scope_of c) k name us f) are (λ us. found.method_of (scope_of c) k name us))

  pub plain_iff : (name : List ℕ) (ts : Option (List Ty)) (Types : List Ty → Type 0) → ((us : List Ty) → (ts ≡ Some us) ↔ Types us)
      → Decided (plain_call_found rows c name ts) (FindsFor Types (λ us f. FindsMethodNamed rows (scope_of c) name us f))
  plain_iff name ts Types are = for_iff ts (λ us. find_method_named rows (scope_of c) name us) Types (λ us f. FindsMethodNamed rows (scope_of c) name us f) are (λ us. found.method_named (scope_of c) name us)

  pub ctors_iff : (k : ClassKey) (ts : Option (List Ty)) (Types : List Ty → Type 0) → ((us : List Ty) → (ts ≡ Some us) ↔ Types us)
      → Decided (find_for ts (λ us. find_ctor_of rows (scope_of c) k us)) (FindsFor Types (λ us f. FindsCtorOf rows (scope_of c) k us f))
  ctors_iff k ts Types are = for_iff ts (λ us. find_ctor_of rows (scope_of c) k us) Types (λ us f. FindsCtorOf rows (scope_of c) k us f) are (λ us. found.ctor_of (scope_of c) k us)

  pub created_class_iff : {A : Type 0} (of : tree.TypeName A) (k : ClassKey) → (created_class rows c of ≡ Some k) ↔ WritesType rows (scope_of c) of (class k)
  created_class_iff of k = chain (class_in_iff (written_type rows (scope_of c) of) k) (written_iff rows fit found (scope_of c) of (class k))

  creation_iff : {A : Type 0} (of : tree.TypeName A) (ts : Option (List Ty)) (Types : List Ty → Type 0) (are : (us : List Ty) → (ts ≡ Some us) ↔ Types us) (t : Ty)
      → (created (created_class rows c of) (ctor_found rows c (created_class rows c of) ts) ≡ Some t)
      ↔ ((k : ClassKey) × (d : Decl) × WritesType rows (scope_of c) of (class k) × FindsFor Types (λ us f. FindsCtorOf rows (scope_of c) k us f) (one d) × (t ≡ class k))
  creation_iff of ts Types are t = chain (created_iff (created_class rows c of) (ctor_found rows c (created_class rows c of) ts) t) (to, back)
    where
      to : ((k : ClassKey) × (d : Decl) × (created_class rows c of ≡ Some k) × (ctor_found rows c (created_class rows c of) ts ≡ one d) × (t ≡ class k))
          → (k : ClassKey) × (d : Decl) × WritesType rows (scope_of c) of (class k) × FindsFor Types (λ us f. FindsCtorOf rows (scope_of c) k us f) (one d) × (t ≡ class k)
      to (k, d, e, h, i) = (k, d, (created_class_iff of k).0 e, (ctors_iff k ts Types are (one d)).0 (sym (ap (λ o. ctor_found rows c o ts) e) ∙ h), i)

      back : ((k : ClassKey) × (d : Decl) × WritesType rows (scope_of c) of (class k) × FindsFor Types (λ us f. FindsCtorOf rows (scope_of c) k us f) (one d) × (t ≡ class k))
          → (k : ClassKey) × (d : Decl) × (created_class rows c of ≡ Some k) × (ctor_found rows c (created_class rows c of) ts ≡ one d) × (t ≡ class k)
      back (k, d, e, h, i) = let is = (created_class_iff of k).1 e in (k, d, is, ap (λ o. ctor_found rows c o ts) is ∙ (ctors_iff k ts Types are (one d)).1 h, i)

  module _ {A : Type 0} where
    -- of the target of a call: the class on which it calls
    abbrev IsPlaced : tree.Target A → Type 0
    IsPlaced tree.no_target = Unit {0}
    IsPlaced (tree.on e) = (k : ClassKey) → (on_class (class_name_of rows c e) (type_of rows c e) ≡ Some k) ↔ On (λ o. IsClassName rows c e o) (λ u. HasType rows c e u) k

    target_by : (to : tree.Target A) → IsPlaced to → (name : List ℕ) (ts : Option (List Ty)) (Types : List Ty → Type 0) → ((us : List Ty) → (ts ≡ Some us) ↔ Types us)
        → Decided (target_found rows c to name ts) (λ f. TargetFinds rows c to name Types f)
    unfolding target_found TargetFinds
    target_by tree.no_target at name ts Types are = plain_iff name ts Types are
    target_by (tree.on e) at name ts Types are = method_iff (on_class (class_name_of rows c e) (type_of rows c e)) (On (λ k. IsClassName rows c e k) (λ u. HasType rows c e u)) name ts Types at are

    mutual
      unfolding type_of HasType class_name_of IsClassName target_found TargetFinds types_of HaveTypes

      -- what is computed is the type that the expression has
      pub typed : (e : tree.Exp A) (t : Ty) → (type_of rows c e ≡ Some t) ↔ HasType rows c e t
      typed (tree.number m n) t = some_iff int t
      typed (tree.truth m b) t = some_iff boolean t
      typed (tree.null m) t = some_iff null t
      typed (tree.string m text) t = some_iff (class (top_key (codes "String"))) t
      typed (tree.this m) t = some_iff (class (scope_of c).class) t
      typed (tree.class_literal m of) t = some_iff (class (top_key (codes "Class"))) t
      typed (tree.name m w) t = typed_by (find_variable rows (scope_of c) w.text) (FindsVariable rows (scope_of c) w.text) (found.variable (scope_of c) w.text) t
      typed (tree.field m e w) t = typed_by (field_found rows c (on_class (class_name_of rows c e) (type_of rows c e)) w.text) _
          (field_iff (on_class (class_name_of rows c e) (type_of rows c e)) (On (λ k. IsClassName rows c e k) (λ u. HasType rows c e u)) w.text
          (on_iff (class_name_of rows c e) (type_of rows c e) (λ k. IsClassName rows c e k) (λ u. HasType rows c e u) (λ k. named e k) (λ u. typed e u))) t
      typed (tree.super_field m w) t = typed_by (field_found rows c (own_superclass rows c) w.text) _ (field_iff (own_superclass rows c) (IsSuperclass rows (scope_of c).class) w.text own_super_iff) t
      typed (tree.call m to w args) t = typed_by (target_found rows c to w.text (types_of rows c args)) (λ f. TargetFinds rows c to w.text (λ ts. HaveTypes rows c args ts) f)
          (target_by to (placed to) w.text (types_of rows c args) (λ ts. HaveTypes rows c args ts) (λ us. types args us)) t
      typed (tree.super_call m w args) t = typed_by (call_found rows c (own_superclass rows c) w.text (types_of rows c args)) _
          (method_iff (own_superclass rows c) (IsSuperclass rows (scope_of c).class) w.text (types_of rows c args) (λ ts. HaveTypes rows c args ts) own_super_iff (λ us. types args us)) t
      typed (tree.create m of args) t = creation_iff of (types_of rows c args) (λ ts. HaveTypes rows c args ts) (λ us. types args us) t
      typed (tree.paren m e) t = typed e t
      typed (tree.cast m of e) t = written_iff rows fit found (scope_of c) of t
      typed (tree.unary m o e) t = some_iff (sign_type o) t
      typed (tree.bump m o e) t = some_iff int t
      typed (tree.binary m o l r) t = some_iff (operator_type o) t
      typed (tree.assign m l r) t = typed l t
      typed (tree.compound m o l r) t = some_iff int t

      -- the class whose name it is before a dot
      pub named : (e : tree.Exp A) (k : ClassKey) → (class_name_of rows c e ≡ Some k) ↔ IsClassName rows c e k
      named (tree.name m w) k = chain (class_found_iff (find_left rows (scope_of c) w.text) k) (left_iff w.text (one (class_decl k)))
      named (tree.field m e w) k = chain (then_iff (class_name_of rows c e) (λ o. class_found (find_left_of rows (scope_of c) o w.text)) k) (
        λ h. (h.0, (named e h.0).0 h.1, (left_of_iff h.0 w.text (one (class_decl k))).0 ((class_found_iff (find_left_of rows (scope_of c) h.0 w.text) k).0 h.2)),
        λ h. (h.0, (named e h.0).1 h.1, (class_found_iff (find_left_of rows (scope_of c) h.0 w.text) k).1 ((left_of_iff h.0 w.text (one (class_decl k))).1 h.2)),
      )
      named (tree.number m n) k = no_class k
      named (tree.truth m b) k = no_class k
      named (tree.null m) k = no_class k
      named (tree.string m text) k = no_class k
      named (tree.this m) k = no_class k
      named (tree.class_literal m of) k = no_class k
      named (tree.super_field m w) k = no_class k
      named (tree.call m to w args) k = no_class k
      named (tree.super_call m w args) k = no_class k
      named (tree.create m of args) k = no_class k
      named (tree.paren m e) k = no_class k
      named (tree.cast m of e) k = no_class k
      named (tree.unary m o e) k = no_class k
      named (tree.bump m o e) k = no_class k
      named (tree.binary m o l r) k = no_class k
      named (tree.assign m l r) k = no_class k
      named (tree.compound m o l r) k = no_class k

      placed : (to : tree.Target A) → IsPlaced to
      placed tree.no_target = tt
      placed (tree.on e) = on_iff (class_name_of rows c e) (type_of rows c e) (λ k. IsClassName rows c e k) (λ u. HasType rows c e u) (λ k. named e k) (λ u. typed e u)

      pub types : (args : tree.Exps A) (ts : List Ty) → (types_of rows c args ≡ Some ts) ↔ HaveTypes rows c args ts
      types tree.end ts = some_iff [] ts
      types (tree.more e es) [] = (λ h. absurd (first_none (type_of rows c e) (types_of rows c es) h), λ h. absurd h)
      types (tree.more e es) (t ∷ ts) = chain (first_iff (type_of rows c e) (types_of rows c es) t ts) (λ h. ((typed e t).0 h.0, (types es ts).0 h.1), λ h. ((typed e t).1 h.0, (types es ts).1 h.1))

    pub target : (to : tree.Target A) (name : List ℕ) (ts : Option (List Ty)) (Types : List Ty → Type 0) → ((us : List Ty) → (ts ≡ Some us) ↔ Types us)
        → Decided (target_found rows c to name ts) (λ f. TargetFinds rows c to name Types f)
    target to name ts Types are = target_by to (placed to) name ts Types are
