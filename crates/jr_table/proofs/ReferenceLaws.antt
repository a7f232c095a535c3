-- What references find: what is computed is what the relations say.
use Rattle.std.proofs.Common.{◌≡◌, ℕ, List, Option, Some}
use Rattle.std.specs.Prelude.{◌↔◌}
use Rattle.jr_ast.specs.Tree as tree
use Rattle.jr_table.specs.Keys.{ClassKey, class}
use Rattle.jr_table.specs.Rows.{Row}
use Rattle.jr_table.specs.Conditions.{AreRows}
use Rattle.jr_table.specs.Lookup.{find_ctor_of}
use Rattle.jr_table.specs.LookupLaws.{Decided, KeysAreFound}
use Rattle.jr_table.specs.Context.{Context, scope_of, WritesType, IsSuperclass}
use Rattle.jr_table.specs.Binding.{HasType, IsClassName, HaveTypes, IsOn, FieldFinds, SuperFieldFinds, CallFinds, SuperCallFinds, CreationFinds}
use Rattle.jr_table.specs.Meanings.{find_for, field_found, call_found, ctor_found, own_superclass, created_class, type_of, class_name_of, target_found, types_of, class_on}
use Rattle.jr_table.proofs.Typing.{in_iff, on_iff, own_super_iff, field_iff, method_iff, ctors_iff, created_class_iff, typed, named, target, types}

module _ (rows : List Row) (fit : AreRows rows) (found : KeysAreFound rows) (c : Context) where
  pub super_field_finds : (name : List ℕ) → Decided (field_found rows c (own_superclass rows c) name) (SuperFieldFinds rows c name)
  super_field_finds name = field_iff rows fit found c (own_superclass rows c) (IsSuperclass rows (scope_of c).class) name (own_super_iff rows fit found c)

  module _ {A : Type 0} where
    pub on_class_iff : (e : tree.Exp A) (k : ClassKey) → (class_on rows c e ≡ Some k) ↔ IsOn rows c e k
    on_class_iff e k = on_iff (class_name_of rows c e) (type_of rows c e) (λ j. IsClassName rows c e j) (λ t. HasType rows c e t) (named rows fit found c e) (typed rows fit found c e) k

    pub field_finds : (e : tree.Exp A) (name : List ℕ) → Decided (field_found rows c (class_on rows c e) name) (FieldFinds rows c e name)
    field_finds e name = field_iff rows fit found c (class_on rows c e) (IsOn rows c e) name (on_class_iff e)

    pub call_finds : (to : tree.Target A) (name : List ℕ) (args : tree.Exps A) → Decided (target_found rows c to name (types_of rows c args)) (CallFinds rows c to name args)
    call_finds to name args = target rows fit found c to name (types_of rows c args) (HaveTypes rows c args) (types rows fit found c args)

    pub super_call_finds : (name : List ℕ) (args : tree.Exps A) → Decided (call_found rows c (own_superclass rows c) name (types_of rows c args)) (SuperCallFinds rows c name args)
    super_call_finds name args = method_iff rows fit found c (own_superclass rows c) (IsSuperclass rows (scope_of c).class) name (types_of rows c args) (HaveTypes rows c args) (own_super_iff rows fit found c) (types rows fit found c args)

    pub creation_finds : (of : tree.TypeName A) (args : tree.Exps A) → Decided (ctor_found rows c (created_class rows c of) (types_of rows c args)) (CreationFinds rows c of args)
    creation_finds of args = in_iff (created_class rows c of) (λ k. find_for (types_of rows c args) (λ ts. find_ctor_of rows (scope_of c) k ts)) (λ k. WritesType rows (scope_of c) of (class k))
        _ (created_class_iff rows fit found c of) (λ k. ctors_iff rows fit found c k (types_of rows c args) (HaveTypes rows c args) (types rows fit found c args))
