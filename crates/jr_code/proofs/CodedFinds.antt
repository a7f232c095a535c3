-- What names, fields, calls and constructors find in the sample program, at a place of Q's method; and which casts can fail.
use Rattle.std.proofs.Common.{◌≡◌, ℕ, List, [], ◌∷◌, None, true, refl, sym, ap, subst, ◌∙◌, inl, inr, length, arith}
use Rattle.std.specs.Prelude.{codes}
use Rattle.jr_ast.specs.declared.operators.ModWord.TheVariants as word
use Rattle.jr_ast.specs.Tree as tree
use Rattle.jr_table.specs.Keys.{ClassKey, class}
use Rattle.jr_table.specs.Decls.{class_decl, field_decl, method_decl, constructor_decl, head}
use Rattle.jr_table.specs.Prelude.{object_key, class_row}
use Rattle.jr_table.specs.Entries.{number_of, entries_of}
use Rattle.jr_table.specs.Chains.{IsChain, In, IsSubclassAt, chain_of}
use Rattle.jr_table.specs.Looking.{own_row, nearest, member}
use Rattle.jr_table.specs.Access.{is_accessible, lacks_object}
use Rattle.jr_table.specs.Calls.{assignable, as_specific, is_named, is_ctor, methods_named, ctors_in, choose_at, find_method, find_ctor, find_call}
use Rattle.jr_table.specs.Fields.{find_field, find_field_of, find_member_type}
use Rattle.jr_table.specs.TypeNames.{find_type}
use Rattle.jr_table.specs.Scope.{Scope, last_named}
use Rattle.jr_table.specs.Found.{one, nothing}
use Rattle.jr_table.specs.Lookup.{FindsVariable, FindsTypeNamed, FindsCtorOf, shown, find_variable, find_type_named, find_type_of, find_field_in, find_method_named, find_method_of, find_ctor_of}
use Rattle.jr_table.specs.Meanings.{row_of, find_left, find_left_of, type_of, class_name_of, target_found, types_of}
use Rattle.jr_table.specs.Keyed.{IsSubclass, IsAssignable}
use Rattle.jr_table.specs.Context.{Context, scope_of, IsStaticDecl, IsInstanceDecl, IsSuperclass}
use Rattle.jr_table.specs.Binding.{FieldFinds, CallFinds, SuperCallFinds, CreationFinds, SuperCtorFinds, HaveTypes}
use Rattle.jr_table.specs.HeadRules.{plain}
use Rattle.jr_table.specs.LookupSample.{a, q, class_at, field_at, method_at}
use Rattle.jr_table.proofs.BindingSamples.{w}
use Rattle.jr_table.proofs.ReferenceLaws.{field_finds, call_finds, super_call_finds, creation_finds}
use Rattle.jr_code.specs.CodedMembers.{ImplicitFinds}
use Rattle.jr_code.proofs.CodedSample.{rows, are, found, f_key, sf_key, h_key, a_m, a_s, q_m, a_new, q_new, in_m}

abbrev pub no_args : tree.Exps ℕ
no_args = tree.end

abbrev pub word_a : tree.Exp ℕ
word_a = tree.name 0 (w 0 (codes "A"))

-- `f`, `sf`, `A`
pub f_found : FindsVariable rows (scope_of in_m) (codes "f") (one (field_decl f_key))
unfolding is_accessible lacks_object assignable as_specific is_named is_ctor methods_named ctors_in choose_at find_method find_ctor find_call find_field find_field_of find_member_type last_named find_type shown find_variable find_type_named find_type_of find_field_in find_method_named find_method_of find_ctor_of own_row nearest member number_of entries_of chain_of row_of find_left find_left_of type_of class_name_of target_found types_of
f_found = (found.variable (scope_of in_m) (codes "f") (one (field_decl f_key))).0 refl

pub sf_found : FindsVariable rows (scope_of in_m) (codes "sf") (one (field_decl sf_key))
unfolding is_accessible lacks_object assignable as_specific is_named is_ctor methods_named ctors_in choose_at find_method find_ctor find_call find_field find_field_of find_member_type last_named find_type shown find_variable find_type_named find_type_of find_field_in find_method_named find_method_of find_ctor_of own_row nearest member number_of entries_of chain_of row_of find_left find_left_of type_of class_name_of target_found types_of
sf_found = (found.variable (scope_of in_m) (codes "sf") (one (field_decl sf_key))).0 refl

pub a_is_no_variable : FindsVariable rows (scope_of in_m) (codes "A") nothing
unfolding is_accessible lacks_object assignable as_specific is_named is_ctor methods_named ctors_in choose_at find_method find_ctor find_call find_field find_field_of find_member_type last_named find_type shown find_variable find_type_named find_type_of find_field_in find_method_named find_method_of find_ctor_of own_row nearest member number_of entries_of chain_of row_of find_left find_left_of type_of class_name_of target_found types_of
a_is_no_variable = (found.variable (scope_of in_m) (codes "A") nothing).0 refl

pub a_named : FindsTypeNamed rows (scope_of in_m) (codes "A") (one (class_decl a))
unfolding is_accessible lacks_object assignable as_specific is_named is_ctor methods_named ctors_in choose_at find_method find_ctor find_call find_field find_field_of find_member_type last_named find_type shown find_variable find_type_named find_type_of find_field_in find_method_named find_method_of find_ctor_of own_row nearest member number_of entries_of chain_of row_of find_left find_left_of type_of class_name_of target_found types_of
a_named = (found.type_named (scope_of in_m) (codes "A") (one (class_decl a))).0 refl

pub q_named : FindsTypeNamed rows (scope_of in_m) (codes "Q") (one (class_decl q))
unfolding is_accessible lacks_object assignable as_specific is_named is_ctor methods_named ctors_in choose_at find_method find_ctor find_call find_field find_field_of find_member_type last_named find_type shown find_variable find_type_named find_type_of find_field_in find_method_named find_method_of find_ctor_of own_row nearest member number_of entries_of chain_of row_of find_left find_left_of type_of class_name_of target_found types_of
q_named = (found.type_named (scope_of in_m) (codes "Q") (one (class_decl q))).0 refl

pub object_named : FindsTypeNamed rows (scope_of in_m) (codes "Object") (one (class_decl object_key))
unfolding is_accessible lacks_object assignable as_specific is_named is_ctor methods_named ctors_in choose_at find_method find_ctor find_call find_field find_field_of find_member_type last_named find_type shown find_variable find_type_named find_type_of find_field_in find_method_named find_method_of find_ctor_of own_row nearest member number_of entries_of chain_of row_of find_left find_left_of type_of class_name_of target_found types_of
object_named = (found.type_named (scope_of in_m) (codes "Object") (one (class_decl object_key))).0 refl

-- `A.sf`, `this.h`
pub a_sf_found : FieldFinds rows in_m word_a (codes "sf") (one (field_decl sf_key))
unfolding is_accessible lacks_object assignable as_specific is_named is_ctor methods_named ctors_in choose_at find_method find_ctor find_call find_field find_field_of find_member_type last_named find_type shown find_variable find_type_named find_type_of find_field_in find_method_named find_method_of find_ctor_of own_row nearest member number_of entries_of chain_of row_of find_left find_left_of type_of class_name_of target_found types_of
a_sf_found = (field_finds rows are found in_m word_a (codes "sf") (one (field_decl sf_key))).0 refl

pub this_h_found : FieldFinds {A = ℕ} rows in_m (tree.this 1) (codes "h") (one (field_decl h_key))
unfolding is_accessible lacks_object assignable as_specific is_named is_ctor methods_named ctors_in choose_at find_method find_ctor find_call find_field find_field_of find_member_type last_named find_type shown find_variable find_type_named find_type_of find_field_in find_method_named find_method_of find_ctor_of own_row nearest member number_of entries_of chain_of row_of find_left find_left_of type_of class_name_of target_found types_of
this_h_found = (field_finds rows are found in_m (tree.this 1) (codes "h") (one (field_decl h_key))).0 refl

-- `m()`, `A.s()`, `super.m()`
pub m_found : CallFinds rows in_m tree.no_target (codes "m") no_args (one (method_decl q_m))
unfolding is_accessible lacks_object assignable as_specific is_named is_ctor methods_named ctors_in choose_at find_method find_ctor find_call find_field find_field_of find_member_type last_named find_type shown find_variable find_type_named find_type_of find_field_in find_method_named find_method_of find_ctor_of own_row nearest member number_of entries_of chain_of row_of find_left find_left_of type_of class_name_of target_found types_of
m_found = (call_finds rows are found in_m tree.no_target (codes "m") no_args (one (method_decl q_m))).0 refl

pub a_s_found : CallFinds rows in_m (tree.on word_a) (codes "s") no_args (one (method_decl a_s))
unfolding is_accessible lacks_object assignable as_specific is_named is_ctor methods_named ctors_in choose_at find_method find_ctor find_call find_field find_field_of find_member_type last_named find_type shown find_variable find_type_named find_type_of find_field_in find_method_named find_method_of find_ctor_of own_row nearest member number_of entries_of chain_of row_of find_left find_left_of type_of class_name_of target_found types_of
a_s_found = (call_finds rows are found in_m (tree.on word_a) (codes "s") no_args (one (method_decl a_s))).0 refl

pub super_m_found : SuperCallFinds rows in_m (codes "m") no_args (one (method_decl a_m))
unfolding is_accessible lacks_object assignable as_specific is_named is_ctor methods_named ctors_in choose_at find_method find_ctor find_call find_field find_field_of find_member_type last_named find_type shown find_variable find_type_named find_type_of find_field_in find_method_named find_method_of find_ctor_of own_row nearest member number_of entries_of chain_of row_of find_left find_left_of type_of class_name_of target_found types_of
super_m_found = (super_call_finds rows are found in_m (codes "m") no_args (one (method_decl a_m))).0 refl

-- `new Q()`, and A's constructor from a place of Q
pub q_new_found : CreationFinds rows in_m (tree.named 4 None (w 4 (codes "Q"))) no_args (one (constructor_decl q_new))
unfolding is_accessible lacks_object assignable as_specific is_named is_ctor methods_named ctors_in choose_at find_method find_ctor find_call find_field find_field_of find_member_type last_named find_type shown find_variable find_type_named find_type_of find_field_in find_method_named find_method_of find_ctor_of own_row nearest member number_of entries_of chain_of row_of find_left find_left_of type_of class_name_of target_found types_of
q_new_found = (creation_finds rows are found in_m (tree.named 4 None (w 4 (codes "Q"))) no_args (one (constructor_decl q_new))).0 refl

pub q_extends_a : IsSuperclass rows q a
q_extends_a = (14, record { row = class_at [] q a; stands = refl; declares = refl }, refl)

pub a_new_found : (c : Context) → scope_of c ≡ scope_of (plain (head q) true) → FindsCtorOf rows (scope_of c) a [] (one (constructor_decl a_new))
unfolding is_accessible lacks_object assignable as_specific is_named is_ctor methods_named ctors_in choose_at find_method find_ctor find_call find_field find_field_of find_member_type last_named find_type shown find_variable find_type_named find_type_of find_field_in find_method_named find_method_of find_ctor_of own_row nearest member number_of entries_of chain_of row_of find_left find_left_of type_of class_name_of target_found types_of
a_new_found c same = subst (λ (s : Scope). FindsCtorOf rows s a [] (one (constructor_decl a_new))) (sym same) ((found.ctor_of (scope_of (plain (head q) true)) a [] (one (constructor_decl a_new))).0 refl)

pub super_found : (c : Context) → scope_of c ≡ scope_of (plain (head q) true) → ImplicitFinds rows c a_new
super_found c same = inl (a, subst (λ (s : Scope). IsSuperclass rows s.class a) (sym same) q_extends_a, a_new_found c same)

pub written_super_found : (c : Context) → scope_of c ≡ scope_of (plain (head q) true) → SuperCtorFinds rows c no_args (one (constructor_decl a_new))
unfolding HaveTypes
written_super_found c same = inl (a, subst (λ (s : Scope). IsSuperclass rows s.class a) (sym same) q_extends_a, inl ([], refl, a_new_found c same))

-- words
pub f_of_objects : IsInstanceDecl rows (field_decl f_key)
f_of_objects = (10, record { row = field_at [] a (codes "f"); stands = refl; declares = refl }, refl)

pub sf_static : IsStaticDecl rows (field_decl sf_key)
sf_static = (11, record { row = field_at (word.Static ∷ []) a (codes "sf"); stands = refl; declares = refl }, refl)

pub h_of_objects : IsInstanceDecl rows (field_decl h_key)
h_of_objects = (16, record { row = field_at [] q (codes "h"); stands = refl; declares = refl }, refl)

pub a_m_of_objects : IsInstanceDecl rows (method_decl a_m)
a_m_of_objects = (12, record { row = method_at [] a (codes "m") []; stands = refl; declares = refl }, refl)

pub a_s_static : IsStaticDecl rows (method_decl a_s)
a_s_static = (13, record { row = method_at (word.Static ∷ []) a (codes "s") []; stands = refl; declares = refl }, refl)

pub q_m_of_objects : IsInstanceDecl rows (method_decl q_m)
q_m_of_objects = (17, record { row = method_at [] q (codes "m") []; stands = refl; declares = refl }, refl)

-- casts: Q is below A, and Object isn't below Q
pub q_below_a : IsSubclass rows q a
unfolding entries_of number_of
q_below_a = record {
  c = 14;
  d = 8;
  below = record { row = class_at [] q a; stands = refl; declares = refl };
  over = record { row = class_at [] a object_key; stands = refl; declares = refl };
  climbs = record { chain = 14 ∷ 8 ∷ 0 ∷ []; goes_up = (refl, (refl, (refl, refl))); among = inr (inl refl) };
}

pub q_below_object : IsSubclass rows q object_key
unfolding entries_of number_of
q_below_object = record {
  c = 14;
  d = 0;
  below = record { row = class_at [] q a; stands = refl; declares = refl };
  over = record { row = class_row [] (codes "Object") None; stands = refl; declares = refl };
  climbs = record { chain = 14 ∷ 8 ∷ 0 ∷ []; goes_up = (refl, (refl, (refl, refl))); among = inr (inr (inl refl)) };
}

not_up : (chain : List ℕ) → IsChain (entries_of rows) 0 chain → In chain 14 → ⊥
unfolding entries_of number_of
not_up [] goes among = goes
not_up (x ∷ xs) goes (inl is) = let e : 0 ≡ 14 = goes.0 ∙ is in omega (arith, e)
not_up (x ∷ xs) goes (inr later) = subst (λ (ys : List ℕ). In ys 14) goes.1 later

pub object_not_below_q : IsAssignable rows (class object_key) (class q) → ⊥
object_not_below_q (inl same) = (let e : object_key ≡ q = cc in let lengths : 6 ≡ 1 = ap (λ (k : ClassKey). length k.name) e in omega (arith, lengths))
object_not_below_q (inr below) = not_up up.chain up.goes_up up.among
  where
    first : below.c ≡ 0
    first = are.one_each (class_decl object_key) below.c 0 below.below (record { row = class_row [] (codes "Object") None; stands = refl; declares = refl })

    second : below.d ≡ 14
    second = are.one_each (class_decl q) below.d 14 below.over (record { row = class_at [] q a; stands = refl; declares = refl })

    up : IsSubclassAt (entries_of rows) 0 14
    up = subst (λ (c : ℕ). IsSubclassAt (entries_of rows) c 14) first (subst (λ (d : ℕ). IsSubclassAt (entries_of rows) below.c d) second below.climbs)
