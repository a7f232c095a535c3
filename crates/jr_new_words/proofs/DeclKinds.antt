-- Declarations of one kind.
use Rattle.std.proofs.Common.{◌≡◌, true, refl}
use Rattle.jr_table.specs.Keys.{ClassKey, FieldKey, MethodKey, CtorKey}
use Rattle.jr_table.specs.Decls.{Decl, class_decl, field_decl, method_decl, constructor_decl, local_decl, LocalKey}
use Rattle.jr_new_words.specs.Ways.{is_class, is_field, is_method, is_ctor, is_local}

pub class_decls : (d : Decl) → is_class d ≡ true → (k : ClassKey) × (d ≡ class_decl k)
class_decls (class_decl k) e = (k, refl)
class_decls (field_decl k) e = absurd cc
class_decls (method_decl k) e = absurd cc
class_decls (constructor_decl k) e = absurd cc
class_decls (local_decl k) e = absurd cc

pub field_decls : (d : Decl) → is_field d ≡ true → (k : FieldKey) × (d ≡ field_decl k)
field_decls (class_decl k) e = absurd cc
field_decls (field_decl k) e = (k, refl)
field_decls (method_decl k) e = absurd cc
field_decls (constructor_decl k) e = absurd cc
field_decls (local_decl k) e = absurd cc

pub method_decls : (d : Decl) → is_method d ≡ true → (k : MethodKey) × (d ≡ method_decl k)
method_decls (class_decl k) e = absurd cc
method_decls (field_decl k) e = absurd cc
method_decls (method_decl k) e = (k, refl)
method_decls (constructor_decl k) e = absurd cc
method_decls (local_decl k) e = absurd cc

pub ctor_decls : (d : Decl) → is_ctor d ≡ true → (k : CtorKey) × (d ≡ constructor_decl k)
ctor_decls (class_decl k) e = absurd cc
ctor_decls (field_decl k) e = absurd cc
ctor_decls (method_decl k) e = absurd cc
ctor_decls (constructor_decl k) e = (k, refl)
ctor_decls (local_decl k) e = absurd cc

pub local_decls : (d : Decl) → is_local d ≡ true → (k : LocalKey) × (d ≡ local_decl k)
local_decls (class_decl k) e = absurd cc
local_decls (field_decl k) e = absurd cc
local_decls (method_decl k) e = absurd cc
local_decls (constructor_decl k) e = absurd cc
local_decls (local_decl k) e = (k, refl)
