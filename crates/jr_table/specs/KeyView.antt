-- The pure keys, members and declarations that Rust values stand for.
use Rattle.jr_table.specs.declared.keys.FieldKey as raw_field
use Rattle.jr_table.specs.declared.keys.MethodKey as raw_method
use Rattle.jr_table.specs.declared.keys.CtorKey as raw_ctor
use Rattle.jr_table.specs.declared.decls.MemberKey as raw_member
use Rattle.jr_table.specs.declared.decls.MemberKey.TheVariants as member
use Rattle.jr_table.specs.declared.decls.LocalKey as raw_local
use Rattle.jr_table.specs.declared.decls.Decl as raw_decl
use Rattle.jr_table.specs.declared.decls.Decl.TheVariants as shown
use Rattle.jr_table.specs.Keys.{FieldKey, MethodKey, CtorKey}
use Rattle.jr_table.specs.Decls.{
  MemberKey,
  head,
  field,
  method,
  constructor,
  LocalKey,
  Decl,
  class_decl,
  field_decl,
  method_decl,
  constructor_decl,
  local_decl,
}
use Rattle.jr_table.specs.TypeView.{class_key_of}

abbrev pub field_key_of : raw_field.FieldKey → FieldKey
field_key_of k = record { class = class_key_of k.class; name = k.name }

abbrev pub method_key_of : raw_method.MethodKey → MethodKey
method_key_of k = record { class = class_key_of k.class; name = k.name; params = k.params }

abbrev pub ctor_key_of : raw_ctor.CtorKey → CtorKey
ctor_key_of k = record { class = class_key_of k.class; params = k.params }

abbrev pub member_key_of : raw_member.MemberKey → MemberKey
member_key_of (member.Head k) = head (class_key_of k)
member_key_of (member.Field k) = field (field_key_of k)
member_key_of (member.Method k) = method (method_key_of k)
member_key_of (member.Ctor k) = constructor (ctor_key_of k)

abbrev pub local_key_of : raw_local.LocalKey → LocalKey
local_key_of k = record { member = member_key_of k.member; number = k.number }

abbrev pub decl_of : raw_decl.Decl → Decl
decl_of (shown.Class k) = class_decl (class_key_of k)
decl_of (shown.Field k) = field_decl (field_key_of k)
decl_of (shown.Method k) = method_decl (method_key_of k)
decl_of (shown.Ctor k) = constructor_decl (ctor_key_of k)
decl_of (shown.Local k) = local_decl (local_key_of k)
