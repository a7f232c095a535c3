-- The pure declarations that Rust values stand for.
use Rattle.std.specs.Prelude.{map, option_map, ℕ, List}
use Rattle.std.specs.Borrow.{Bor}
use Rattle.jr_build_declared.specs.declared.declarations.Written as raw_written
use Rattle.jr_build_declared.specs.declared.declarations.Written.TheVariants as shown
use Rattle.jr_build_declared.specs.declared.declarations.DeclaredKey as raw_key
use Rattle.jr_build_declared.specs.declared.declarations.DeclaredParam as raw_param
use Rattle.jr_build_declared.specs.declared.declarations.DeclaredInit as raw_init
use Rattle.jr_build_declared.specs.declared.declarations.DeclaredClass as raw_class
use Rattle.jr_build_declared.specs.declared.declarations.DeclaredField as raw_field
use Rattle.jr_build_declared.specs.declared.declarations.DeclaredMethod as raw_method
use Rattle.jr_build_declared.specs.declared.declarations.DeclaredCtor as raw_ctor
use Rattle.jr_build_declared.specs.declared.declarations.DeclaredKind as raw_item
use Rattle.jr_build_declared.specs.declared.declarations.DeclaredKind.TheVariants as item
use Rattle.jr_build_declared.specs.declared.declarations.DeclaredItem as raw_declaration
use Rattle.jr_table.specs.Keys.{ClassKey}
use Rattle.jr_table.specs.DeclaredItems.{
  Written,
  int,
  boolean,
  named,
  DeclaredParam,
  DeclaredInit,
  DeclaredClass,
  DeclaredField,
  DeclaredMethod,
  DeclaredCtor,
  Item,
  class_item,
  field_item,
  method_item,
  ctor_item,
  DeclaredItem,
}

abbrev pub text_of : Bor (List ℕ) → List ℕ
text_of n = n.now

abbrev pub written_of : raw_written.Written → Written
written_of shown.Int = int
written_of shown.Boolean = boolean
written_of (shown.Named at outer name) = named at (option_map text_of outer) name.now

abbrev pub declaration_key_of : raw_key.DeclaredKey → ClassKey
declaration_key_of k = record { outer = option_map text_of k.outer; name = k.name.now }

abbrev pub param_declaration_of : raw_param.DeclaredParam → DeclaredParam
param_declaration_of p = record { at = p.at; name = p.name.now; type = written_of p.written }

abbrev pub init_declaration_of : raw_init.DeclaredInit → DeclaredInit
init_declaration_of i = record { at = i.at; is_simple = i.is_simple }

abbrev pub class_declaration_of : raw_class.DeclaredClass → DeclaredClass
class_declaration_of c = record {
  at = c.at;
  key = declaration_key_of c.key;
  modifiers = c.modifiers.items;
  parent = option_map written_of c.parent;
  has_ctor = c.has_ctor;
}

abbrev pub field_declaration_of : raw_field.DeclaredField → DeclaredField
field_declaration_of f = record {
  at = f.at;
  of = declaration_key_of f.of;
  name = f.name.now;
  modifiers = f.modifiers.items;
  type = written_of f.written;
  init = option_map init_declaration_of f.init;
}

abbrev pub method_declaration_of : raw_method.DeclaredMethod → DeclaredMethod
method_declaration_of m = record {
  at = m.at;
  of = declaration_key_of m.of;
  name = m.name.now;
  modifiers = m.modifiers.items;
  result = option_map written_of m.result;
  params = map param_declaration_of m.params.items;
}

abbrev pub ctor_declaration_of : raw_ctor.DeclaredCtor → DeclaredCtor
ctor_declaration_of c = record {
  at = c.at;
  of = declaration_key_of c.of;
  modifiers = c.modifiers.items;
  params = map param_declaration_of c.params.items;
}

abbrev pub item_of : raw_item.DeclaredKind → Item
item_of (item.Class c) = class_item (class_declaration_of c)
item_of (item.Field f) = field_item (field_declaration_of f)
item_of (item.Method m) = method_item (method_declaration_of m)
item_of (item.Ctor c) = ctor_item (ctor_declaration_of c)

abbrev pub declaration_of : raw_declaration.DeclaredItem → DeclaredItem
declaration_of s = record { file = s.file; item = item_of s.item }
