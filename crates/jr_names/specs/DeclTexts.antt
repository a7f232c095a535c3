-- How declarations are written.
use Rattle.std.specs.Prelude.{ℕ, List, [], ◌++◌, map, Option, Some, None, codes, decimal}
use Rattle.std.specs.List.{join_with_byte}
use Rattle.jr_table.specs.Keys.{ClassKey, Ty, int, boolean, void, null, class, FieldKey, MethodKey}
use Rattle.jr_table.specs.Keys.{CtorKey}
use Rattle.jr_table.specs.Decls.{MemberKey, head, field, method, constructor, LocalKey, Decl}
use Rattle.jr_table.specs.Decls.{class_decl, field_decl, method_decl, constructor_decl, local_decl}

-- the class that a class is a member of, and a dot
abbrev pub outer_text : Option (List ℕ) → List ℕ
outer_text None = []
outer_text (Some outer) = outer ++ codes "."

-- `K`, and `O.K` where K is a member of O
abbrev pub class_text : ClassKey → List ℕ
class_text key = outer_text key.outer ++ key.name

abbrev pub ty_text : Ty → List ℕ
ty_text int = codes "int"
ty_text boolean = codes "boolean"
ty_text void = codes "void"
ty_text null = codes "null"
ty_text (class key) = class_text key

-- the types with a comma between each two
abbrev pub types_text : List Ty → List ℕ
types_text tys = join_with_byte 44 (map ty_text tys)

-- `K.x`
abbrev pub field_text : FieldKey → List ℕ
field_text key = class_text key.class ++ codes "." ++ key.name

-- `K.m(int,B)`
abbrev pub method_text : MethodKey → List ℕ
method_text key = class_text key.class ++ codes "." ++ key.name ++ codes "("
    ++ types_text key.params ++ codes ")"

-- `K.new(int)`
abbrev pub constructor_text : CtorKey → List ℕ
constructor_text key = class_text key.class ++ codes ".new(" ++ types_text key.params ++ codes ")"

-- the head of a class is written as the class
abbrev pub member_text : MemberKey → List ℕ
member_text (head key) = class_text key
member_text (field key) = field_text key
member_text (method key) = method_text key
member_text (constructor key) = constructor_text key

-- the member, `#` and the local's number
abbrev pub local_text : LocalKey → List ℕ
local_text key = member_text key.member ++ codes "#" ++ decimal key.number

abbrev pub decl_text : Decl → List ℕ
decl_text (class_decl key) = class_text key
decl_text (field_decl key) = field_text key
decl_text (method_decl key) = method_text key
decl_text (constructor_decl key) = constructor_text key
decl_text (local_decl key) = local_text key
