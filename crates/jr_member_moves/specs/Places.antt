-- What is seen of the new program where a field or method goes to the body of another class: keys,
-- rows, and the scopes of places in the member and of all others.
use Rattle.std.specs.Prelude.{Bool, true, false, not, List, [], ◌∷◌, map, filter, Some, if◌then◌else◌}
use Rattle.jr_text.specs.declared.spans.Span.{Span}
use Rattle.jr_ast.specs.declared.operators.ModWord.{ModWord}
use Rattle.jr_ast.specs.Tree as tree
use Rattle.jr_table.specs.Keys.{ClassKey, FieldKey, MethodKey, Ty, class}
use Rattle.jr_table.specs.Decls.{MemberKey, field, method, LocalKey}
use Rattle.jr_table.specs.SameDecls.{same_member, same_decl}
use Rattle.jr_table.specs.Rows.{Row}
use Rattle.jr_table.specs.Scope.{ScopeLocal}
use Rattle.jr_table.specs.Context.{Context, scope_of}
use Rattle.jr_members.specs.WrittenMembers.{decl_of_member}
use Rattle.jr_images.specs.Regions.{Images, Seen, Region, image_of_member, itself}
use Rattle.jr_local.specs.Scopes.{HasKeptClass, plain_region}
use Rattle.jr_member_parts.specs.ClassRows.{is_in_body, put_behind}
use Rattle.jr_member_parts.specs.InTheWay.{in_class}

-- ---- keys

module _ (moved : MemberKey) (to : ClassKey) where
  abbrev pub field_moved : FieldKey → FieldKey
  field_moved k =
      if same_member (field k) moved then record { class = to; name = k.name } else k

  abbrev pub method_moved : MethodKey → MethodKey
  method_moved k = if same_member (method k) moved
      then record { class = to; name = k.name; params = k.params } else k

-- ---- rows

-- a member's row in the class, without some of its modifiers
abbrev pub row_in_class : (drops : ModWord → Bool) → ClassKey → MemberKey → Row → Row
row_in_class drops to moved r = record {
  decl = decl_of_member (in_class to moved);
  modifiers = filter (λ w. not (drops w)) r.modifiers;
  type = r.type;
  parent = r.parent;
  has_init = r.has_init;
}

-- the rows of the new program, where this row of the member was
abbrev pub rows_with : (drops : ModWord → Bool) → MemberKey → ClassKey → Row → List Row → List Row
rows_with drops moved to r rows = put_behind (is_in_body to) (row_in_class drops to moved r)
    (filter (λ (x : Row). not (same_decl x.decl (decl_of_member moved))) rows)

-- ---- images and places

abbrev pub moved_images : MemberKey → ClassKey → List Row → Images
moved_images moved to new = record {
  class_to = λ k. k;
  field_to = field_moved moved to;
  method_to = method_moved moved to;
  ctor_to = λ k. k;
  name_to = λ d old. old;
  rows = new;
}

abbrev pub local_moved : Images → LocalKey → LocalKey
local_moved m l = record { member = image_of_member m l.member; number = l.number }

abbrev pub locals_moved : Images → List ScopeLocal → List ScopeLocal
locals_moved m ls =
    map (λ (l : ScopeLocal). record { name = l.name; key = local_moved m l.key }) ls

-- what is seen where a place of the old program stands in this class
abbrev pub seen_in : List Row → Images → (class_at : Context → ClassKey) → Seen
seen_in rows m class_at = record {
  images = m;
  scope = λ c. record {
    class = class_at c;
    is_static = c.is_static;
    locals = locals_moved m (scope_of c).locals;
  };
  local_to = λ c k. Some (local_moved m k);
  HasClass = λ c k b. HasKeptClass rows (λ l. Some (local_moved m l)) c k b;
}

-- `this`, in parentheses or not
abbrev pub is_this : tree.Exp Span → Bool
is_this (tree.this m) = true
is_this (tree.paren m e) = is_this e
is_this _ = false

module _ (rows : List Row) (m : Images) where
  -- where nothing moves
  abbrev pub around : Region Span
  around = plain_region (seen_in rows m (λ c. (scope_of c).class))

  -- in what moves: the class is another, and so is the type of `this` (JLS 15.8.3)
  module _ (to : ClassKey) where
    abbrev pub type_there : tree.Exp Span → Ty → Ty
    type_there e old = if is_this e then class to else old

    abbrev pub types_there : tree.Exps Span → List Ty → List Ty
    types_there tree.end us = us
    types_there (tree.more e es) [] = []
    types_there (tree.more e es) (u ∷ us) = type_there e u ∷ types_there es us

    abbrev pub within : Region Span
    within = record {
      seen = seen_in rows m (λ c. to);
      type_now = λ c e t. type_there e t;
      types_now = λ c es ts. types_there es ts;
      receiver = itself;
    }
