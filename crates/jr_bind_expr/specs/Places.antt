-- What is known at a place, as contracts see it, and what a walk rests on there.
use Rattle.std.specs.Prelude.{
  ◌≡◌,
  ℕ,
  List,
  [],
  ◌∷◌,
  map,
  Option,
  Some,
  None,
  option_map,
  false,
}
use Rattle.jr_table.specs.Keys.{Ty, class}
use Rattle.jr_table.specs.Decls.{
  MemberKey,
  head,
  field,
  method,
  constructor,
  Decl,
  class_decl,
  field_decl,
  method_decl,
  constructor_decl,
}
use Rattle.jr_table.specs.Rows.{Row}
use Rattle.jr_table.specs.Entries.{number_of, kind_of, class_of_member}
use Rattle.jr_table.specs.KeyView.{member_key_of}
use Rattle.jr_table.specs.Scope.{Scope}
use Rattle.jr_table.specs.Context.{Context}
use Rattle.jr_table.specs.Meanings.{type_of_local}
use Rattle.jr_bind_expr.specs.declared.places.Place as raw
use Rattle.jr_scopes.specs.Helds.{Held, key_of, local_of}
use Rattle.jr_scopes.specs.Tracked.{Tracked, helds_of}

abbrev pub member_of : raw.Place → MemberKey
member_of p = member_key_of p.member.now

unfoldable pub context_of : raw.Place → Context
context_of p = record {
  member = member_of p;
  is_static = p.is_static;
  locals = map (local_of (member_of p)) (helds_of p.locals);
  own = option_map (key_of (member_of p)) p.own;
}

-- what a member declares
abbrev pub decl_of : MemberKey → Decl
decl_of (head k) = class_decl k
decl_of (field k) = field_decl k
decl_of (method k) = method_decl k
decl_of (constructor k) = constructor_decl k

-- a type whose class, if it is one, has a row
abbrev pub IsRowed : List Row → Ty → Type 0
IsRowed rows (class k) = (j : ℕ) × (number_of rows (class_decl k) ≡ Some j)
IsRowed rows _ = Unit {0}

abbrev pub IsRowedIf : List Row → Option Ty → Type 0
IsRowedIf rows None = Unit {0}
IsRowedIf rows (Some t) = IsRowed rows t

-- where a type's name stands in a member, before any local is declared
abbrev pub bare : MemberKey → Scope
bare k = record { class = class_of_member k; is_static = false; locals = [] }

-- the type by number is that of what is declared
pub record IsTyped (rows : List Row) (k : MemberKey) (h : Held) : Type 0 where
  pub kind : h.kind ≡ option_map (kind_of rows) (type_of_local rows (bare k) h.type)
  pub rowed : IsRowedIf rows (type_of_local rows (bare k) h.type)

abbrev pub AreTyped : List Row → MemberKey → List Held → Type 0
AreTyped rows k [] = Unit {0}
AreTyped rows k (h ∷ hs) = IsTyped rows k h × AreTyped rows k hs

pub record Knows (rows : List Row) (p : raw.Place) : Type 0 where
  pub row : number_of rows (decl_of (member_of p)) ≡ Some p.row
  pub class : number_of rows (class_decl (class_of_member (member_of p))) ≡ Some p.class
  pub typed : AreTyped rows (member_of p) (helds_of p.locals)
  pub tracked : Tracked p.locals
