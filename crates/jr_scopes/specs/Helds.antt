-- Locals and parameters in scope, as a walk holds them: with the type by number.
use Rattle.std.specs.Prelude.{
  ℕ,
  List,
  [],
  ◌∷◌,
  Option,
  Some,
  None,
  option_map,
  Bool,
  ◌==◌,
  if◌then◌else◌,
}
use Rattle.std.specs.Str.{bytes_eq}
use Rattle.jr_table.specs.declared.entries.Kind.{Kind}
use Rattle.jr_table.specs.Keys.{int, boolean}
use Rattle.jr_table.specs.Decls.{MemberKey, LocalKey}
use Rattle.jr_table.specs.TypeView.{ty_of}
use Rattle.jr_table.specs.Context.{LocalType, known, written, Local}
use Rattle.jr_scopes.specs.declared.helds.Held as raw
use Rattle.jr_scopes.specs.declared.helds.HeldType as raw_type
use Rattle.jr_scopes.specs.declared.helds.HeldType.TheVariants as type

pub record Held : Type 0 where
  pub name : List ℕ
  pub number : ℕ
  pub is_final : Bool
  pub type : LocalType
  pub has_init : Bool
  pub kind : Option Kind

abbrev pub type_of : raw_type.HeldType → LocalType
type_of type.Int = known int
type_of type.Boolean = known boolean
type_of (type.Known t) = known (ty_of t.now)
type_of (type.Named outer name) = written (option_map (λ n. n.now) outer) name.now

abbrev pub held_of : raw.Held → Held
held_of h = record {
  name = h.name.now;
  number = h.number;
  is_final = h.is_final;
  type = type_of h.ty;
  has_init = h.has_init;
  kind = h.kind;
}

abbrev pub key_of : MemberKey → ℕ → LocalKey
key_of k number = record { member = k; number = number }

-- the local of a member's context
abbrev pub local_of : MemberKey → Held → Local
local_of k h = record {
  name = h.name;
  key = key_of k h.number;
  is_final = h.is_final;
  type = h.type;
  has_init = h.has_init;
}

-- the later of two
abbrev pub or_later : {X : Type 0} → Option X → Option X → Option X
or_later (Some x) first = Some x
or_later None first = first

-- the last that passes
abbrev pub last_of : {X : Type 0} → (Held → Option X) → List Held → Option X
last_of f [] = None
last_of f (h ∷ hs) = or_later (last_of f hs) (f h)

abbrev pub number_if_named : List ℕ → Held → Option ℕ
number_if_named name h = if bytes_eq h.name name then Some h.number else None

-- the number of the last that has the name
abbrev pub last_number : List ℕ → List Held → Option ℕ
last_number name hs = last_of (number_if_named name) hs

abbrev pub if_numbered : ℕ → Held → Option Held
if_numbered number h = if h.number == number then Some h else None

-- the last that has the number
abbrev pub numbered : ℕ → List Held → Option Held
numbered number hs = last_of (if_numbered number) hs
