-- What is seen of the new program where a local comes or goes: rows and keys stay, and locals of
-- the member have other numbers from one on.
use Rattle.std.specs.Prelude.{
  ◌≡◌,
  ◌≢◌,
  ◌⊎◌,
  ℕ,
  suc,
  ◌<◌,
  ◌-◌,
  nat_lt,
  Bool,
  true,
  false,
  not,
  ◌&&◌,
  List,
  [],
  ◌∷◌,
  ◌++◌,
  filter,
  Option,
  Some,
  None,
  slice_get,
  if◌then◌else◌,
}
use Rattle.jr_text.specs.declared.spans.Span.{Span}
use Rattle.jr_ast.specs.Tree as tree
use Rattle.jr_table.specs.Keys.{ClassKey, Ty, class}
use Rattle.jr_table.specs.Decls.{MemberKey, LocalKey}
use Rattle.jr_table.specs.SameDecls.{same_member, same_local}
use Rattle.jr_table.specs.Rows.{Row}
use Rattle.jr_table.specs.Scope.{Scope, ScopeLocal, last_named}
use Rattle.jr_table.specs.Context.{Context, Local, IsLocalType, scope_of}
use Rattle.jr_images.specs.Regions.{Images, Seen, Region, itself}

-- ---- keys and rows

abbrev pub same_images : List Row → Images
same_images rows = record {
  class_to = λ k. k;
  field_to = λ k. k;
  method_to = λ k. k;
  ctor_to = λ k. k;
  name_to = λ d old. old;
  rows = rows;
}

-- it is a local of the member, with this number or a higher one
abbrev pub is_from : MemberKey → (number : ℕ) → LocalKey → Bool
is_from k n l = same_member l.member k && not (nat_lt l.number n)

abbrev pub one_more : LocalKey → LocalKey
one_more l = record { member = l.member; number = suc l.number }

abbrev pub one_less : LocalKey → LocalKey
one_less l = record { member = l.member; number = l.number - 1 }

-- the images where a local of this number comes into the member
abbrev pub made_room : MemberKey → ℕ → LocalKey → LocalKey
made_room k n l = if is_from k n l then one_more l else l

-- the images where a local goes, which has none
abbrev pub closed_up : LocalKey → LocalKey → Option LocalKey
closed_up t l =
    if same_local l t then None else Some (if is_from t.member t.number l then one_less l else l)

-- ---- places

-- the last local in scope whose image has the key
pub record IsLastTo (to : LocalKey → Option LocalKey) (c : Context) (k : LocalKey) (l : Local)
    : Type 0 where
  pub number : ℕ
  pub stands : slice_get c.locals number ≡ Some l
  pub is : to l.key ≡ Some k
  pub last : (i : ℕ) (other : Local) → number < i → slice_get c.locals i ≡ Some other
      → to other.key ≢ Some k

-- a kept local has its type
abbrev pub HasKeptClass : List Row → (to : LocalKey → Option LocalKey) → Context → LocalKey
    → ClassKey → Type 0
HasKeptClass rows to c k b =
    (l : Local) × IsLastTo to c k l × IsLocalType rows (scope_of c) l.type (class b)

-- those that have images, with these
abbrev pub put_kept : List ℕ → Option LocalKey → List ScopeLocal → List ScopeLocal
put_kept name None rest = rest
put_kept name (Some k) rest = (record { name = name; key = k }) ∷ rest

abbrev pub kept_locals : (LocalKey → Option LocalKey) → List ScopeLocal → List ScopeLocal
kept_locals to [] = []
kept_locals to (l ∷ ls) = put_kept l.name (to l.key) (kept_locals to ls)

-- The same, and one that is made: it stands in front of the first whose number is its own or a
-- higher one, as scopes have locals in the order in which they are declared.
abbrev pub with_made_local : (LocalKey → Option LocalKey) → (made : ScopeLocal) → List ScopeLocal
    → List ScopeLocal
with_made_local to m [] = m ∷ []
with_made_local to m (l ∷ ls) = if is_from m.key.member m.key.number l.key
    then m ∷ kept_locals to (l ∷ ls) else put_kept l.name (to l.key) (with_made_local to m ls)

abbrev pub scope_with : Context → List ScopeLocal → Scope
scope_with c ls = record {
  class = (scope_of c).class;
  is_static = c.is_static;
  locals = ls;
}

-- Locals have these images, and these of them are in scope with what else is there; of what is made
-- the class is told.
abbrev pub seen_by : List Row → (to : LocalKey → Option LocalKey)
    → (locals_to : List ScopeLocal → List ScopeLocal)
    → (HasMadeClass : LocalKey → ClassKey → Type 0) → Seen
seen_by rows to locals_to HasMadeClass = record {
  images = same_images rows;
  scope = λ c. scope_with c (locals_to (scope_of c).locals);
  local_to = λ c k. to k;
  HasClass = λ c k b. HasKeptClass rows to c k b ⊎ HasMadeClass k b;
}

-- expressions keep their types
abbrev pub plain_region : Seen → Region Span
plain_region seen = record {
  seen = seen;
  type_now = λ c e t. t;
  types_now = λ c es ts. ts;
  receiver = itself;
}

-- ---- where a local is made, of this key, name and type

module _ (rows : List Row) (made : LocalKey) (name : List ℕ) (type : Ty) where
  abbrev pub made_local : ScopeLocal
  made_local = record { name = name; key = made }

  abbrev pub IsOfMadeClass : LocalKey → ClassKey → Type 0
  IsOfMadeClass k b = (k ≡ made) × (type ≡ class b)

  abbrev pub room : LocalKey → Option LocalKey
  room l = Some (made_room made.member made.number l)

  -- where it isn't in scope
  abbrev pub around_made : Region Span
  around_made = plain_region (seen_by rows room (kept_locals room) (λ k b. ⊥))

  -- where it is in scope: behind its declaration, in its list and within that
  abbrev pub with_made : Region Span
  with_made = plain_region (seen_by rows room (with_made_local room made_local) IsOfMadeClass)

  -- in its initializer, where it is in scope with those that are declared in front of it (JLS 6.3)
  abbrev pub earlier : LocalKey → Option LocalKey
  earlier l = if is_from made.member made.number l then None else Some l

  abbrev pub in_made : Region Span
  in_made = plain_region (seen_by rows earlier (λ ls. kept_locals earlier ls ++ made_local ∷ [])
      IsOfMadeClass)

-- ---- where a local goes, whose initializer has a type

-- the local that the name finds is t
abbrev pub is_local : LocalKey → Option LocalKey → Bool
is_local t None = false
is_local t (Some l) = same_local l t

-- The expression is a read of t, in parentheses or not; an assignment has the type of its target.
abbrev pub reads_it : LocalKey → Context → tree.Exp Span → Bool
reads_it t c (tree.name m w) = is_local t (last_named w.text (scope_of c).locals)
reads_it t c (tree.paren m e) = reads_it t c e
reads_it t c (tree.assign m e f) = reads_it t c e
reads_it t c _ = false

module _ (rows : List Row) (t : LocalKey) (type : Ty) where
  -- where t was read there is now its initializer, with its type, which may be a subclass
  abbrev pub type_then : Context → tree.Exp Span → Ty → Ty
  type_then c e old = if reads_it t c e then type else old

  abbrev pub types_then : Context → tree.Exps Span → List Ty → List Ty
  types_then c tree.end us = us
  types_then c (tree.more e es) [] = []
  types_then c (tree.more e es) (u ∷ us) = type_then c e u ∷ types_then c es us

  abbrev pub without_seen : Seen
  without_seen = seen_by rows (closed_up t) (kept_locals (closed_up t)) (λ k b. ⊥)

  abbrev pub without : Region Span
  without = record {
    seen = without_seen;
    type_now = type_then;
    types_now = types_then;
    receiver = itself;
  }

  -- those that were declared behind t, as they are seen from a read of it
  abbrev pub later_there : Context → List ScopeLocal
  later_there c = filter (λ (l : ScopeLocal). is_from t.member t.number l.key)
      (without_seen.scope c).locals

  -- What the initializer names, seen from a read of t, where the copy stands. In the initializer
  -- none is in scope but those in front of t, and t; those behind t are as they are at the read.
  abbrev pub in_copy : (read : Context) → Region Span
  in_copy read = plain_region (seen_by rows (earlier rows t [] type)
      (λ ls. kept_locals (earlier rows t [] type) ls ++ later_there read)
      (λ k b. (is_from t.member t.number k ≡ true) × without_seen.HasClass read k b))
