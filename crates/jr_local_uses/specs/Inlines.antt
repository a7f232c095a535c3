-- What inline local finds, or the first of its own refusals that applies.
use Rattle.std.specs.Prelude.{ℕ, Bool, true, false, List, Option, Some, None, slice_get, codes}
use Rattle.jr_text.specs.declared.spans.Span.{Span}
use Rattle.jr_grammar.specs.Layout.{itself}
use Rattle.jr_table.specs.Decls.{LocalKey}
use Rattle.jr_names.specs.Refusals.{Refusal, bad_target, conditional, has_return, assigned}
use Rattle.jr_bind.specs.Programs.{Program}
use Rattle.jr_pieces.specs.Returns.{returns_in_list}
use Rattle.jr_local_search.specs.Namings.{Naming}
use Rattle.jr_local_search.specs.Places.{
  InlinePlace,
  used_otherwise,
  read_barred,
  read_behind,
  assigned_at,
  let_go,
  IsInlinePlace,
}
use Rattle.jr_local.specs.Crossing.{DoesReadAlone}
use Rattle.jr_local.specs.Inlining.{Declared, IsLetGo, RefusesInline}
use Rattle.jr_local_asked.specs.Asking.{AskedLocal, HasAsked, asked_by}
use Rattle.jr_local_asked.specs.Declaring.{IsThere}
use Rattle.jr_local_uses.specs.Heads.{Head, declaration_head}
use Rattle.jr_local_uses.specs.LocalNamings.{declared_by, AreNamings}

-- refused, or the local and where it is named
pub data Inlined : Type 0 where
  refused : Refusal → Inlined
  found : AskedLocal → List Naming → Inlined

module _ (p : Program Span) (file at : ℕ) where
  pub record IsFound (x : AskedLocal) (ys : List Naming) : Type 0 where
    pub has : HasAsked p file at x
    pub free : IsLetGo p file at (asked_by p file at has)
    pub namings : AreNamings (asked_by p file at has).declared ys

  abbrev pub Inlines : Inlined → Type 0
  Inlines (refused r) = RefusesInline p file at r
  Inlines (found x ys) = IsFound x ys

-- ---- of a local and its names

-- what is answered of a place
abbrev pub refusal_at : (file at : ℕ) → LocalKey → InlinePlace → Option Refusal
refusal_at file at k used_otherwise =
    Some (bad_target (record { file = file; at = at }) (codes "OneUse"))
refusal_at file at k (read_barred byte) =
    Some (conditional (record { file = file; at = byte }))
refusal_at file at k (read_behind s) =
    Some (has_return (record { file = file; at = s.from }))
refusal_at file at k (assigned_at byte) =
    Some (assigned k (record { file = file; at = byte }))
refusal_at file at k let_go = None

abbrev pub answer : AskedLocal → List Naming → Option Refusal → Inlined
answer x ys None = found x ys
answer x ys (Some r) = refused r

-- where a local is named, and what stands against inline local there
pub record Uses : Type 0 where
  pub namings : List Naming
  pub place : InlinePlace

abbrev pub of_uses : (file at : ℕ) → AskedLocal → Uses → Inlined
of_uses file at x u = answer x u.namings (refusal_at file at x.key u.place)

-- what is told of the initializer that stands in a body, and of the names behind it
abbrev pub TellsReads : {p : Program Span} → {file : ℕ} → {k : LocalKey} → Declared p file k
    → Bool → Type 0
TellsReads {p} {file} {k} d true = DoesReadAlone p file d.body d.init
TellsReads {p} {file} {k} d false = DoesReadAlone p file d.body d.init → ⊥

abbrev pub IsPlacedAt : (is_plain : Bool) → List Naming → InlinePlace → Option Head → Type 0
IsPlacedAt plain ys r None = Unit {0}
IsPlacedAt plain ys r (Some h) = (base : ℕ)
    → IsInlinePlace plain (slice_get (returns_in_list itself base h.rest) 0) ys r

abbrev pub IsPlaced : (is_plain : Bool) → AskedLocal → List Naming → InlinePlace → Type 0
IsPlaced plain x ys r = IsPlacedAt plain ys r (declaration_head x.declared.list)

module _ (p : Program Span) (x : AskedLocal) where
  abbrev pub StandsThere : Type 0
  StandsThere = (file : ℕ) × IsThere p file x.key x.declared

  abbrev pub TellsInit : Bool → Type 0
  TellsInit q = (file : ℕ) (h : IsThere p file x.key x.declared) → TellsReads (declared_by h) q

  pub record AreUses (u : Uses) : Type 0 where
    pub is_plain : Bool
    pub tells : TellsInit is_plain
    pub are : (file : ℕ) (h : IsThere p file x.key x.declared)
        → AreNamings (declared_by h) u.namings
    pub placed : IsPlaced is_plain x u.namings u.place
