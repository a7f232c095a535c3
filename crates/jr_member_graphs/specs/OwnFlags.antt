-- What is known of a member with the flags of its own locals: by them a value is taken for never
-- null exactly where the rules say so.
use Rattle.std.specs.Prelude.{◌↔◌, ℕ, zero, Bool, IsTrue, List, [], Option, None}
use Rattle.jr_text.specs.declared.spans.Span.{Span}
use Rattle.jr_ast.specs.Tree as tree
use Rattle.jr_ast.specs.MemberTree as declared
use Rattle.jr_table.specs.Keys.{Ty}
use Rattle.jr_table.specs.Decls.{MemberKey, Decl}
use Rattle.jr_table.specs.Rows.{Row}
use Rattle.jr_cover.specs.Spots.{Spot, spot_member}
use Rattle.jr_never_null.specs.Flags.{flags_behind}
use Rattle.jr_expr_sites.specs.KnownFacts.{Given, Others, known_of, is_never_null, meaning_at}
use Rattle.jr_expr_sites.specs.Routes.{begins_by, ends_by}
use Rattle.jr_cfg.specs.MemberRoutes.{known}
use Rattle.jr_member_graphs.specs.MemberLocals.{inits, NeverNullIn}
use Rattle.jr_member_graphs.specs.FlagRows.{is_among}
use Rattle.jr_member_graphs.specs.Notes.{member_locals}

-- ---- what is asked of flags

module _ {A : Type 0} (tells : A → ℕ → Span) where
  -- the member where marks are spots; its parent begins at `base`
  abbrev pub spotted : (base : ℕ) → declared.Member A → declared.Member Spot
  spotted base m = spot_member (begins_by tells) (ends_by tells) m base []

  -- A value is taken for never null, and so isn't tested, exactly where the rules say so. o: what
  -- else resolved code needs.
  abbrev pub TellsNeverNull : (base : ℕ) → Given → declared.Member A → Type 0
  TellsNeverNull base g m = (o : Others) (e : tree.Exp Spot)
      → IsTrue (is_never_null g e) ↔ NeverNullIn (known_of g o) (spotted base m) e

-- ---- exact: the flags

-- Flags depend on none of what only resolved code needs.
abbrev pub no_others : Others
no_others = record {
  called = λ s. None;
  created = λ s. None;
  class = λ s. None;
  number = λ s. zero;
}

module _ {A : Type 0} (tells : A → ℕ → Span) where
  -- one a local, in the order of their numbers, by what is known but for the flags
  abbrev pub flags_of : Given → (base : ℕ) → declared.Member A → List Bool
  flags_of g base m = flags_behind (known_of g no_others).facts
      (is_among (member_locals tells (meaning_at g) base m)) [] (inits (spotted tells base m))

  module _ (rows : List Row) (key : MemberKey) (decls : ℕ → Option Decl)
      (types : List ℕ → Option Ty) where
    -- of a member whose parent begins at `base`
    abbrev pub own_flags : (base : ℕ) → declared.Member A → List Bool
    own_flags base m = flags_of (known tells rows key decls types [] base m) base m

    -- what is known of the member, with the flags of its own locals
    abbrev pub own : (base : ℕ) → declared.Member A → Given
    own base m = known tells rows key decls types (own_flags base m) base m
