-- The way of a member, where marks are spots.
use Rattle.std.specs.Prelude.{◌≡◌, ℕ, ◌+◌, suc, Bool, true, false, List, [], ◌∷◌, length, Option, Some, None}
use Rattle.jr_text.specs.declared.spans.Span.{Span}
use Rattle.jr_ast.specs.Tree as tree
use Rattle.jr_ast.specs.StatementTree as statement
use Rattle.jr_ast.specs.MemberTree as declared
use Rattle.jr_ast.specs.Marks.{member_mark}
use Rattle.jr_table.specs.Keys.{FieldKey, Ty}
use Rattle.jr_table.specs.Rows.{Row}
use Rattle.jr_table.specs.Decls as decls
use Rattle.jr_table.specs.Decls.{MemberKey, Decl}
use Rattle.jr_bind_expr.specs.Fits.{FitsExps, FitsMaybe, FitsStmts}
use Rattle.jr_cover.specs.Sites.{What}
use Rattle.jr_cover.specs.MemberTranslation.{is_static}
use Rattle.jr_cover.specs.Members as members
use Rattle.jr_cover.specs.Members.{member_way}
use Rattle.jr_cover.specs.Spots.{spot_member, spot_args, result_count, args_count}
use Rattle.jr_expr_sites.specs.KnownFacts.{Given, Others, known_of, place}
use Rattle.jr_cfg.specs.Numbering.{NumbersStmts}
use Rattle.jr_expr_sites.specs.Routes.{Route, begins_by, ends_by, exp, done, seq, nothing}
use Rattle.jr_cfg.specs.StatementRoutes.{stmts, locked}

-- a field's initializer is stored to the field whose key the member has
abbrev pub IsKeyOf : {A : Type 0} → MemberKey → FieldKey → declared.Member A → Type 0
IsKeyOf key k (declared.field m mods t w init) = key ≡ decls.field k
IsKeyOf key k (declared.method m mods t w ps body) = Unit {0}
IsKeyOf key k (declared.constructor m mods w ps args body) = Unit {0}
IsKeyOf key k (declared.inner m c) = Unit {0}

-- the key of a field is one of fields
abbrev pub HasKey : {A : Type 0} → MemberKey → declared.Member A → Type 0
HasKey key (declared.field m mods t w init) = (k : FieldKey) × (key ≡ decls.field k)
HasKey key (declared.method m mods t w ps body) = Unit {0}
HasKey key (declared.constructor m mods w ps args body) = Unit {0}
HasKey key (declared.inner m c) = Unit {0}

-- word: where the constructor's name stands
abbrev pub call_place : {A : Type 0} → Option (tree.Exps A) → (super_at word : ℕ) → ℕ
call_place None super_at word = word
call_place (Some args) super_at word = super_at

module _ {A : Type 0} (tells : A → ℕ → Span) where
  -- what is known of a member whose parent begins at `base`
  abbrev pub known : List Row → MemberKey → (decls : ℕ → Option Decl)
      → (types : List ℕ → Option Ty) → (never_null : List Bool) → (base : ℕ)
      → declared.Member A → Given
  known rows key decls types never_null base m = record {
    rows = rows;
    member = key;
    start = begins_by tells (member_mark m) base;
    decls = decls;
    types = types;
    never_null = never_null;
  }

  -- the places of a member's nodes that sites may stand at, and of those around them
  module _ (Fits : A → ℕ → Type 0) where
    abbrev pub FitsArgs : (at : ℕ) → Option (tree.Exps A) → Type 0
    FitsArgs at None = Unit {0}
    FitsArgs at (Some args) = FitsExps (begins_by tells) Fits at args

    abbrev pub FitsSites : (base : ℕ) → declared.Member A → Type 0
    FitsSites base (declared.field m mods t w init) = Fits m base
        × Fits w.mark (begins_by tells m base)
        × FitsMaybe (begins_by tells) Fits (begins_by tells m base) init
    FitsSites base (declared.method m mods t w ps body) = Fits m base
        × Fits w.mark (begins_by tells m base)
        × FitsStmts (begins_by tells) Fits (begins_by tells m base) body
    FitsSites base (declared.constructor m mods w ps args body) = Fits m base
        × Fits w.mark (begins_by tells m base) × FitsArgs (begins_by tells m base) args
        × FitsStmts (begins_by tells) Fits (begins_by tells m base) body
    FitsSites base (declared.inner m c) = Fits m base

  -- The call of a constructor of the superclass stands at the written `super`, whose place a tree
  -- doesn't keep; where none is written, at the constructor's name.
  abbrev pub called_at : (super_at base : ℕ) → declared.Member A → ℕ
  called_at super_at base (declared.constructor m mods w ps args body) =
      call_place args super_at (begins_by tells w.mark (begins_by tells m base))
  called_at super_at base (declared.field m mods t w init) = super_at
  called_at super_at base (declared.method m mods t w ps body) = super_at
  called_at super_at base (declared.inner m c) = super_at

  -- how many parts of a member are the arguments of a written `super(..)`, and how many of a
  -- method's are its result and its name
  abbrev pub arguments : Option (tree.Exps A) → ℕ
  arguments args = args_count (begins_by tells) (ends_by tells) args

  abbrev pub words : Option (tree.TypeName A) → ℕ
  words t = suc (result_count (begins_by tells) (ends_by tells) t)

  abbrev pub method_front : List (declared.Modifier A) → Option (tree.TypeName A)
      → List (declared.Param A) → ℕ
  method_front mods t ps = suc (length mods
      + result_count (begins_by tells) (ends_by tells) t) + length ps

  abbrev pub constructor_front : List (declared.Modifier A) → List (declared.Param A) → ℕ
  constructor_front mods ps = suc (length mods) + length ps

  -- locals have their numbers behind those of parameters
  abbrev pub NumbersMember : (base : ℕ) → declared.Member A → Others → Type 0
  NumbersMember base (declared.field m mods t w init) o = Unit {0}
  NumbersMember base (declared.method m mods t w ps body) o =
      NumbersStmts (begins_by tells) (ends_by tells) o.number (length ps) body
      (begins_by tells m base) [] (method_front mods t ps)
  NumbersMember base (declared.constructor m mods w ps args body) o =
      NumbersStmts (begins_by tells) (ends_by tells) o.number (length ps) body
      (begins_by tells m base) [] (constructor_front mods ps + arguments args)
  NumbersMember base (declared.inner m c) o = Unit {0}

  -- k: the field's key, of a field
  abbrev pub member : (super_at base : ℕ) → FieldKey → declared.Member A → Route
  member super_at base k m g o = member_way (known_of g o) (λ _. k)
      (λ _. place g (called_at super_at base m))
      (spot_member (begins_by tells) (ends_by tells) m base [])

  -- ---- kinds of members, by their parts: the node begins at a byte, its first part of that kind
  -- has the number `front`

  -- of an instance field the store stands behind
  abbrev pub initializer : (is_static : Bool) → (front at word : ℕ) → FieldKey → tree.Exp A → Route
  initializer true front at word k e = exp tells (front ∷ []) at e
  initializer false front at word k e =
      seq (exp tells (front ∷ []) at e) (done (What.stores k) word)

  abbrev pub field : List (declared.Modifier A) → (at word : ℕ) → FieldKey
      → Option (tree.Exp A) → Route
  field mods at word k None = nothing
  field mods at word k (Some e) =
      initializer (is_static mods) (suc (suc (length mods))) at word k e

  abbrev pub super_args : (front at : ℕ) → Option (tree.Exps A) → Route
  super_args front at args g o = members.super_way (known_of g o)
      (spot_args (begins_by tells) (ends_by tells) args at [] front)

  abbrev pub constructor : (front at called : ℕ) → Option (tree.Exps A) → statement.Stmts A → Route
  constructor front at called args body = seq (seq (super_args front at args)
      (done What.calls called)) (stmts tells [] (front + arguments args) at body)

  abbrev pub method : (is_locked : Bool) → (front at word last : ℕ) → statement.Stmts A → Route
  method true front at word last body = locked tells word last (stmts tells [] front at body)
  method false front at word last body = stmts tells [] front at body
