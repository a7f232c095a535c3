-- What is known of a member's nodes from binding, where each node has its spot for a mark.
use Rattle.std.specs.Prelude.{
  ℕ,
  ◌-◌,
  Bool,
  true,
  false,
  not,
  List,
  [],
  ◌∷◌,
  ◌++◌,
  Option,
  Some,
  None,
  slice_get,
  unwrap_or,
}
use Rattle.jr_ast.specs.Tree as tree
use Rattle.jr_table.specs.Keys.{Ty}
use Rattle.jr_table.specs.Decls.{MemberKey, Decl}
use Rattle.jr_table.specs.Rows.{Row}
use Rattle.jr_table.specs.Entries.{entries_of, kind_of}
use Rattle.jr_table.specs.Calls.{assignable}
use Rattle.jr_code.specs.RunKeys.{RunKeys, Place}
use Rattle.jr_cover.specs.Facts.{Called, Created}
use Rattle.jr_cover.specs.Sites.{Known}
use Rattle.jr_cover.specs.Spots.{Spot}
use Rattle.jr_expr_sites.specs.Meanings.{Meaning, local, field, class, nothing}
use Rattle.jr_expr_sites.specs.Meanings as meaning
use Rattle.jr_expr_sites.specs.Meanings.{meaning_of, variable_of}

-- The table's rows, and what binding knows of a member that begins at a byte of its file: what the
-- reference at a byte of the member means, and the type of the expression at a path from it.
pub record Given : Type 0 where
  pub rows : List Row
  pub member : MemberKey
  pub start : ℕ
  pub decls : ℕ → Option Decl
  pub types : List ℕ → Option Ty
  -- by the local's number: is it never null? One that has no place here may be
  pub never_null : List Bool

-- What resolved code needs beside it: of these a site depends on the numbers alone.
pub record Others : Type 0 where
  pub called : Spot → Option (Called RunKeys)
  pub created : Spot → Option (Created RunKeys)
  pub class : Spot → Option RunKeys.class
  pub number : Spot → ℕ

abbrev pub place : Given → ℕ → Place
place g at = record { member = g.member; at = at }

-- what the reference that begins at a byte of the file means
abbrev pub meaning_at : Given → ℕ → Meaning
meaning_at g at = meaning_of (g.decls (at - g.start))

-- May a cast fail? What has no type is assignable to nothing.
abbrev pub is_checked : List Row → (from to : Option Ty) → Bool
is_checked rows None to = true
is_checked rows (Some t) None = true
is_checked rows (Some t) (Some u) =
    not (assignable (entries_of rows) (kind_of rows t) (kind_of rows u))

abbrev pub is_kept : List Bool → Meaning → Bool
is_kept flags (local n) = unwrap_or (slice_get flags n) false
is_kept flags (field k) = false
is_kept flags class = false
is_kept flags nothing = false

-- `this`, a created object, a string, a class literal, a local that is never null, and these in
-- parentheses
abbrev pub is_never_null : Given → tree.Exp Spot → Bool
is_never_null g (tree.number a n) = false
is_never_null g (tree.truth a b) = false
is_never_null g (tree.null a) = false
is_never_null g (tree.string a s) = true
is_never_null g (tree.name a w) = is_kept g.never_null (meaning_at g w.mark.first)
is_never_null g (tree.field a e w) = false
is_never_null g (tree.super_field a w) = false
is_never_null g (tree.this a) = true
is_never_null g (tree.class_literal a t) = true
is_never_null g (tree.call a t w es) = false
is_never_null g (tree.super_call a w es) = false
is_never_null g (tree.create a t es) = true
is_never_null g (tree.paren a e) = is_never_null g e
is_never_null g (tree.cast a t e) = false
is_never_null g (tree.unary a op e) = false
is_never_null g (tree.bump a op t) = false
is_never_null g (tree.binary a op l r) = false
is_never_null g (tree.assign a t e) = false
is_never_null g (tree.compound a op t e) = false

abbrev pub known_of : Given → Others → Known RunKeys Spot
known_of g o = record {
  facts = record {
    first = λ s. place g s.first;
    last = λ s. place g s.last;
    variable = λ s. variable_of g.rows (meaning_at g s.first);
    called = o.called;
    created = o.created;
    class = o.class;
    is_checked = λ s. is_checked g.rows (g.types (s.path ++ 1 ∷ [])) (g.types s.path);
    number = o.number;
  };
  is_class = λ s. meaning.is_class (meaning_at g s.first);
  never_null = λ e. is_never_null g e;
}
