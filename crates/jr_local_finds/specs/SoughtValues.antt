-- An expression of a list of which a local can take the value: exact, and what it is.
use Rattle.std.specs.Prelude.{
  ◌≡◌,
  ◌≢◌,
  ℕ,
  ◌==◌,
  ◌&&◌,
  not,
  Bool,
  true,
  false,
  List,
  [],
  Option,
  Some,
  None,
  if◌then◌else◌,
}
use Rattle.jr_text.specs.declared.spans.Span.{Span}
use Rattle.jr_ast.specs.Tree as tree
use Rattle.jr_ast.specs.StatementTree as statement
use Rattle.jr_ast.specs.Marks.{exp_mark}
use Rattle.jr_table.specs.Keys.{Ty, int, boolean, void, null, class}
use Rattle.jr_expr_types.specs.Slots.{Slot, find_type}
use Rattle.jr_pieces.specs.Ways.{ListWay}
use Rattle.jr_pieces.specs.Finding.{list_path}
use Rattle.jr_pieces.specs.Uses.{Use, valued, assigned, changed, stated, list_use}
use Rattle.jr_piece_search.specs.SoughtStatements.{Found, IsPlace}
use Rattle.jr_bodies.specs.BodyLaws.{IsNested}

-- an expression with what is told of its place, its path from the member, and its type
pub record Value : Type 0 where
  pub found : Found
  pub path : List ℕ
  pub type : Ty

-- ---- what it is

-- A list, whose elements have numbers from `front` on, and the types that are known by paths; an
-- expression of exactly this span in it.
module _ (b : statement.Stmts Span) (front : ℕ) (types : List Slot) (s : Span) where
  -- It is used for its value, and has a type, neither `void` nor that of null; it isn't the literal
  -- that stands behind a minus alone.
  pub record Suits {f : tree.Exp Span} (way : ListWay f b) (t : Ty) : Type 0 where
    pub span : exp_mark f ≡ s
    pub used : list_use way ≡ valued
    pub typed : find_type types (list_path front way) ≡ Some t
    pub no_void : t ≢ void
    pub no_null : t ≢ null
    pub no_greatest : (m : Span) → f ≢ tree.number m 2147483648

  pub record IsValue (x : Value) : Type 0 where
    pub place : IsPlace b front [] x.path x.found
    pub suits : Suits place.way x.type

  -- where spans are nested
  abbrev pub HasNoValue : Type 0
  HasNoValue =
      IsNested b → (f : tree.Exp Span) (way : ListWay f b) (t : Ty) → Suits way t → ⊥

  abbrev pub IsSought : Option Value → Type 0
  IsSought None = HasNoValue
  IsSought (Some x) = IsValue x

-- ---- exact

abbrev pub is_valued : Use → Bool
is_valued valued = true
is_valued assigned = false
is_valued changed = false
is_valued stated = false

abbrev pub is_greatest : tree.Exp Span → Bool
is_greatest (tree.number m n) = n == 2147483648
is_greatest (tree.truth m b) = false
is_greatest (tree.null m) = false
is_greatest (tree.string m t) = false
is_greatest (tree.name m w) = false
is_greatest (tree.field m e w) = false
is_greatest (tree.super_field m w) = false
is_greatest (tree.this m) = false
is_greatest (tree.class_literal m t) = false
is_greatest (tree.call m t w es) = false
is_greatest (tree.super_call m w es) = false
is_greatest (tree.create m t es) = false
is_greatest (tree.paren m e) = false
is_greatest (tree.cast m t e) = false
is_greatest (tree.unary m o e) = false
is_greatest (tree.bump m o e) = false
is_greatest (tree.binary m o l r) = false
is_greatest (tree.assign m l r) = false
is_greatest (tree.compound m o l r) = false

abbrev pub is_taken : Found → Bool
is_taken x = is_valued x.usage && not (is_greatest x.value)

abbrev pub is_kept : Ty → Bool
is_kept int = true
is_kept boolean = true
is_kept void = false
is_kept null = false
is_kept (class k) = true

abbrev pub with_type : Found → (path : List ℕ) → Option Ty → Option Value
with_type x path None = None
with_type x path (Some t) =
    if is_kept t then Some (record { found = x; path = path; type = t }) else None

abbrev pub suited : List Slot → Found → (path : List ℕ) → Option Value
suited types x path =
    if is_taken x then with_type x path (find_type types path) else None

-- of what a search has found
abbrev pub chosen : List Slot → Option Found → (path : List ℕ) → Option Value
chosen types None path = None
chosen types (Some x) path = suited types x path
