-- What the members of a file have: units whose marks are spans, and the places that no mark has.
use Rattle.std.specs.Prelude.{◌≡◌, ℕ, ◌<◌, ◌≤◌, List, slice_get, Option, Some, None}
use Rattle.jr_text.specs.declared.spans.Span.{Span}
use Rattle.jr_lex.specs.declared.items.Item.{Item}
use Rattle.jr_lex.specs.declared.items.ItemKind.TheVariants as item
use Rattle.jr_lex.specs.declared.items.TokenKind.{TokenKind}
use Rattle.jr_lex.specs.declared.items.TokenKind.TheVariants as token
use Rattle.jr_lex.specs.declared.items.Keyword.TheVariants as keyword
use Rattle.jr_ast.specs.Tree as tree
use Rattle.jr_ast.specs.MemberTree as syntax
use Rattle.jr_table.specs.Decls.{MemberKey, Decl}
use Rattle.jr_table.specs.Rows.{Row}
use Rattle.jr_table.specs.DeclaredItems.{declarations_of}
use Rattle.jr_table.specs.Errors.{Part, class_part, member_part, Breaks, Binds, InClasses}
use Rattle.jr_table.specs.declared.rules.Rule.{Rule}

-- where a node with its span as its mark begins, wherever its parent does
abbrev pub begins : Span → ℕ → ℕ
begins m base = m.from

-- ---- the places that no mark has

-- a token of the kind stands there
pub record HasTokenAt (items : List Item) (kind : TokenKind) (at : ℕ) : Type 0 where
  pub number : ℕ
  pub token : Item
  pub stands : slice_get items number ≡ Some token
  pub is : token.kind ≡ item.Token kind
  pub place : token.span.from ≡ at

-- some token does
abbrev pub BeginsToken : List Item → (at : ℕ) → Type 0
BeginsToken items at = (kind : TokenKind) × HasTokenAt items kind at

-- the first word `super` of a span: in a constructor with a written `super(..)` it is that one's
-- (JLS 8.8.7.1)
pub record IsSuperAt (items : List Item) (span : Span) (at : ℕ) : Type 0 where
  pub there : HasTokenAt items (token.Keyword keyword.Super) at
  pub within : (span.from ≤ at) × (at < span.to)
  pub first : (other : ℕ) → HasTokenAt items (token.Keyword keyword.Super) other
      → span.from ≤ other → at ≤ other

-- where a written `super(..)` of a part stands, it stands there
abbrev pub SuperStands : List Item → Part Span → (at : ℕ) → Type 0
SuperStands items (class_part of) at = Unit {0}
SuperStands items (member_part of) at = OfMember of
  where
    OfArgs : Span → Option (tree.Exps Span) → Type 0
    OfArgs span None = Unit {0}
    OfArgs span (Some args) = IsSuperAt items span at

    OfMember : syntax.Member Span → Type 0
    OfMember (syntax.field m mods t w init) = Unit {0}
    OfMember (syntax.method m mods t w ps body) = Unit {0}
    OfMember (syntax.constructor m mods w ps args body) = OfArgs m args
    OfMember (syntax.inner m of) = Unit {0}

-- ---- what a file's members have

module _ (rows : List Row) (items : List Item) where
  -- where a written `super(..)` stands, the property has that place
  abbrev pub WithSuper : Part Span → (ℕ → Type 0) → Type 0
  WithSuper (class_part of) P = P 0
  WithSuper (member_part of) P = OfMember of
    where
      OfArgs : Span → Option (tree.Exps Span) → Type 0
      OfArgs span None = P 0
      OfArgs span (Some args) = (at : ℕ) × IsSuperAt items span at × P at

      OfMember : syntax.Member Span → Type 0
      OfMember (syntax.field m mods t w init) = P 0
      OfMember (syntax.method m mods t w ps body) = P 0
      OfMember (syntax.constructor m mods w ps args body) = OfArgs m args
      OfMember (syntax.inner m of) = P 0

  -- a member's reference that begins there is bound to the declaration
  abbrev pub BindsAt : MemberKey → (base : ℕ) → Part Span → (at : ℕ) → Decl → Type 0
  BindsAt k base part at d =
      WithSuper part (λ super_at. Binds begins rows super_at k base part at d)

  -- a member breaks the rule there
  abbrev pub BreaksAt : MemberKey → (base : ℕ) → Part Span → (at : ℕ) → Rule → Type 0
  BreaksAt k base part at r =
      WithSuper part (λ super_at. Breaks begins rows super_at k base part at r)

-- a member of the file has the property
pub record InFile (units : List (syntax.Unit Span)) (file : ℕ)
    (P : MemberKey → (base : ℕ) → Part Span → Type 0) : Type 0 where
  pub unit : syntax.Unit Span
  pub stands : slice_get units file ≡ Some unit
  pub member : MemberKey
  pub has : InClasses begins (declarations_of begins units) P (begins unit.mark 0) unit.classes member
