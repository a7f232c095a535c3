-- Where the word `super` of a written `super(..)` stands. Trees keep no place of it.
use Rattle.std.specs.Prelude.{◌≡◌, ℕ, ◌<◌, ◌≤◌, List, Some, None, Bool, true, false, slice_get}
use Rattle.jr_text.specs.declared.spans.Span.{Span}
use Rattle.jr_lex.specs.declared.items.Item.{Item}
use Rattle.jr_lex.specs.declared.items.ItemKind.{ItemKind}
use Rattle.jr_lex.specs.declared.items.ItemKind.TheVariants as item
use Rattle.jr_lex.specs.declared.items.TokenKind.TheVariants as token
use Rattle.jr_lex.specs.declared.items.Keyword.TheVariants as keyword
use Rattle.jr_ast.specs.MemberTree as syntax
use Rattle.jr_table.specs.Errors.{Part, class_part, member_part}

abbrev pub super_token : ItemKind
super_token = item.Token (token.Keyword keyword.Super)

-- a token `super` begins there
pub record BeginsSuper (items : List Item) (at : ℕ) : Type 0 where
  pub number : ℕ
  pub token : Item
  pub stands : slice_get items number ≡ Some token
  pub is : token.kind ≡ super_token
  pub place : token.span.from ≡ at

-- the first of a span: in a constructor with a written `super(..)` it is that one's (JLS 8.8.7.1)
pub record IsSuperAt (items : List Item) (span : Span) (at : ℕ) : Type 0 where
  pub there : BeginsSuper items at
  pub within : (span.from ≤ at) × (at < span.to)
  pub first : (other : ℕ) → BeginsSuper items other → span.from ≤ other → at ≤ other

-- whether a member is a constructor with a written `super(..)`
abbrev pub writes_super : {A : Type 0} → Part A → Bool
writes_super (member_part (syntax.constructor m mods w ps (Some args) body)) = true
writes_super (member_part (syntax.constructor m mods w ps None body)) = false
writes_super (member_part (syntax.field m mods t w init)) = false
writes_super (member_part (syntax.method m mods t w ps body)) = false
writes_super (member_part (syntax.inner m of)) = false
writes_super (class_part of) = false
