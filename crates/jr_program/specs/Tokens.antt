-- What stands at a place of a file, by its tokens.
use Rattle.std.specs.Prelude.{◌≡◌, ◌≤◌, ℕ, List, IsTrue, map, filter, Bool, true, false, slice_get, Some}
use Rattle.std.specs.List.Sorted.{IsNonDecreasingBy}
use Rattle.jr_text.specs.Spans.{part_of}
use Rattle.jr_lex.specs.declared.items.Item.{Item}
use Rattle.jr_lex.specs.declared.items.ItemKind.{ItemKind}
use Rattle.jr_lex.specs.declared.items.ItemKind.TheVariants as item
use Rattle.jr_lex.specs.declared.items.TokenKind.{TokenKind}
use Rattle.jr_lex.specs.declared.items.TokenKind.TheVariants as token
use Rattle.jr_lex.specs.declared.items.Keyword.{Keyword}
use Rattle.jr_lex.specs.declared.items.Keyword.TheVariants as keyword
use Rattle.jr_program_laws.specs.FileParts.{HasTokenAt}

-- the bytes of the token that begins there: of a reference its name, or `new`, or `super`
pub record IsTokenText (text : List ℕ) (items : List Item) (at : ℕ) (name : List ℕ) : Type 0 where
  pub number : ℕ
  pub token : Item
  pub kind : TokenKind
  pub stands : slice_get items number ≡ Some token
  pub is : token.kind ≡ item.Token kind
  pub place : token.span.from ≡ at
  pub bytes : name ≡ part_of text token.span

-- ---- exact: the places of the words `super`

abbrev pub is_super_word : Keyword → Bool
is_super_word keyword.Super = true
is_super_word k = false

abbrev pub is_super_token : TokenKind → Bool
is_super_token (token.Keyword k) = is_super_word k
is_super_token token.Word = false
is_super_token (token.Int n) = false
is_super_token token.Text = false
is_super_token (token.Mark s) = false

abbrev pub is_super_kind : ItemKind → Bool
is_super_kind (item.Token t) = is_super_token t
is_super_kind item.Blank = false
is_super_kind item.Comment = false

abbrev pub is_super : Item → Bool
is_super i = is_super_kind i.kind

abbrev pub super_places : List Item → List ℕ
super_places items = map (λ (i : Item). i.span.from) (filter is_super items)

-- ---- the first word `super` from a byte on

-- it is one, and begins at the byte or behind it
abbrev pub IsWordFrom : Item → (from : ℕ) → Type 0
IsWordFrom i from = IsTrue (is_super i) × (from ≤ i.span.from)

-- one of the words begins there
abbrev pub BeginsSuper : List Item → (at : ℕ) → Type 0
BeginsSuper items at = HasTokenAt items (token.Keyword keyword.Super) at

-- the first of those that begin at the byte or behind it
pub record IsSuperFrom (items : List Item) (from at : ℕ) : Type 0 where
  pub there : BeginsSuper items at
  pub behind : from ≤ at
  pub first : (other : ℕ) → BeginsSuper items other → from ≤ other → at ≤ other

-- ---- what is kept of a text's items

pub record AreKept (items : List Item) (supers : List ℕ) : Type 0 where
  pub places : supers ≡ super_places items
  pub rising : IsNonDecreasingBy (λ (i : Item). i.span.from) items
