-- Spaces between neighbours: one stands between a text that is put in and a token directly beside
-- it where the two would be read as other tokens (JLS 3.2).
use Rattle.std.specs.Prelude.{
  ℕ,
  nat_eq,
  List,
  [],
  ◌∷◌,
  ◌++◌,
  Option,
  Some,
  None,
  if◌then◌else◌,
}
use Rattle.jr_text.specs.declared.spans.Span.{Span}
use Rattle.jr_lex.specs.declared.items.Item.{Item}
use Rattle.jr_lex.specs.declared.items.ItemKind.{ItemKind}
use Rattle.jr_lex.specs.declared.items.ItemKind.TheVariants.{Token as TokenItem, Blank, Comment}
use Rattle.jr_lex.specs.declared.items.TokenKind.{TokenKind}
use Rattle.jr_lex.specs.declared.items.TokenKind.TheVariants as kind
use Rattle.jr_lex.specs.Beside.{token_beside}
use Rattle.jr_grammar.specs.Tokens.{Token, word, keyword, integer, text, symbol}

abbrev pub kind_of : Token → TokenKind
kind_of (word t) = kind.Word
kind_of (keyword k) = kind.Keyword k
kind_of (integer n) = kind.Int n
kind_of (text t) = kind.Text
kind_of (symbol s) = kind.Mark s

abbrev pub token_in : ItemKind → Option TokenKind
token_in (TokenItem k) = Some k
token_in Blank = None
token_in Comment = None

-- the token that ends, or begins, at the place
abbrev pub ending_at : ℕ → List Item → Option TokenKind
ending_at at [] = None
ending_at at (i ∷ is) = if nat_eq i.span.to at then token_in i.kind else ending_at at is

abbrev pub beginning_at : ℕ → List Item → Option TokenKind
beginning_at at [] = None
beginning_at at (i ∷ is) = if nat_eq i.span.from at then token_in i.kind else beginning_at at is

abbrev pub first_kind : List Token → Option TokenKind
first_kind [] = None
first_kind (t ∷ ts) = Some (kind_of t)

abbrev pub last_kind : List Token → Option TokenKind
last_kind [] = None
last_kind (t ∷ []) = Some (kind_of t)
last_kind (t ∷ u ∷ ts) = last_kind (u ∷ ts)

-- one space, where the second may not stand directly behind the first
abbrev pub space : Option TokenKind → Option TokenKind → List ℕ
space None u = []
space (Some t) None = []
space (Some t) (Some u) = if token_beside t u then [] else 32 ∷ []

-- what is put in the place of a span of a text with these items, where it spells these tokens
abbrev pub spaced : List Item → Span → List Token → (put : List ℕ) → List ℕ
spaced items at ts put = space (ending_at at.from items) (first_kind ts) ++ put
    ++ space (last_kind ts) (beginning_at at.to items)
