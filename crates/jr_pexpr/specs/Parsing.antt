-- What is read from an item of a text on: the longest tree, the item behind it, and where reading
-- stops.
use Rattle.std.specs.Prelude.{
  ◌≡◌,
  ℕ,
  ◌+◌,
  ◌-◌,
  List,
  [],
  ◌∷◌,
  length,
  take,
  drop,
  slice_get,
  slice_index_or,
  unwrap_or,
  option_map,
}
use Rattle.jr_text.specs.declared.spans.Span.{Span}
use Rattle.jr_lex.specs.declared.items.Item.{Item}
use Rattle.jr_lex.specs.declared.items.ItemKind.{ItemKind}
use Rattle.jr_lex.specs.declared.items.ItemKind.TheVariants.{Token as TokenItem, Blank, Comment}
use Rattle.jr_ast.specs.Tree.{Exp}
use Rattle.jr_grammar.specs.Tokens.{Token, kinds, placed_of}
use Rattle.jr_grammar.specs.Spelling.{toks}
use Rattle.jr_grammar.specs.Shape.{Shaped, ShapedStatement}
use Rattle.jr_grammar.specs.Stands.{Tokens}
use Rattle.jr_grammar.specs.Readings.{IsPrefix}
use Rattle.jr_grammar.specs.Bare.{Bare, bare}
use Rattle.jr_grammar.specs.Expressions.{
  IsLongestExpression,
  IsLongestStatementExpression,
  HasNoExpression,
  HasNoStatementExpression,
  IsExpressionStop,
  IsStatementExpressionStop,
  IsMarkedExpression,
  IsMarkedStatementExpression,
}
use Rattle.jr_pexpr.specs.declared.faults.ParseFault.{ParseFault}
use Rattle.jr_pexpr.specs.declared.faults.ParseFault.TheVariants.{Syntax, Memory}

-- ---- tokens and items

-- the tokens of a text from an item on
abbrev pub tokens_from : List ℕ → List Item → ℕ → Tokens
tokens_from bytes items from = placed_of bytes (drop from items)

abbrev pub with_number : ItemKind → ℕ → List ℕ → List ℕ
with_number (TokenItem kind) number numbers = number ∷ numbers
with_number Blank number numbers = numbers
with_number Comment number numbers = numbers

-- the numbers of those items that are tokens, where the first item has the number `at`
abbrev pub token_numbers : ℕ → List Item → List ℕ
token_numbers at [] = []
token_numbers at (i ∷ is) = with_number i.kind at (token_numbers (at + 1) is)

-- The number of the item that is token number k from item `from` on, or of items where there are no
-- more than k such tokens.
abbrev pub item_of_token : List Item → ℕ → ℕ → ℕ
item_of_token items from k = slice_index_or (token_numbers from (drop from items)) k (length items)

-- the number of the item behind the n-th of these tokens, n being 1 or more
abbrev pub item_behind : List Item → ℕ → ℕ → ℕ
item_behind items from n = item_of_token items from (n - 1) + 1

-- the first byte of an item, or the file's end where there is no item of this number
abbrev pub byte_of_item : List ℕ → List Item → ℕ → ℕ
byte_of_item bytes items number =
    unwrap_or (option_map (λ (i : Item). i.span.from) (slice_get items number)) (length bytes)

-- ---- what is read, of any kind of tree

module _ (IsLongest : List Token → ℕ → Exp Bare → Type 0) (HasNone : List Token →
    Type 0) (IsStop : List Token → ℕ → Type 0) (IsMarked : Tokens → Exp Span → Type 0) where
  -- From item `from` on, the tokens up to the item of this number begin some tree, and with it they
  -- begin none.
  pub record StopsAt (bytes : List ℕ) (items : List Item) (from stop : ℕ) : Type 0 where
    pub tokens_read : ℕ
    pub exact : IsStop (kinds (tokens_from bytes items from)) tokens_read
    pub item : stop ≡ item_of_token items from tokens_read

  -- The longest tree from item `from` on is this, `behind` is the number of the item behind its
  -- last token, and reading stops there.
  pub record IsReadFrom (bytes : List ℕ) (items : List Item) (from : ℕ) (tree : Exp Span)
      (behind stop : ℕ) : Type 0 where
    pub tokens_taken : ℕ
    pub longest : IsLongest (kinds (tokens_from bytes items from)) tokens_taken (bare tree)
    pub marked : IsMarked (take tokens_taken (tokens_from bytes items from)) tree
    pub ends : behind ≡ item_behind items from tokens_taken
    pub stops : StopsAt bytes items from stop

  -- No tree begins there, and reading stops at this byte, or at the file's end.
  pub record IsNoneFrom (bytes : List ℕ) (items : List Item) (from at : ℕ) : Type 0 where
    pub none : HasNone (kinds (tokens_from bytes items from))
    pub stop : ℕ
    pub stops : StopsAt bytes items from stop
    pub byte : at ≡ byte_of_item bytes items stop

-- ---- expressions, and statement expressions

-- the tokens begin with some expression
abbrev pub HasExpression : List Token → Type 0
HasExpression tokens = (n : ℕ) × ((tree : Exp Bare) × IsPrefix (Exp Bare) toks Shaped tokens n tree)

abbrev pub HasStatementExpression : List Token → Type 0
HasStatementExpression tokens = (n : ℕ)
    × ((tree : Exp Bare) × IsPrefix (Exp Bare) toks ShapedStatement tokens n tree)

abbrev pub IsExpressionFrom : List ℕ → List Item → ℕ → Exp Span → ℕ → ℕ → Type 0
IsExpressionFrom =
    IsReadFrom IsLongestExpression HasNoExpression IsExpressionStop IsMarkedExpression

abbrev pub IsNoExpressionFrom : List ℕ → List Item → ℕ → ℕ → Type 0
IsNoExpressionFrom =
    IsNoneFrom IsLongestExpression HasNoExpression IsExpressionStop IsMarkedExpression

abbrev pub IsStatementExpressionFrom : List ℕ → List Item → ℕ → Exp Span → ℕ → ℕ → Type 0
IsStatementExpressionFrom =
    IsReadFrom IsLongestStatementExpression HasNoStatementExpression IsStatementExpressionStop
    IsMarkedStatementExpression

abbrev pub IsNoStatementExpressionFrom : List ℕ → List Item → ℕ → ℕ → Type 0
IsNoStatementExpressionFrom =
    IsNoneFrom IsLongestStatementExpression HasNoStatementExpression IsStatementExpressionStop
    IsMarkedStatementExpression

-- ---- one answer

-- From an item on one tree is read at most, with one item behind it and one stop, or else one fault
-- is told, and never both.
pub record OneAnswer (IsRead : List ℕ → List Item → ℕ → Exp Span → ℕ → ℕ →
    Type 0) (IsNone : List ℕ → List Item → ℕ → ℕ → Type 0) : Type 0 where
  pub tree : (bytes : List ℕ) (items : List Item) (from : ℕ) (a b : Exp Span) (i j m n : ℕ) →
      IsRead bytes items from a i m → IsRead bytes items from b j n → a ≡ b
  pub behind : (bytes : List ℕ) (items : List Item) (from : ℕ) (a b : Exp Span) (i j m n : ℕ) →
      IsRead bytes items from a i m → IsRead bytes items from b j n → i ≡ j
  pub stop : (bytes : List ℕ) (items : List Item) (from : ℕ) (a b : Exp Span) (i j m n : ℕ) →
      IsRead bytes items from a i m → IsRead bytes items from b j n → m ≡ n
  pub fault : (bytes : List ℕ) (items : List Item) (from i j : ℕ) → IsNone bytes items from i →
      IsNone bytes items from j → i ≡ j
  pub never_both : (bytes : List ℕ) (items : List Item) (from : ℕ) (a : Exp Span) (i m at : ℕ) →
      IsRead bytes items from a i m → IsNone bytes items from at → ⊥

-- ---- faults

-- the fault is want of memory, or one of syntax at a byte of which this holds
abbrev pub IsFault : (ℕ → Type 0) → ParseFault → Type 0
IsFault IsPlace (Syntax at) = IsPlace at
IsFault IsPlace Memory = Unit {0}
