-- Tokens by what they can be in an expression.
use Rattle.std.specs.Prelude.{ℕ, Bool, true, false, List}
use Rattle.jr_lex.specs.declared.items.Keyword.{Keyword}
use Rattle.jr_lex.specs.declared.items.Keyword.TheVariants.{
  Class,
  New,
  Super,
  This,
  True,
  False,
  Null,
}
use Rattle.jr_lex.specs.declared.items.Symbol.{Symbol}
use Rattle.jr_lex.specs.declared.items.Symbol.TheVariants.{
  OpenParen,
  CloseParen,
  Comma,
  Dot,
  Equals,
  Bang,
  Plus,
  Minus,
  PlusPlus,
  MinusMinus,
  BarBar,
  AndAnd,
  EqualEqual,
  NotEqual,
  Less,
  Greater,
  LessEqual,
  GreaterEqual,
  Star,
  Slash,
  Percent,
  PlusEquals,
  MinusEquals,
  StarEquals,
  SlashEquals,
  PercentEquals,
}
use Rattle.jr_ast.specs.declared.operators.BinOp.{BinOp}
use Rattle.jr_ast.specs.declared.operators.BinOp.TheVariants.{
  Or,
  And,
  Eq,
  Ne,
  Lt,
  Gt,
  Le,
  Ge,
  Add,
  Sub,
  Mul,
  Div,
  Rem,
}
use Rattle.jr_grammar.specs.Tokens.{Token, word, keyword, integer, text, symbol}
use Rattle.jr_grammar.specs.Spelling.{binary_symbol, compound_symbol, truth_keyword}

-- `++` or `--`
pub data Way : Type 0 where
  up : Way
  down : Way

abbrev pub way_symbol : Way → Symbol
way_symbol up = PlusPlus
way_symbol down = MinusMinus

-- a token that is an expression by itself, other than a name
pub data Atom : Type 0 where
  a_number : (value : ℕ) → Atom
  a_truth : (value : Bool) → Atom
  a_null : Atom
  a_string : (written : List ℕ) → Atom
  a_this : Atom

abbrev pub atom_token : Atom → Token
atom_token (a_number n) = integer n
atom_token (a_truth b) = keyword (truth_keyword b)
atom_token a_null = keyword Null
atom_token (a_string s) = text s
atom_token a_this = keyword This

pub data Piece : Type 0 where
  a_word : (text : List ℕ) → Piece
  an_atom : (atom : Atom) → Piece
  a_super : Piece
  a_new : Piece
  a_class : Piece
  an_open : Piece
  a_close : Piece
  a_comma : Piece
  a_dot : Piece
  a_bang : Piece
  a_bump : (way : Way) → Piece
  -- a sign too
  an_operator : (op : BinOp) → Piece
  an_equals : Piece
  a_compound : (op : BinOp) → Piece
  -- what no expression has
  another : (token : Token) → Piece

abbrev pub piece_token : Piece → Token
piece_token (a_word w) = word w
piece_token (an_atom a) = atom_token a
piece_token a_super = keyword Super
piece_token a_new = keyword New
piece_token a_class = keyword Class
piece_token an_open = symbol OpenParen
piece_token a_close = symbol CloseParen
piece_token a_comma = symbol Comma
piece_token a_dot = symbol Dot
piece_token a_bang = symbol Bang
piece_token (a_bump w) = symbol (way_symbol w)
piece_token (an_operator o) = symbol (binary_symbol o)
piece_token an_equals = symbol Equals
piece_token (a_compound o) = symbol (compound_symbol o)
piece_token (another t) = t

abbrev pub keyword_piece : Keyword → Piece
keyword_piece Class = a_class
keyword_piece New = a_new
keyword_piece Super = a_super
keyword_piece This = an_atom a_this
keyword_piece True = an_atom (a_truth true)
keyword_piece False = an_atom (a_truth false)
keyword_piece Null = an_atom a_null
keyword_piece k = another (keyword k)

abbrev pub symbol_piece : Symbol → Piece
symbol_piece OpenParen = an_open
symbol_piece CloseParen = a_close
symbol_piece Comma = a_comma
symbol_piece Dot = a_dot
symbol_piece Bang = a_bang
symbol_piece PlusPlus = a_bump up
symbol_piece MinusMinus = a_bump down
symbol_piece BarBar = an_operator Or
symbol_piece AndAnd = an_operator And
symbol_piece EqualEqual = an_operator Eq
symbol_piece NotEqual = an_operator Ne
symbol_piece Less = an_operator Lt
symbol_piece Greater = an_operator Gt
symbol_piece LessEqual = an_operator Le
symbol_piece GreaterEqual = an_operator Ge
symbol_piece Plus = an_operator Add
symbol_piece Minus = an_operator Sub
symbol_piece Star = an_operator Mul
symbol_piece Slash = an_operator Div
symbol_piece Percent = an_operator Rem
symbol_piece Equals = an_equals
symbol_piece PlusEquals = a_compound Add
symbol_piece MinusEquals = a_compound Sub
symbol_piece StarEquals = a_compound Mul
symbol_piece SlashEquals = a_compound Div
symbol_piece PercentEquals = a_compound Rem
symbol_piece s = another (symbol s)

abbrev pub piece_of : Token → Piece
piece_of (word w) = a_word w
piece_of (keyword k) = keyword_piece k
piece_of (integer n) = an_atom (a_number n)
piece_of (text s) = an_atom (a_string s)
piece_of (symbol s) = symbol_piece s
