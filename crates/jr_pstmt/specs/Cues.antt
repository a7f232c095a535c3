-- Tokens by what they can be in statements, members, classes and units, outside of their
-- expressions.
use Rattle.jr_lex.specs.declared.items.Keyword.{Keyword}
use Rattle.jr_lex.specs.declared.items.Keyword.TheVariants.{
  Boolean,
  Class,
  Else,
  Extends,
  If,
  Int,
  Package,
  Return,
  Super,
  Void,
  While,
  Public as PublicWord,
  Protected as ProtectedWord,
  Private as PrivateWord,
  Static as StaticWord,
  Final as FinalWord,
  Volatile as VolatileWord,
  Synchronized as SynchronizedWord,
}
use Rattle.jr_lex.specs.declared.items.Symbol.{Symbol}
use Rattle.jr_lex.specs.declared.items.Symbol.TheVariants.{
  OpenParen,
  CloseParen,
  OpenBrace,
  CloseBrace,
  Semicolon,
  Comma,
  Dot,
  Equals,
}
use Rattle.std.specs.Prelude.{ℕ, List, Option, Some, None}
use Rattle.jr_ast.specs.declared.operators.ModWord.{ModWord}
use Rattle.jr_ast.specs.declared.operators.ModWord.TheVariants.{
  Public,
  Protected,
  Private,
  Static,
  Final,
  Volatile,
  Synchronized,
}
use Rattle.jr_grammar.specs.Tokens.{Token, word, keyword, integer, text, symbol}
use Rattle.jr_grammar.specs.MemberSpelling.{modifier_keyword}

-- `int` or `boolean`
pub data Primitive : Type 0 where
  an_int : Primitive
  a_boolean : Primitive

abbrev pub primitive_keyword : Primitive → Keyword
primitive_keyword an_int = Int
primitive_keyword a_boolean = Boolean

pub data Cue : Type 0 where
  a_word : (text : List ℕ) → Cue
  a_primitive : (type : Primitive) → Cue
  -- `final` and `synchronized` too, which also stand in statements
  a_modifier : (word : ModWord) → Cue
  an_if : Cue
  an_else : Cue
  a_while : Cue
  a_return : Cue
  a_void : Cue
  a_class : Cue
  an_extends : Cue
  a_package : Cue
  a_super : Cue
  an_open : Cue
  a_close : Cue
  an_open_brace : Cue
  a_close_brace : Cue
  a_semicolon : Cue
  a_comma : Cue
  a_dot : Cue
  an_equals : Cue
  -- what stands in expressions alone, or nowhere
  another : (token : Token) → Cue

abbrev pub cue_token : Cue → Token
cue_token (a_word w) = word w
cue_token (a_primitive p) = keyword (primitive_keyword p)
cue_token (a_modifier m) = keyword (modifier_keyword m)
cue_token an_if = keyword If
cue_token an_else = keyword Else
cue_token a_while = keyword While
cue_token a_return = keyword Return
cue_token a_void = keyword Void
cue_token a_class = keyword Class
cue_token an_extends = keyword Extends
cue_token a_package = keyword Package
cue_token a_super = keyword Super
cue_token an_open = symbol OpenParen
cue_token a_close = symbol CloseParen
cue_token an_open_brace = symbol OpenBrace
cue_token a_close_brace = symbol CloseBrace
cue_token a_semicolon = symbol Semicolon
cue_token a_comma = symbol Comma
cue_token a_dot = symbol Dot
cue_token an_equals = symbol Equals
cue_token (another t) = t

abbrev pub keyword_cue : Keyword → Cue
keyword_cue Int = a_primitive an_int
keyword_cue Boolean = a_primitive a_boolean
keyword_cue PublicWord = a_modifier Public
keyword_cue ProtectedWord = a_modifier Protected
keyword_cue PrivateWord = a_modifier Private
keyword_cue StaticWord = a_modifier Static
keyword_cue FinalWord = a_modifier Final
keyword_cue VolatileWord = a_modifier Volatile
keyword_cue SynchronizedWord = a_modifier Synchronized
keyword_cue If = an_if
keyword_cue Else = an_else
keyword_cue While = a_while
keyword_cue Return = a_return
keyword_cue Void = a_void
keyword_cue Class = a_class
keyword_cue Extends = an_extends
keyword_cue Package = a_package
keyword_cue Super = a_super
keyword_cue k = another (keyword k)

abbrev pub symbol_cue : Symbol → Cue
symbol_cue OpenParen = an_open
symbol_cue CloseParen = a_close
symbol_cue OpenBrace = an_open_brace
symbol_cue CloseBrace = a_close_brace
symbol_cue Semicolon = a_semicolon
symbol_cue Comma = a_comma
symbol_cue Dot = a_dot
symbol_cue Equals = an_equals
symbol_cue s = another (symbol s)

abbrev pub cue_of : Token → Cue
cue_of (word w) = a_word w
cue_of (keyword k) = keyword_cue k
cue_of (integer n) = another (integer n)
cue_of (text s) = another (text s)
cue_of (symbol s) = symbol_cue s

-- ---- what comes where the token is that one, and else nothing

abbrev pub at_semicolon : {N : Type 0} → Cue → N → Option N
at_semicolon a_semicolon n = Some n
at_semicolon _ n = None

abbrev pub at_open : {N : Type 0} → Cue → N → Option N
at_open an_open n = Some n
at_open _ n = None

abbrev pub at_close : {N : Type 0} → Cue → N → Option N
at_close a_close n = Some n
at_close _ n = None

abbrev pub at_open_brace : {N : Type 0} → Cue → N → Option N
at_open_brace an_open_brace n = Some n
at_open_brace _ n = None

abbrev pub at_close_brace : {N : Type 0} → Cue → N → Option N
at_close_brace a_close_brace n = Some n
at_close_brace _ n = None

abbrev pub at_comma : {N : Type 0} → Cue → N → Option N
at_comma a_comma n = Some n
at_comma _ n = None

abbrev pub at_equals : {N : Type 0} → Cue → N → Option N
at_equals an_equals n = Some n
at_equals _ n = None
