-- The tokens of a text with where they stand (JLS 3.5), and the tokens of types (JLS 4.2).
use Rattle.std.proofs.Common.{◌≡◌, ℕ, List, [], ◌∷◌, refl}
use Rattle.std.specs.Prelude.{codes}
use Rattle.jr_text.specs.declared.spans.Span.{Span}
use Rattle.jr_lex.specs.declared.items.Item.{Item}
use Rattle.jr_lex.specs.declared.items.ItemKind.TheVariants.{Token as TokenItem, Blank, Comment}
use Rattle.jr_lex.specs.declared.items.TokenKind.{TokenKind}
use Rattle.jr_lex.specs.declared.items.TokenKind.TheVariants.{Word as WordKind, Keyword as KeywordKind, Int as IntKind, Text as TextKind, Mark}
use Rattle.jr_lex.specs.declared.items.Keyword.TheVariants.{Boolean, Int, True}
use Rattle.jr_lex.specs.declared.items.Symbol.TheVariants.{Equals, Plus as PlusSign, Semicolon}
use Rattle.jr_ast.specs.Tree.{int, boolean}
use Rattle.jr_grammar.specs.Tokens.{Token, word, keyword, integer, text, symbol, Placed, placed_of, tokens_of}
use Rattle.jr_grammar.specs.Spelling.{type_toks}
use Rattle.jr_grammar.specs.Stands.{Stands}
use Rattle.jr_grammar.specs.ExpressionLayout.{type_layout}
use Rattle.jr_grammar.specs.Bare.{Bare}
use Rattle.jr_grammar.proofs.Layouts.{lay_stands}

abbrev at : ℕ → ℕ → Span
at a b = record { from = a; to = b }

abbrev put : ℕ → ℕ → Token → Placed Span
put a b t = record { mark = at a b; token = t }

abbrev token : ℕ → ℕ → TokenKind → Item
token a b k = record { kind = TokenItem k; span = at a b }

-- ---- texts

-- a  /*b*/= "c d"+true+12;//e
abbrev items_of_assignment : List Item
items_of_assignment =
    token 0 1 WordKind ∷ record { kind = Blank; span = at 1 3 } ∷ record { kind = Comment; span = at 3 8 } ∷ token 8 9 (Mark Equals) ∷ record { kind = Blank; span = at 9 10 } ∷ token 10 15 TextKind ∷ token 15 16 (Mark PlusSign)
    ∷ token 16 20 (KeywordKind True) ∷ token 20 21 (Mark PlusSign) ∷ token 21 23 (IntKind 12) ∷ token 23 24 (Mark Semicolon) ∷ record { kind = Comment; span = at 24 27 } ∷ []

placed_in_assignment : placed_of (codes "a  /*b*/= \"c d\"+true+12;//e") items_of_assignment
    ≡ put 0 1 (word (codes "a")) ∷ put 8 9 (symbol Equals) ∷ put 10 15 (text (codes "c d")) ∷ put 15 16 (symbol PlusSign) ∷ put 16 20 (keyword True) ∷ put 20 21 (symbol PlusSign) ∷ put 21 23 (integer 12) ∷ put 23 24 (symbol Semicolon) ∷ []
placed_in_assignment = refl

tokens_of_assignment : tokens_of (codes "a  /*b*/= \"c d\"+true+12;//e") items_of_assignment
    ≡ word (codes "a") ∷ symbol Equals ∷ text (codes "c d") ∷ symbol PlusSign ∷ keyword True ∷ symbol PlusSign ∷ integer 12 ∷ symbol Semicolon ∷ []
tokens_of_assignment = refl

-- ""
empty_string : tokens_of (codes "\"\"") (token 0 2 TextKind ∷ []) ≡ text [] ∷ []
empty_string = refl

-- ---- types

-- int
int_type : type_toks {A = Bare} (int tt) ≡ keyword Int ∷ []
int_type = refl

int_type_stands : Stands (type_layout (int (at 2 5))) (put 2 5 (keyword Int) ∷ [])
int_type_stands = lay_stands (type_layout {A = Span} (int (at 2 5))) (put 2 5 (keyword Int) ∷ []) refl

-- boolean
boolean_type : type_toks {A = Bare} (boolean tt) ≡ keyword Boolean ∷ []
boolean_type = refl

boolean_type_stands : Stands (type_layout (boolean (at 2 9))) (put 2 9 (keyword Boolean) ∷ [])
boolean_type_stands = lay_stands (type_layout {A = Span} (boolean (at 2 9))) (put 2 9 (keyword Boolean) ∷ []) refl
