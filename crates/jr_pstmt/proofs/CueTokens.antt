-- A token is the token of its cue.
use Rattle.std.proofs.Common.{◌≡◌, Option, Some, None, refl}
use Rattle.jr_lex.specs.declared.items.Keyword.{Keyword}
use Rattle.jr_lex.specs.declared.items.Keyword.TheVariants.{Class}
use Rattle.jr_lex.specs.declared.items.Symbol.{Symbol}
use Rattle.jr_lex.specs.declared.items.Symbol.TheVariants.{OpenParen, CloseParen, OpenBrace, CloseBrace, Semicolon, Comma, Equals}
use Rattle.jr_grammar.specs.Tokens.{Token, word, keyword, integer, text, symbol}
use Rattle.jr_pstmt.specs.Cues.{Cue, an_open, a_close, an_open_brace, a_close_brace, a_semicolon, a_comma, an_equals, keyword_cue, symbol_cue, cue_of, cue_token, at_semicolon, at_open, at_close, at_open_brace, at_close_brace, at_comma, at_equals}

keyword_back : (k : Keyword) → cue_token (keyword_cue k) ≡ keyword k
keyword_back Class = refl
keyword_back _ = refl

symbol_back : (s : Symbol) → cue_token (symbol_cue s) ≡ symbol s
symbol_back OpenParen = refl
symbol_back _ = refl

pub cue_back : (t : Token) → cue_token (cue_of t) ≡ t
cue_back (word w) = refl
cue_back (keyword k) = keyword_back k
cue_back (integer n) = refl
cue_back (text s) = refl
cue_back (symbol s) = symbol_back s

-- ---- what holds where the token is that one, and where there is nothing

pub semicolon_both : {N : Type 0} (q : Cue) (n : N) (P : Token → Option N → Type 0) → P (symbol Semicolon) (Some n) → ((t : Token) → P t None) → P (cue_token q) (at_semicolon q n)
semicolon_both a_semicolon n P f g = f
semicolon_both q n P f g = g (cue_token q)

pub open_both : {N : Type 0} (q : Cue) (n : N) (P : Token → Option N → Type 0) → P (symbol OpenParen) (Some n) → ((t : Token) → P t None) → P (cue_token q) (at_open q n)
open_both an_open n P f g = f
open_both q n P f g = g (cue_token q)

pub close_both : {N : Type 0} (q : Cue) (n : N) (P : Token → Option N → Type 0) → P (symbol CloseParen) (Some n) → ((t : Token) → P t None) → P (cue_token q) (at_close q n)
close_both a_close n P f g = f
close_both q n P f g = g (cue_token q)

pub open_brace_both : {N : Type 0} (q : Cue) (n : N) (P : Token → Option N → Type 0) → P (symbol OpenBrace) (Some n) → ((t : Token) → P t None) → P (cue_token q) (at_open_brace q n)
open_brace_both an_open_brace n P f g = f
open_brace_both q n P f g = g (cue_token q)

pub close_brace_both : {N : Type 0} (q : Cue) (n : N) (P : Token → Option N → Type 0) → P (symbol CloseBrace) (Some n) → ((t : Token) → P t None) → P (cue_token q) (at_close_brace q n)
close_brace_both a_close_brace n P f g = f
close_brace_both q n P f g = g (cue_token q)

pub comma_both : {N : Type 0} (q : Cue) (n : N) (P : Token → Option N → Type 0) → P (symbol Comma) (Some n) → ((t : Token) → P t None) → P (cue_token q) (at_comma q n)
comma_both a_comma n P f g = f
comma_both q n P f g = g (cue_token q)

pub equals_both : {N : Type 0} (q : Cue) (n : N) (P : Token → Option N → Type 0) → P (symbol Equals) (Some n) → ((t : Token) → P t None) → P (cue_token q) (at_equals q n)
equals_both an_equals n P f g = f
equals_both q n P f g = g (cue_token q)
