-- Which tokens a text may have.
use Rattle.std.proofs.Common.{◌≡◌, true, false, refl, sym, ap, subst, ◌∙◌, arith}
use Rattle.std.specs.Prelude.{codes}
use Rattle.jr_lex.specs.declared.items.Keyword.TheVariants.{Class, Null}
use Rattle.jr_lex.specs.Words.{IsWord}
use Rattle.jr_lex.specs.Characters.{is_word_start}
use Rattle.jr_lex.specs.Strings.{is_content, is_escape}
use Rattle.unicode_ident.proofs.Computing.{unicode_ident}
use Rattle.jr_grammar.specs.Tokens.{word, integer, text}
use Rattle.jr_grammar.specs.Lexical.{IsLexical}
use Rattle.jr_grammar.proofs.Cases.Scanned.{ascii_chars}

-- a keyword is no word
keyword_as_word : IsLexical (word (codes "class")) → ⊥
keyword_as_word h = h.is_identifier.is_no_keyword Class (ascii_chars (codes "class") refl refl)

-- nor is a literal
literal_as_word : IsLexical (word (codes "null")) → ⊥
literal_as_word h = h.is_identifier.is_no_keyword Null (ascii_chars (codes "null") refl refl)

-- nor what begins with a digit
digit_first : IsLexical (word (codes "1a")) → ⊥
unfolding is_word_start unicode_ident
digit_first h = let w = subst IsWord (ascii_chars (codes "1a") refl refl) h.is_identifier.is_word in let f : false ≡ true = w.0 in cc

-- 2147483649
number_beyond : IsLexical (integer 2147483649) → ⊥
number_beyond h = omega (arith, h)

-- a quotation mark within a string
quotation_mark_within : IsLexical (text (codes "a\"b")) → ⊥
quotation_mark_within h = let e = ap (is_content is_escape) (sym (ascii_chars (codes "a\"b") refl refl)) ∙ h.escapes in let f : false ≡ true = e in cc

-- `\q` is no escape
wrong_escape : IsLexical (text (codes "\\q")) → ⊥
wrong_escape h = let e = ap (is_content is_escape) (sym (ascii_chars (codes "\\q") refl refl)) ∙ h.escapes in let f : false ≡ true = e in cc
