-- The parts of the texts that respellings put in: words, keywords, symbols and a space.
use Rattle.std.proofs.Common.{◌≡◌, ℕ, Bool, true, false, ◌==◌, List, [], ◌∷◌, ◌++◌, refl, ap, arith}
use Rattle.std.specs.Prelude.{codes, nat_lt}
use Rattle.std.specs.Str.{IsUtf8, IsAscii, chars}
use Rattle.std.proofs.lemmas.Bool.{ltb-true, and_parts, or_from, false≢true}
use Rattle.std.proofs.lemmas.List.{append_assoc, append-nil}
use Rattle.std.proofs.lemmas.Str.{chars-IsAscii, IsUtf8-from_ascii}
use Rattle.std.proofs.lemmas.Str.Ascii.{IsAscii-nil, IsAscii-cons}
use Rattle.unicode_ident.proofs.IdentLemmas.{is_xid_continue-ascii}
use Rattle.jr_lex.specs.declared.items.ItemKind.{ItemKind}
use Rattle.jr_lex.specs.declared.items.ItemKind.TheVariants as item
use Rattle.jr_lex.specs.declared.items.TokenKind.TheVariants as kind
use Rattle.jr_lex.specs.declared.items.Keyword.{Keyword}
use Rattle.jr_lex.specs.declared.items.Keyword.TheVariants as keyword
use Rattle.jr_lex.specs.declared.items.Symbol.{Symbol}
use Rattle.jr_lex.specs.declared.items.Symbol.TheVariants as symbol
use Rattle.jr_lex.specs.Characters.{is_digit, is_word_start, is_word_part, first_passes, all_pass}
use Rattle.jr_lex.specs.Words.{IsIdentifier, keyword_text}
use Rattle.jr_lex.specs.Symbols.{symbol_text}
use Rattle.jr_lex.specs.Lexemes.{IsLexeme}
use Rattle.jr_lex.specs.Replacing.{IsName}
use Rattle.jr_lex.specs.Beside.{Piece, EndsBefore}
use Rattle.jr_lex.proofs.FirstLaws.{start-apart, word_start-digit}
use Rattle.jr_grammar.specs.Tokens.{Token}
use Rattle.jr_grammar.specs.Tokens as token
use Rattle.jr_rewrite.specs.Respellings.{Front, same, alone, by_this, by_super, by_cast_this, by_class, by_outer_class, by_cast, front_text, cast_text}
use Rattle.jr_rewrite.specs.Suitable.{AreNames}

pub data Part : Type 0 where
  space : Part
  name : (text : List ℕ) → Part
  key : (which : Keyword) → Part
  mark : (which : Symbol) → Part

abbrev pub part_kind : Part → ItemKind
part_kind space = item.Blank
part_kind (name t) = item.Token kind.Word
part_kind (key k) = item.Token (kind.Keyword k)
part_kind (mark s) = item.Token (kind.Mark s)

abbrev pub part_text : Part → List ℕ
part_text space = 32 ∷ []
part_text (name t) = t
part_text (key k) = keyword_text k
part_text (mark s) = symbol_text s

-- its characters
abbrev pub part_chars : Part → List ℕ
part_chars space = 32 ∷ []
part_chars (name t) = chars t
part_chars (key k) = keyword_text k
part_chars (mark s) = symbol_text s

abbrev pub piece_of : Part → Piece
piece_of p = record { kind = part_kind p; text = part_text p }

abbrev pub pieces_of : List Part → List Piece
pieces_of [] = []
pieces_of (p ∷ ps) = piece_of p ∷ pieces_of ps

-- the text, its characters and its tokens
abbrev pub join : List Part → List ℕ
join [] = []
join (p ∷ ps) = part_text p ++ join ps

abbrev pub join_chars : List Part → List ℕ
join_chars [] = []
join_chars (p ∷ ps) = part_chars p ++ join_chars ps

abbrev pub tokens : List Part → List Token
tokens [] = []
tokens (space ∷ ps) = tokens ps
tokens (name t ∷ ps) = token.word t ∷ tokens ps
tokens (key k ∷ ps) = token.keyword k ∷ tokens ps
tokens (mark s ∷ ps) = token.symbol s ∷ tokens ps

-- ---- what is put in

-- `((K)`, behind which a space stands
abbrev pub cast_parts : List ℕ → List Part
cast_parts k = mark symbol.OpenParen ∷ mark symbol.OpenParen ∷ name k ∷ mark symbol.CloseParen ∷ []

abbrev pub front_parts : Front → List Part
front_parts same = []
front_parts alone = []
front_parts by_this = key keyword.This ∷ mark symbol.Dot ∷ []
front_parts by_super = key keyword.Super ∷ mark symbol.Dot ∷ []
front_parts (by_cast_this k) =
    mark symbol.OpenParen ∷ mark symbol.OpenParen ∷ name k ∷ mark symbol.CloseParen ∷ space ∷ key keyword.This ∷ mark symbol.CloseParen ∷ mark symbol.Dot ∷ []
front_parts (by_class k) = name k ∷ mark symbol.Dot ∷ []
front_parts (by_outer_class o k) = name o ∷ mark symbol.Dot ∷ name k ∷ mark symbol.Dot ∷ []
front_parts (by_cast k) = mark symbol.CloseParen ∷ mark symbol.Dot ∷ []

abbrev pub respelled_parts : Front → List ℕ → List Part
respelled_parts f x = front_parts f ++ name x ∷ []

pub respelled_join : (f : Front) (x : List ℕ) → join (respelled_parts f x) ≡ front_text f ++ x
respelled_join same x = append-nil x
respelled_join alone x = append-nil x
respelled_join by_this x = ap (λ b. codes "this." ++ b) (append-nil x)
respelled_join by_super x = ap (λ b. codes "super." ++ b) (append-nil x)
respelled_join (by_cast_this k) x = simp (append_assoc, append-nil)
respelled_join (by_class k) x = simp (append_assoc, append-nil)
respelled_join (by_outer_class o k) x = simp (append_assoc, append-nil)
respelled_join (by_cast k) x = ap (λ b. codes ")." ++ b) (append-nil x)

pub cast_join : (k : List ℕ) → join (cast_parts k) ++ (32 ∷ []) ≡ cast_text k
cast_join k = simp (append_assoc, append-nil)

-- ---- lexemes

abbrev is_small : ℕ → Bool
is_small c = nat_lt c 128

ascii : (cs : List ℕ) → all_pass is_small cs ≡ true → IsAscii cs
ascii [] h = IsAscii-nil
ascii (c ∷ cs) h =
    let parts = and_parts (is_small c) (all_pass is_small cs) h in
    IsAscii-cons c cs (ltb-true c 128 parts.0) (ascii cs parts.1)

small_keyword : (k : Keyword) → all_pass is_small (keyword_text k) ≡ true
small_keyword keyword.Abstract = refl
small_keyword _ = refl

small_symbol : (s : Symbol) → all_pass is_small (symbol_text s) ≡ true
small_symbol symbol.OpenParen = refl
small_symbol _ = refl

-- the words among the parts are identifiers
abbrev pub IsNamed : Part → Type 0
IsNamed space = Unit {0}
IsNamed (name t) = IsName t
IsNamed (key k) = Unit {0}
IsNamed (mark s) = Unit {0}

pub part_is_text : (p : Part) → IsNamed p → IsUtf8 (part_text p)
part_is_text space h = IsUtf8-from_ascii (32 ∷ []) (ascii (32 ∷ []) refl)
part_is_text (name t) h = h.is_text
part_is_text (key k) h = IsUtf8-from_ascii (keyword_text k) (ascii (keyword_text k) (small_keyword k))
part_is_text (mark s) h = IsUtf8-from_ascii (symbol_text s) (ascii (symbol_text s) (small_symbol s))

pub part_has_chars : (p : Part) → chars (part_text p) ≡ part_chars p
part_has_chars space = chars-IsAscii (32 ∷ []) (ascii (32 ∷ []) refl)
part_has_chars (name t) = refl
part_has_chars (key k) = chars-IsAscii (keyword_text k) (ascii (keyword_text k) (small_keyword k))
part_has_chars (mark s) = chars-IsAscii (symbol_text s) (ascii (symbol_text s) (small_symbol s))

pub part_lexeme : (p : Part) → IsNamed p → IsLexeme (part_kind p) (part_chars p)
part_lexeme space h = (λ e. cc, refl)
part_lexeme (name t) h = h.is_identifier
part_lexeme (key k) h = refl
part_lexeme (mark s) h = refl

-- ---- one behind the other

-- each part is named, and ends where what follows it begins
abbrev pub Lined : List Part → List ℕ → Type 0
Lined [] rest = Unit {0}
Lined (p ∷ ps) rest = IsNamed p × EndsBefore (part_kind p) (join_chars ps ++ rest) × Lined ps rest

part_dot : is_word_part 46 ≡ false
unfolding is_word_part
part_dot = rw (is_xid_continue-ascii 46 (omega arith)) refl

part_close : is_word_part 41 ≡ false
unfolding is_word_part
part_close = rw (is_xid_continue-ascii 41 (omega arith)) refl

-- a word begins with a character that begins words
pub name_starts : (w : List ℕ) → IsIdentifier w → first_passes is_word_start w ≡ true
name_starts [] h = absurd h.is_word
name_starts (c ∷ cs) h = h.is_word.0

pub starts_append : (p : ℕ → Bool) (front rest : List ℕ) → first_passes p front ≡ true → first_passes p (front ++ rest) ≡ true
starts_append p [] rest h = absurd (false≢true h)
starts_append p (c ∷ cs) rest h = h

-- a dot in front of a word is one
dot_before : (cs : List ℕ) → first_passes is_word_start cs ≡ true → EndsBefore (item.Token (kind.Mark symbol.Dot)) cs
dot_before [] h = refl
dot_before (c ∷ cs) h = or_from (is_digit c) (c == 46) (word_start-digit c h) (start-apart c 46 h refl)

dot_name : (x rest : List ℕ) → IsName x → EndsBefore (item.Token (kind.Mark symbol.Dot)) ((chars x ++ []) ++ rest)
dot_name x rest n =
    dot_before ((chars x ++ []) ++ rest) (starts_append is_word_start (chars x ++ []) rest (starts_append is_word_start (chars x) [] (name_starts (chars x) n.is_identifier)))

-- the same with more words behind
dot_more : (x more rest : List ℕ) → IsName x → EndsBefore (item.Token (kind.Mark symbol.Dot)) ((chars x ++ more) ++ rest)
dot_more x more rest n =
    dot_before ((chars x ++ more) ++ rest) (starts_append is_word_start (chars x ++ more) rest (starts_append is_word_start (chars x) more (name_starts (chars x) n.is_identifier)))

paren_name : (k more rest : List ℕ) → EndsBefore (item.Token (kind.Mark symbol.OpenParen)) ((chars k ++ more) ++ rest)
paren_name k more rest = never ((chars k ++ more) ++ rest)
  where
    never : (cs : List ℕ) → EndsBefore (item.Token (kind.Mark symbol.OpenParen)) cs
    never [] = refl
    never (c ∷ cs) = refl

-- `).x`
pub close_lined : (x rest : List ℕ) → IsName x → first_passes is_word_part rest ≡ false → Lined (respelled_parts (by_cast []) x) rest
close_lined x rest n stops = (tt, refl, (tt, dot_name x rest n, (n, stops, tt)))

pub respelled_lined : (f : Front) (x rest : List ℕ) → AreNames f → IsName x → first_passes is_word_part rest ≡ false → Lined (respelled_parts f x) rest
respelled_lined same x rest h n stops = (n, stops, tt)
respelled_lined alone x rest h n stops = (n, stops, tt)
respelled_lined by_this x rest h n stops = (tt, part_dot, (tt, dot_name x rest n, (n, stops, tt)))
respelled_lined by_super x rest h n stops = (tt, part_dot, (tt, dot_name x rest n, (n, stops, tt)))
respelled_lined (by_cast_this k) x rest h n stops =
    (tt, refl, (tt, paren_name k _ rest, (h, part_close, (tt, refl, (tt, refl, (tt, part_close, (tt, refl, (tt, dot_name x rest n, (n, stops, tt)))))))))
respelled_lined (by_class k) x rest h n stops = (h, part_dot, (tt, dot_name x rest n, (n, stops, tt)))
respelled_lined (by_outer_class o k) x rest h n stops = (h.0, part_dot, (tt, dot_more k _ rest h.1, (h.1, part_dot, (tt, dot_name x rest n, (n, stops, tt)))))
respelled_lined (by_cast k) x rest h n stops = close_lined x rest n stops

close_anything : (rest : List ℕ) → EndsBefore (item.Token (kind.Mark symbol.CloseParen)) rest
close_anything [] = refl
close_anything (c ∷ cs) = refl

pub cast_lined : (k rest : List ℕ) → IsName k → Lined (cast_parts k) rest
cast_lined k rest h = (tt, refl, (tt, paren_name k _ rest, (h, part_close, (tt, close_anything rest, tt))))
