-- What may come directly behind a lexeme, by its kind (JLS 3.2).
use Rattle.std.specs.Prelude.{◌≡◌, ◌⊎◌, ℕ, true, List, [], ◌∷◌}
use Rattle.jr_lex.specs.declared.items.ItemKind.{ItemKind}
use Rattle.jr_lex.specs.declared.items.ItemKind.TheVariants.{Token as TokenItem, Blank, Comment}
use Rattle.jr_lex.specs.declared.items.TokenKind.TheVariants.{Word, Keyword, Int, Text, Mark}
use Rattle.jr_lex.specs.declared.items.Symbol.TheVariants as symbol
use Rattle.jr_lex.specs.Characters.{first_passes, is_word_start}
use Rattle.jr_lex.specs.Scan.{is_not_line_end}
use Rattle.jr_lex.specs.Beside.{EndsBefore}
use Rattle.jr_lex.specs.Near.{IsCut, EndsLine}

-- What may come directly behind a lexeme of the kind, behind which `old` stood: what ends a token;
-- anything behind a blank, as blanks become one; and behind a comment what leaves its line's end.
abbrev pub Meets : ItemKind → (old other : List ℕ) → Type 0
Meets (TokenItem k) old other = EndsBefore (TokenItem k) other
Meets Blank old other = Unit {0}
Meets Comment old other = EndsLine Comment old other

-- the old text goes on in its line, as it does where a token begins
abbrev pub NoLineEnds : List ℕ → Type 0
NoLineEnds old = first_passes is_not_line_end old ≡ true

-- What may stand in front of a statement of a list: a brace, a semicolon, a blank, a comment.
abbrev pub MayPrecede : ItemKind → Type 0
MayPrecede Blank = Unit {0}
MayPrecede Comment = Unit {0}
MayPrecede (TokenItem (Mark s)) =
    (s ≡ symbol.OpenBrace) ⊎ (s ≡ symbol.CloseBrace) ⊎ (s ≡ symbol.Semicolon)
MayPrecede (TokenItem Word) = ⊥
MayPrecede (TokenItem (Keyword k)) = ⊥
MayPrecede (TokenItem (Int n)) = ⊥
MayPrecede (TokenItem Text) = ⊥

-- What stands in front of a statement may have anything behind it instead.
abbrev pub StatementsMayCome : Type 0
StatementsMayCome =
    (old other : List ℕ) → NoLineEnds old → (k : ItemKind) → MayPrecede k → Meets k old other

-- A parenthesis may come behind each lexeme but a comment that ends a line.
abbrev pub IsParen : ℕ → Type 0
IsParen d = (d ≡ 40) ⊎ (d ≡ 41)

-- the text begins with a character of which this holds
abbrev pub Begins : (ℕ → Type 0) → List ℕ → Type 0
Begins P [] = ⊥
Begins P (c ∷ cs) = P c

abbrev pub ParensMayCome : Type 0
ParensMayCome =
    (k : ItemKind) (old other : List ℕ) → NoLineEnds old → Begins IsParen other → Meets k old other

-- Where a word came behind a lexeme another word may come.
abbrev pub StartsWord : List ℕ → Type 0
StartsWord = Begins (λ c. is_word_start c ≡ true)

abbrev pub WordsMayCome : Type 0
WordsMayCome =
    (k : ItemKind) (front old other : List ℕ) → IsCut k front old → StartsWord old
    → StartsWord other → Meets k old other
