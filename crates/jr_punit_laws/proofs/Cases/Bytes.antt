-- Texts of which no unit reads, from their bytes on.
use Rattle.std.proofs.Common.{ℕ, List, [], ◌∷◌, refl}
use Rattle.std.specs.Prelude.{codes}
use Rattle.unicode_ident.proofs.Computing.{unicode_ident}
use Rattle.jr_lex.specs.declared.items.Item.{Item}
use Rattle.jr_lex.specs.declared.items.ItemKind.TheVariants.{Token as TokenItem, Blank, Comment}
use Rattle.jr_lex.specs.declared.items.TokenKind.{TokenKind}
use Rattle.jr_lex.specs.declared.items.TokenKind.TheVariants.{Word as WordKind, Keyword as KeywordKind, Int as IntKind, Mark}
use Rattle.jr_lex.specs.declared.items.Keyword.TheVariants.{Class, Extends, If, Int, Package, Super, Void}
use Rattle.jr_lex.specs.declared.items.Symbol.TheVariants.{CloseBrace, CloseParen, Equals, OpenBrace, OpenParen, Plus as PlusSign, Semicolon}
use Rattle.jr_lex.specs.Characters.{is_word_start, is_word_part}
use Rattle.jr_lex.specs.Scan.{scan, keyword_of, extended as grown}
use Rattle.jr_pexpr.specs.Machine.{begun, extended}
use Rattle.jr_pstmt.specs.StatementMachine.{from_ready}
use Rattle.jr_grammar.proofs.Cases.Scanned.{lexes}
use Rattle.jr_punit_laws.proofs.Cases.Forms.{ReadsNothing, reads_nothing}

abbrev token : ℕ → ℕ → TokenKind → Item
token a b k = record { kind = TokenItem k; span = record { from = a; to = b } }

abbrev blank : ℕ → ℕ → Item
blank a b = record { kind = Blank; span = record { from = a; to = b } }

abbrev comment : ℕ → ℕ → Item
comment a b = record { kind = Comment; span = record { from = a; to = b } }

-- javac takes it; a local has its value
local_without_value : ReadsNothing (codes "class A { void m() { int a; } }")
unfolding scan grown keyword_of is_word_start is_word_part unicode_ident begun extended from_ready
local_without_value =
    let items : List Item = (token 0 5 (KeywordKind Class) ∷ blank 5 6 ∷ token 6 7 WordKind ∷ blank 7 8 ∷ token 8 9 (Mark OpenBrace) ∷ blank 9 10 ∷ token 10 14 (KeywordKind Void) ∷ blank 14 15 ∷ token 15 16 WordKind ∷ token 16 17 (Mark OpenParen) ∷ token 17 18 (Mark CloseParen) ∷ blank 18 19 ∷ token 19 20 (Mark OpenBrace) ∷ blank 20 21 ∷ token 21 24 (KeywordKind Int) ∷ blank 24 25 ∷ token 25 26 WordKind ∷ token 26 27 (Mark Semicolon) ∷ blank 27 28 ∷ token 28 29 (Mark CloseBrace) ∷ blank 29 30 ∷ token 30 31 (Mark CloseBrace) ∷ []) in
    reads_nothing (codes "class A { void m() { int a; } }") items (lexes (codes "class A { void m() { int a; } }") items refl refl refl) refl

-- javac's parser takes it; `super(..)` stands first in a constructor, and is no statement
super_second : ReadsNothing (codes "class A { A() { m(); super(); } }")
unfolding scan grown keyword_of is_word_start is_word_part unicode_ident begun extended from_ready
super_second =
    let items : List Item = (token 0 5 (KeywordKind Class) ∷ blank 5 6 ∷ token 6 7 WordKind ∷ blank 7 8 ∷ token 8 9 (Mark OpenBrace) ∷ blank 9 10 ∷ token 10 11 WordKind ∷ token 11 12 (Mark OpenParen) ∷ token 12 13 (Mark CloseParen) ∷ blank 13 14 ∷ token 14 15 (Mark OpenBrace) ∷ blank 15 16 ∷ token 16 17 WordKind ∷ token 17 18 (Mark OpenParen) ∷ token 18 19 (Mark CloseParen) ∷ token 19 20 (Mark Semicolon) ∷ blank 20 21 ∷ token 21 26 (KeywordKind Super) ∷ token 26 27 (Mark OpenParen) ∷ token 27 28 (Mark CloseParen) ∷ token 28 29 (Mark Semicolon) ∷ blank 29 30 ∷ token 30 31 (Mark CloseBrace) ∷ blank 31 32 ∷ token 32 33 (Mark CloseBrace) ∷ []) in
    reads_nothing (codes "class A { A() { m(); super(); } }") items (lexes (codes "class A { A() { m(); super(); } }") items refl refl refl) refl

-- javac's parser takes it; `super(..)` is no statement
super_in_method : ReadsNothing (codes "class A { void m() { super(); } }")
unfolding scan grown keyword_of is_word_start is_word_part unicode_ident begun extended from_ready
super_in_method =
    let items : List Item = (token 0 5 (KeywordKind Class) ∷ blank 5 6 ∷ token 6 7 WordKind ∷ blank 7 8 ∷ token 8 9 (Mark OpenBrace) ∷ blank 9 10 ∷ token 10 14 (KeywordKind Void) ∷ blank 14 15 ∷ token 15 16 WordKind ∷ token 16 17 (Mark OpenParen) ∷ token 17 18 (Mark CloseParen) ∷ blank 18 19 ∷ token 19 20 (Mark OpenBrace) ∷ blank 20 21 ∷ token 21 26 (KeywordKind Super) ∷ token 26 27 (Mark OpenParen) ∷ token 27 28 (Mark CloseParen) ∷ token 28 29 (Mark Semicolon) ∷ blank 29 30 ∷ token 30 31 (Mark CloseBrace) ∷ blank 31 32 ∷ token 32 33 (Mark CloseBrace) ∷ []) in
    reads_nothing (codes "class A { void m() { super(); } }") items (lexes (codes "class A { void m() { super(); } }") items refl refl refl) refl

-- javac takes it (JLS 8.1.6); no member is a semicolon alone
semicolon_as_member : ReadsNothing (codes "class A { ; }")
unfolding scan grown keyword_of is_word_start is_word_part unicode_ident begun extended from_ready
semicolon_as_member =
    let items : List Item = (token 0 5 (KeywordKind Class) ∷ blank 5 6 ∷ token 6 7 WordKind ∷ blank 7 8 ∷ token 8 9 (Mark OpenBrace) ∷ blank 9 10 ∷ token 10 11 (Mark Semicolon) ∷ blank 11 12 ∷ token 12 13 (Mark CloseBrace) ∷ []) in
    reads_nothing (codes "class A { ; }") items (lexes (codes "class A { ; }") items refl refl refl) refl

-- javac refuses it too: reached end of file while parsing
package_without_its_semicolon : ReadsNothing (codes "package a")
unfolding scan grown keyword_of is_word_start is_word_part unicode_ident begun extended from_ready
package_without_its_semicolon =
    let items : List Item = (token 0 7 (KeywordKind Package) ∷ blank 7 8 ∷ token 8 9 WordKind ∷ []) in
    reads_nothing (codes "package a") items (lexes (codes "package a") items refl refl refl) refl

-- javac takes it; a class inside a class holds no class
class_in_member_class : ReadsNothing (codes "class A{class B{class C{}}}")
unfolding scan grown keyword_of is_word_start is_word_part unicode_ident begun extended from_ready
class_in_member_class =
    let items : List Item = (token 0 5 (KeywordKind Class) ∷ blank 5 6 ∷ token 6 7 WordKind ∷ token 7 8 (Mark OpenBrace) ∷ token 8 13 (KeywordKind Class) ∷ blank 13 14 ∷ token 14 15 WordKind ∷ token 15 16 (Mark OpenBrace) ∷ token 16 21 (KeywordKind Class) ∷ blank 21 22 ∷ token 22 23 WordKind ∷ token 23 24 (Mark OpenBrace) ∷ token 24 25 (Mark CloseBrace) ∷ token 25 26 (Mark CloseBrace) ∷ token 26 27 (Mark CloseBrace) ∷ []) in
    reads_nothing (codes "class A{class B{class C{}}}") items (lexes (codes "class A{class B{class C{}}}") items refl refl refl) refl

-- javac refuses it too: invalid method declaration; return type required
constructor_of_another_name : ReadsNothing (codes "class A{B(){}}")
unfolding scan grown keyword_of is_word_start is_word_part unicode_ident begun extended from_ready
constructor_of_another_name =
    let items : List Item = (token 0 5 (KeywordKind Class) ∷ blank 5 6 ∷ token 6 7 WordKind ∷ token 7 8 (Mark OpenBrace) ∷ token 8 9 WordKind ∷ token 9 10 (Mark OpenParen) ∷ token 10 11 (Mark CloseParen) ∷ token 11 12 (Mark OpenBrace) ∷ token 12 13 (Mark CloseBrace) ∷ token 13 14 (Mark CloseBrace) ∷ []) in
    reads_nothing (codes "class A{B(){}}") items (lexes (codes "class A{B(){}}") items refl refl refl) refl

-- javac's parser takes it; a superclass is named
superclass_int : ReadsNothing (codes "class A extends int {}")
unfolding scan grown keyword_of is_word_start is_word_part unicode_ident begun extended from_ready
superclass_int =
    let items : List Item = (token 0 5 (KeywordKind Class) ∷ blank 5 6 ∷ token 6 7 WordKind ∷ blank 7 8 ∷ token 8 15 (KeywordKind Extends) ∷ blank 15 16 ∷ token 16 19 (KeywordKind Int) ∷ blank 19 20 ∷ token 20 21 (Mark OpenBrace) ∷ token 21 22 (Mark CloseBrace) ∷ []) in
    reads_nothing (codes "class A extends int {}") items (lexes (codes "class A extends int {}") items refl refl refl) refl

-- javac refuses it too: not a statement
sum_statement : ReadsNothing (codes "class A{void m(){a + b; // sum\n}}")
unfolding scan grown keyword_of is_word_start is_word_part unicode_ident begun extended from_ready
sum_statement =
    let items : List Item = (token 0 5 (KeywordKind Class) ∷ blank 5 6 ∷ token 6 7 WordKind ∷ token 7 8 (Mark OpenBrace) ∷ token 8 12 (KeywordKind Void) ∷ blank 12 13 ∷ token 13 14 WordKind ∷ token 14 15 (Mark OpenParen) ∷ token 15 16 (Mark CloseParen) ∷ token 16 17 (Mark OpenBrace) ∷ token 17 18 WordKind ∷ blank 18 19 ∷ token 19 20 (Mark PlusSign) ∷ blank 20 21 ∷ token 21 22 WordKind ∷ token 22 23 (Mark Semicolon) ∷ blank 23 24 ∷ comment 24 30 ∷ blank 30 31 ∷ token 31 32 (Mark CloseBrace) ∷ token 32 33 (Mark CloseBrace) ∷ []) in
    reads_nothing (codes "class A{void m(){a + b; // sum\n}}") items (lexes (codes "class A{void m(){a + b; // sum\n}}") items refl refl refl) refl

-- javac refuses it too: variable declaration not allowed here
local_behind_if : ReadsNothing (codes "class A{/**/void m(){if(a)int b=1;}}")
unfolding scan grown keyword_of is_word_start is_word_part unicode_ident begun extended from_ready
local_behind_if =
    let items : List Item = (token 0 5 (KeywordKind Class) ∷ blank 5 6 ∷ token 6 7 WordKind ∷ token 7 8 (Mark OpenBrace) ∷ comment 8 12 ∷ token 12 16 (KeywordKind Void) ∷ blank 16 17 ∷ token 17 18 WordKind ∷ token 18 19 (Mark OpenParen) ∷ token 19 20 (Mark CloseParen) ∷ token 20 21 (Mark OpenBrace) ∷ token 21 23 (KeywordKind If) ∷ token 23 24 (Mark OpenParen) ∷ token 24 25 WordKind ∷ token 25 26 (Mark CloseParen) ∷ token 26 29 (KeywordKind Int) ∷ blank 29 30 ∷ token 30 31 WordKind ∷ token 31 32 (Mark Equals) ∷ token 32 33 (IntKind 1) ∷ token 33 34 (Mark Semicolon) ∷ token 34 35 (Mark CloseBrace) ∷ token 35 36 (Mark CloseBrace) ∷ []) in
    reads_nothing (codes "class A{/**/void m(){if(a)int b=1;}}") items (lexes (codes "class A{/**/void m(){if(a)int b=1;}}") items refl refl refl) refl
