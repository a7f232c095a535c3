-- Places: each mark is the span of its node's tokens, and a unit's is the whole file. The marks are those that javac's parser gives
-- the nodes; of a name and of a modifier, for which it has none, they are where the word stands.
-- In a case's comment `·` stands for the ends of a text that begins or ends with a blank.
use Rattle.std.proofs.Common.{ℕ, List, [], ◌∷◌, Some, None, true, false, refl, ap, arith, length}
use Rattle.std.specs.Prelude.{codes}
use Rattle.jr_text.specs.declared.spans.Span.{Span}
use Rattle.jr_lex.specs.declared.items.Item.{Item}
use Rattle.jr_lex.specs.declared.items.ItemKind.TheVariants.{Token as TokenItem, Blank, Comment}
use Rattle.jr_lex.specs.declared.items.TokenKind.{TokenKind}
use Rattle.jr_lex.specs.declared.items.TokenKind.TheVariants.{Word as WordKind, Keyword as KeywordKind, Int as IntKind, Mark}
use Rattle.jr_lex.specs.declared.items.Keyword.TheVariants.{Boolean, Class, Else, Extends, Final, If, Int, New, Package, Private, Public, Return, Static, Super, Synchronized, This, Void, While}
use Rattle.jr_lex.specs.declared.items.Symbol.TheVariants.{CloseBrace, CloseParen, Comma, Dot, Equals, Less, Minus as MinusSign, OpenBrace, OpenParen, PlusPlus, Plus as PlusSign, Semicolon}
use Rattle.jr_ast.specs.declared.operators.UnOp.TheVariants.{Minus}
use Rattle.jr_ast.specs.declared.operators.BinOp.TheVariants.{Lt, Add, Sub}
use Rattle.jr_ast.specs.declared.operators.BumpOp.TheVariants.{PostInc}
use Rattle.jr_ast.specs.declared.operators.ModWord.TheVariants.{Public as PublicWord, Private as PrivateWord, Static as StaticWord}
use Rattle.jr_ast.specs.Tree.{int, boolean, named, number, name, field, this, call, create, unary, bump, binary, assign, no_target, end, more}
use Rattle.jr_ast.specs.StatementTree as S
use Rattle.jr_ast.specs.MemberTree as M
use Rattle.jr_ast.specs.MemberTree.{Unit as UnitTree}
use Rattle.jr_grammar.specs.Tokens.{Token, word, keyword, integer, symbol, Placed, placed_of}
use Rattle.jr_grammar.specs.Stands.{Tokens, Stands}
use Rattle.jr_grammar.specs.Units.{IsMarkedUnit, IsMarkedMember}
use Rattle.jr_grammar.specs.StatementLayout.{stmt_layout}
use Rattle.jr_grammar.specs.MemberLayout.{member_layout, unit_layouts}
use Rattle.jr_grammar.specs.Layout.{itself}
use Rattle.jr_grammar.specs.Reads.{ReadsWithSpans}
use Rattle.jr_grammar.proofs.Layouts.{lay_stands, lay_stand}
use Rattle.jr_grammar.proofs.Cases.Scanned.{lexes}
use Rattle.jr_lex.specs.Characters.{is_word_start, is_word_part}
use Rattle.jr_lex.specs.Scan.{scan, extended, keyword_of}
use Rattle.unicode_ident.proofs.Computing.{unicode_ident}

-- ---- short names

abbrev at : ℕ → ℕ → Span
at a b = record { from = a; to = b }

abbrev put : ℕ → ℕ → Token → Placed Span
put a b t = record { mark = at a b; token = t }

abbrev tk : ℕ → ℕ → TokenKind → Item
tk a b k = record { kind = TokenItem k; span = at a b }

abbrev blank : ℕ → ℕ → Item
blank a b = record { kind = Blank; span = at a b }

abbrev comment : ℕ → ℕ → Item
comment a b = record { kind = Comment; span = at a b }

-- ---- package and constructor

-- · package a . b; class A extends B { static class C { int d = 1; } A(int e) { super(e); final int f = e + 1; d = f; } } ·
abbrev tokens_of_package_and_constructor : Tokens
tokens_of_package_and_constructor = put 1 8 (keyword Package) ∷ put 9 10 (word (codes "a")) ∷ put 11 12 (symbol Dot) ∷ put 13 14 (word (codes "b")) ∷ put 14 15 (symbol Semicolon) ∷ put 16 21 (keyword Class) ∷ put 22 23 (word (codes "A")) ∷ put 24 31 (keyword Extends) ∷ put 32 33 (word (codes "B")) ∷ put 34 35 (symbol OpenBrace) ∷ put 36 42 (keyword Static) ∷ put 43 48 (keyword Class) ∷ put 49 50 (word (codes "C")) ∷ put 51 52 (symbol OpenBrace) ∷ put 53 56 (keyword Int) ∷ put 57 58 (word (codes "d")) ∷ put 59 60 (symbol Equals) ∷ put 61 62 (integer 1) ∷ put 62 63 (symbol Semicolon) ∷ put 64 65 (symbol CloseBrace) ∷ put 66 67 (word (codes "A")) ∷ put 67 68 (symbol OpenParen) ∷ put 68 71 (keyword Int) ∷ put 72 73 (word (codes "e")) ∷ put 73 74 (symbol CloseParen) ∷ put 75 76 (symbol OpenBrace) ∷ put 77 82 (keyword Super) ∷ put 82 83 (symbol OpenParen) ∷ put 83 84 (word (codes "e")) ∷ put 84 85 (symbol CloseParen) ∷ put 85 86 (symbol Semicolon) ∷ put 87 92 (keyword Final) ∷ put 93 96 (keyword Int) ∷ put 97 98 (word (codes "f")) ∷ put 99 100 (symbol Equals) ∷ put 101 102 (word (codes "e")) ∷ put 103 104 (symbol PlusSign) ∷ put 105 106 (integer 1) ∷ put 106 107 (symbol Semicolon) ∷ put 108 109 (word (codes "d")) ∷ put 110 111 (symbol Equals) ∷ put 112 113 (word (codes "f")) ∷ put 113 114 (symbol Semicolon) ∷ put 115 116 (symbol CloseBrace) ∷ put 117 118 (symbol CloseBrace) ∷ []

abbrev tree_of_package_and_constructor : UnitTree Span
tree_of_package_and_constructor = (record { mark = at 0 119; package_name = (record { mark = (at 9 10); text = codes "a" }) ∷ (record { mark = (at 13 14); text = codes "b" }) ∷ []; classes = (M.class (at 16 118) [] (record { mark = (at 22 23); text = codes "A" }) (Some (named (at 32 33) None (record { mark = (at 32 33); text = codes "B" }))) (M.more (M.inner (at 36 65) (M.class (at 36 65) ((record { mark = (at 36 42); word = StaticWord }) ∷ []) (record { mark = (at 49 50); text = codes "C" }) None (M.more (M.field (at 53 63) [] (int (at 53 56)) (record { mark = (at 57 58); text = codes "d" }) (Some (number (at 61 62) 1))) M.end))) (M.more (M.constructor (at 66 116) [] (record { mark = (at 66 67); text = codes "A" }) ((record { mark = (at 68 73); is_final = false; type = (int (at 68 71)); name = (record { mark = (at 72 73); text = codes "e" }) }) ∷ []) (Some (more (name (at 83 84) (record { mark = (at 83 84); text = codes "e" })) end)) (S.more (S.local (at 87 107) true (int (at 93 96)) (record { mark = (at 97 98); text = codes "f" }) (binary (at 101 106) Add (name (at 101 102) (record { mark = (at 101 102); text = codes "e" })) (number (at 105 106) 1))) (S.more (S.eval (at 108 114) (assign (at 108 113) (name (at 108 109) (record { mark = (at 108 109); text = codes "d" })) (name (at 112 113) (record { mark = (at 112 113); text = codes "f" })))) S.end))) M.end))) ∷ [] })

abbrev items_of_package_and_constructor : List Item
items_of_package_and_constructor = blank 0 1 ∷ tk 1 8 (KeywordKind Package) ∷ blank 8 9 ∷ tk 9 10 WordKind ∷ blank 10 11 ∷ tk 11 12 (Mark Dot) ∷ blank 12 13 ∷ tk 13 14 WordKind ∷ tk 14 15 (Mark Semicolon) ∷ blank 15 16 ∷ tk 16 21 (KeywordKind Class) ∷ blank 21 22 ∷ tk 22 23 WordKind ∷ blank 23 24 ∷ tk 24 31 (KeywordKind Extends) ∷ blank 31 32 ∷ tk 32 33 WordKind ∷ blank 33 34 ∷ tk 34 35 (Mark OpenBrace) ∷ blank 35 36 ∷ tk 36 42 (KeywordKind Static) ∷ blank 42 43 ∷ tk 43 48 (KeywordKind Class) ∷ blank 48 49 ∷ tk 49 50 WordKind ∷ blank 50 51 ∷ tk 51 52 (Mark OpenBrace) ∷ blank 52 53 ∷ tk 53 56 (KeywordKind Int) ∷ blank 56 57 ∷ tk 57 58 WordKind ∷ blank 58 59 ∷ tk 59 60 (Mark Equals) ∷ blank 60 61 ∷ tk 61 62 (IntKind 1) ∷ tk 62 63 (Mark Semicolon) ∷ blank 63 64 ∷ tk 64 65 (Mark CloseBrace) ∷ blank 65 66 ∷ tk 66 67 WordKind ∷ tk 67 68 (Mark OpenParen) ∷ tk 68 71 (KeywordKind Int) ∷ blank 71 72 ∷ tk 72 73 WordKind ∷ tk 73 74 (Mark CloseParen) ∷ blank 74 75 ∷ tk 75 76 (Mark OpenBrace) ∷ blank 76 77 ∷ tk 77 82 (KeywordKind Super) ∷ tk 82 83 (Mark OpenParen) ∷ tk 83 84 WordKind ∷ tk 84 85 (Mark CloseParen) ∷ tk 85 86 (Mark Semicolon) ∷ blank 86 87 ∷ tk 87 92 (KeywordKind Final) ∷ blank 92 93 ∷ tk 93 96 (KeywordKind Int) ∷ blank 96 97 ∷ tk 97 98 WordKind ∷ blank 98 99 ∷ tk 99 100 (Mark Equals) ∷ blank 100 101 ∷ tk 101 102 WordKind ∷ blank 102 103 ∷ tk 103 104 (Mark PlusSign) ∷ blank 104 105 ∷ tk 105 106 (IntKind 1) ∷ tk 106 107 (Mark Semicolon) ∷ blank 107 108 ∷ tk 108 109 WordKind ∷ blank 109 110 ∷ tk 110 111 (Mark Equals) ∷ blank 111 112 ∷ tk 112 113 WordKind ∷ tk 113 114 (Mark Semicolon) ∷ blank 114 115 ∷ tk 115 116 (Mark CloseBrace) ∷ blank 116 117 ∷ tk 117 118 (Mark CloseBrace) ∷ blank 118 119 ∷ []

package_and_constructor : IsMarkedUnit (length (codes " package a . b; class A extends B { static class C { int d = 1; } A(int e) { super(e); final int f = e + 1; d = f; } } ")) (placed_of (codes " package a . b; class A extends B { static class C { int d = 1; } A(int e) { super(e); final int f = e + 1; d = f; } } ") items_of_package_and_constructor) tree_of_package_and_constructor
package_and_constructor = record { shaped = grind arith; spells = refl; marks = lay_stand (unit_layouts tree_of_package_and_constructor) tokens_of_package_and_constructor refl; file = refl }

package_and_constructor_read : ReadsWithSpans itself (codes " package a . b; class A extends B { static class C { int d = 1; } A(int e) { super(e); final int f = e + 1; d = f; } } ") tree_of_package_and_constructor
unfolding scan extended keyword_of is_word_start is_word_part unicode_ident
package_and_constructor_read =
    record {
      items = items_of_package_and_constructor;
      lexes = lexes (codes " package a . b; class A extends B { static class C { int d = 1; } A(int e) { super(e); final int f = e + 1; d = f; } } ") items_of_package_and_constructor refl refl refl;
      is = record { shaped = package_and_constructor.shaped; spells = package_and_constructor.spells };
      spans = package_and_constructor.marks;
      file = refl;
    }

-- ---- comments and bodies

-- ·  /* two */ class A { private boolean a; public static A m(final B.C b, int c) { if (a) return this; else while (c < 1) c++; { } synchronized (b) { n(b, c); ; } return new A(); } void n() { return; } }  public class B { } // end·
abbrev tokens_of_comments_and_bodies : Tokens
tokens_of_comments_and_bodies = put 12 17 (keyword Class) ∷ put 18 19 (word (codes "A")) ∷ put 20 21 (symbol OpenBrace) ∷ put 22 29 (keyword Private) ∷ put 30 37 (keyword Boolean) ∷ put 38 39 (word (codes "a")) ∷ put 39 40 (symbol Semicolon) ∷ put 41 47 (keyword Public) ∷ put 48 54 (keyword Static) ∷ put 55 56 (word (codes "A")) ∷ put 57 58 (word (codes "m")) ∷ put 58 59 (symbol OpenParen) ∷ put 59 64 (keyword Final) ∷ put 65 66 (word (codes "B")) ∷ put 66 67 (symbol Dot) ∷ put 67 68 (word (codes "C")) ∷ put 69 70 (word (codes "b")) ∷ put 70 71 (symbol Comma) ∷ put 72 75 (keyword Int) ∷ put 76 77 (word (codes "c")) ∷ put 77 78 (symbol CloseParen) ∷ put 79 80 (symbol OpenBrace) ∷ put 81 83 (keyword If) ∷ put 84 85 (symbol OpenParen) ∷ put 85 86 (word (codes "a")) ∷ put 86 87 (symbol CloseParen) ∷ put 88 94 (keyword Return) ∷ put 95 99 (keyword This) ∷ put 99 100 (symbol Semicolon) ∷ put 101 105 (keyword Else) ∷ put 106 111 (keyword While) ∷ put 112 113 (symbol OpenParen) ∷ put 113 114 (word (codes "c")) ∷ put 115 116 (symbol Less) ∷ put 117 118 (integer 1) ∷ put 118 119 (symbol CloseParen) ∷ put 120 121 (word (codes "c")) ∷ put 121 123 (symbol PlusPlus) ∷ put 123 124 (symbol Semicolon) ∷ put 125 126 (symbol OpenBrace) ∷ put 127 128 (symbol CloseBrace) ∷ put 129 141 (keyword Synchronized) ∷ put 142 143 (symbol OpenParen) ∷ put 143 144 (word (codes "b")) ∷ put 144 145 (symbol CloseParen) ∷ put 146 147 (symbol OpenBrace) ∷ put 148 149 (word (codes "n")) ∷ put 149 150 (symbol OpenParen) ∷ put 150 151 (word (codes "b")) ∷ put 151 152 (symbol Comma) ∷ put 153 154 (word (codes "c")) ∷ put 154 155 (symbol CloseParen) ∷ put 155 156 (symbol Semicolon) ∷ put 157 158 (symbol Semicolon) ∷ put 159 160 (symbol CloseBrace) ∷ put 161 167 (keyword Return) ∷ put 168 171 (keyword New) ∷ put 172 173 (word (codes "A")) ∷ put 173 174 (symbol OpenParen) ∷ put 174 175 (symbol CloseParen) ∷ put 175 176 (symbol Semicolon) ∷ put 177 178 (symbol CloseBrace) ∷ put 179 183 (keyword Void) ∷ put 184 185 (word (codes "n")) ∷ put 185 186 (symbol OpenParen) ∷ put 186 187 (symbol CloseParen) ∷ put 188 189 (symbol OpenBrace) ∷ put 190 196 (keyword Return) ∷ put 196 197 (symbol Semicolon) ∷ put 198 199 (symbol CloseBrace) ∷ put 200 201 (symbol CloseBrace) ∷ put 203 209 (keyword Public) ∷ put 210 215 (keyword Class) ∷ put 216 217 (word (codes "B")) ∷ put 218 219 (symbol OpenBrace) ∷ put 220 221 (symbol CloseBrace) ∷ []

abbrev tree_of_comments_and_bodies : UnitTree Span
tree_of_comments_and_bodies = (record { mark = at 0 228; package_name = []; classes = (M.class (at 12 201) [] (record { mark = (at 18 19); text = codes "A" }) None (M.more (M.field (at 22 40) ((record { mark = (at 22 29); word = PrivateWord }) ∷ []) (boolean (at 30 37)) (record { mark = (at 38 39); text = codes "a" }) None) (M.more (M.method (at 41 178) ((record { mark = (at 41 47); word = PublicWord }) ∷ (record { mark = (at 48 54); word = StaticWord }) ∷ []) (Some (named (at 55 56) None (record { mark = (at 55 56); text = codes "A" }))) (record { mark = (at 57 58); text = codes "m" }) ((record { mark = (at 59 70); is_final = true; type = (named (at 65 68) (Some (record { mark = (at 65 66); text = codes "B" })) (record { mark = (at 67 68); text = codes "C" })); name = (record { mark = (at 69 70); text = codes "b" }) }) ∷ (record { mark = (at 72 77); is_final = false; type = (int (at 72 75)); name = (record { mark = (at 76 77); text = codes "c" }) }) ∷ []) (S.more (S.branch (at 81 124) (name (at 85 86) (record { mark = (at 85 86); text = codes "a" })) (S.return (at 88 100) (Some (this (at 95 99)))) (S.otherwise (S.loop (at 106 124) (binary (at 113 118) Lt (name (at 113 114) (record { mark = (at 113 114); text = codes "c" })) (number (at 117 118) 1)) (S.eval (at 120 124) (bump (at 120 123) PostInc (name (at 120 121) (record { mark = (at 120 121); text = codes "c" }))))))) (S.more (S.block (at 125 128) S.end) (S.more (S.sync (at 129 160) (name (at 143 144) (record { mark = (at 143 144); text = codes "b" })) (S.more (S.eval (at 148 156) (call (at 148 155) no_target (record { mark = (at 148 149); text = codes "n" }) (more (name (at 150 151) (record { mark = (at 150 151); text = codes "b" })) (more (name (at 153 154) (record { mark = (at 153 154); text = codes "c" })) end)))) (S.more (S.empty (at 157 158)) S.end))) (S.more (S.return (at 161 176) (Some (create (at 168 175) (named (at 172 173) None (record { mark = (at 172 173); text = codes "A" })) end))) S.end))))) (M.more (M.method (at 179 199) [] None (record { mark = (at 184 185); text = codes "n" }) ([]) (S.more (S.return (at 190 197) None) S.end)) M.end)))) ∷ (M.class (at 203 221) ((record { mark = (at 203 209); word = PublicWord }) ∷ []) (record { mark = (at 216 217); text = codes "B" }) None M.end) ∷ [] })

abbrev items_of_comments_and_bodies : List Item
items_of_comments_and_bodies = blank 0 2 ∷ comment 2 11 ∷ blank 11 12 ∷ tk 12 17 (KeywordKind Class) ∷ blank 17 18 ∷ tk 18 19 WordKind ∷ blank 19 20 ∷ tk 20 21 (Mark OpenBrace) ∷ blank 21 22 ∷ tk 22 29 (KeywordKind Private) ∷ blank 29 30 ∷ tk 30 37 (KeywordKind Boolean) ∷ blank 37 38 ∷ tk 38 39 WordKind ∷ tk 39 40 (Mark Semicolon) ∷ blank 40 41 ∷ tk 41 47 (KeywordKind Public) ∷ blank 47 48 ∷ tk 48 54 (KeywordKind Static) ∷ blank 54 55 ∷ tk 55 56 WordKind ∷ blank 56 57 ∷ tk 57 58 WordKind ∷ tk 58 59 (Mark OpenParen) ∷ tk 59 64 (KeywordKind Final) ∷ blank 64 65 ∷ tk 65 66 WordKind ∷ tk 66 67 (Mark Dot) ∷ tk 67 68 WordKind ∷ blank 68 69 ∷ tk 69 70 WordKind ∷ tk 70 71 (Mark Comma) ∷ blank 71 72 ∷ tk 72 75 (KeywordKind Int) ∷ blank 75 76 ∷ tk 76 77 WordKind ∷ tk 77 78 (Mark CloseParen) ∷ blank 78 79 ∷ tk 79 80 (Mark OpenBrace) ∷ blank 80 81 ∷ tk 81 83 (KeywordKind If) ∷ blank 83 84 ∷ tk 84 85 (Mark OpenParen) ∷ tk 85 86 WordKind ∷ tk 86 87 (Mark CloseParen) ∷ blank 87 88 ∷ tk 88 94 (KeywordKind Return) ∷ blank 94 95 ∷ tk 95 99 (KeywordKind This) ∷ tk 99 100 (Mark Semicolon) ∷ blank 100 101 ∷ tk 101 105 (KeywordKind Else) ∷ blank 105 106 ∷ tk 106 111 (KeywordKind While) ∷ blank 111 112 ∷ tk 112 113 (Mark OpenParen) ∷ tk 113 114 WordKind ∷ blank 114 115 ∷ tk 115 116 (Mark Less) ∷ blank 116 117 ∷ tk 117 118 (IntKind 1) ∷ tk 118 119 (Mark CloseParen) ∷ blank 119 120 ∷ tk 120 121 WordKind ∷ tk 121 123 (Mark PlusPlus) ∷ tk 123 124 (Mark Semicolon) ∷ blank 124 125 ∷ tk 125 126 (Mark OpenBrace) ∷ blank 126 127 ∷ tk 127 128 (Mark CloseBrace) ∷ blank 128 129 ∷ tk 129 141 (KeywordKind Synchronized) ∷ blank 141 142 ∷ tk 142 143 (Mark OpenParen) ∷ tk 143 144 WordKind ∷ tk 144 145 (Mark CloseParen) ∷ blank 145 146 ∷ tk 146 147 (Mark OpenBrace) ∷ blank 147 148 ∷ tk 148 149 WordKind ∷ tk 149 150 (Mark OpenParen) ∷ tk 150 151 WordKind ∷ tk 151 152 (Mark Comma) ∷ blank 152 153 ∷ tk 153 154 WordKind ∷ tk 154 155 (Mark CloseParen) ∷ tk 155 156 (Mark Semicolon) ∷ blank 156 157 ∷ tk 157 158 (Mark Semicolon) ∷ blank 158 159 ∷ tk 159 160 (Mark CloseBrace) ∷ blank 160 161 ∷ tk 161 167 (KeywordKind Return) ∷ blank 167 168 ∷ tk 168 171 (KeywordKind New) ∷ blank 171 172 ∷ tk 172 173 WordKind ∷ tk 173 174 (Mark OpenParen) ∷ tk 174 175 (Mark CloseParen) ∷ tk 175 176 (Mark Semicolon) ∷ blank 176 177 ∷ tk 177 178 (Mark CloseBrace) ∷ blank 178 179 ∷ tk 179 183 (KeywordKind Void) ∷ blank 183 184 ∷ tk 184 185 WordKind ∷ tk 185 186 (Mark OpenParen) ∷ tk 186 187 (Mark CloseParen) ∷ blank 187 188 ∷ tk 188 189 (Mark OpenBrace) ∷ blank 189 190 ∷ tk 190 196 (KeywordKind Return) ∷ tk 196 197 (Mark Semicolon) ∷ blank 197 198 ∷ tk 198 199 (Mark CloseBrace) ∷ blank 199 200 ∷ tk 200 201 (Mark CloseBrace) ∷ blank 201 203 ∷ tk 203 209 (KeywordKind Public) ∷ blank 209 210 ∷ tk 210 215 (KeywordKind Class) ∷ blank 215 216 ∷ tk 216 217 WordKind ∷ blank 217 218 ∷ tk 218 219 (Mark OpenBrace) ∷ blank 219 220 ∷ tk 220 221 (Mark CloseBrace) ∷ blank 221 222 ∷ comment 222 228 ∷ []

comments_and_bodies : IsMarkedUnit (length (codes "  /* two */ class A { private boolean a; public static A m(final B.C b, int c) { if (a) return this; else while (c < 1) c++; { } synchronized (b) { n(b, c); ; } return new A(); } void n() { return; } }  public class B { } // end")) (placed_of (codes "  /* two */ class A { private boolean a; public static A m(final B.C b, int c) { if (a) return this; else while (c < 1) c++; { } synchronized (b) { n(b, c); ; } return new A(); } void n() { return; } }  public class B { } // end") items_of_comments_and_bodies) tree_of_comments_and_bodies
comments_and_bodies = record { shaped = grind arith; spells = refl; marks = lay_stand (unit_layouts tree_of_comments_and_bodies) tokens_of_comments_and_bodies refl; file = refl }

comments_and_bodies_read : ReadsWithSpans itself (codes "  /* two */ class A { private boolean a; public static A m(final B.C b, int c) { if (a) return this; else while (c < 1) c++; { } synchronized (b) { n(b, c); ; } return new A(); } void n() { return; } }  public class B { } // end") tree_of_comments_and_bodies
unfolding scan extended keyword_of is_word_start is_word_part unicode_ident
comments_and_bodies_read =
    record {
      items = items_of_comments_and_bodies;
      lexes = lexes (codes "  /* two */ class A { private boolean a; public static A m(final B.C b, int c) { if (a) return this; else while (c < 1) c++; { } synchronized (b) { n(b, c); ; } return new A(); } void n() { return; } }  public class B { } // end") items_of_comments_and_bodies refl refl refl;
      is = record { shaped = comments_and_bodies.shaped; spells = comments_and_bodies.spells };
      spans = comments_and_bodies.marks;
      file = refl;
    }

-- ---- constructor of member class

-- public C(A.B a) { super(a, 2); return; }
abbrev tokens_of_constructor_of_member_class : Tokens
tokens_of_constructor_of_member_class = put 0 6 (keyword Public) ∷ put 7 8 (word (codes "C")) ∷ put 8 9 (symbol OpenParen) ∷ put 9 10 (word (codes "A")) ∷ put 10 11 (symbol Dot) ∷ put 11 12 (word (codes "B")) ∷ put 13 14 (word (codes "a")) ∷ put 14 15 (symbol CloseParen) ∷ put 16 17 (symbol OpenBrace) ∷ put 18 23 (keyword Super) ∷ put 23 24 (symbol OpenParen) ∷ put 24 25 (word (codes "a")) ∷ put 25 26 (symbol Comma) ∷ put 27 28 (integer 2) ∷ put 28 29 (symbol CloseParen) ∷ put 29 30 (symbol Semicolon) ∷ put 31 37 (keyword Return) ∷ put 37 38 (symbol Semicolon) ∷ put 39 40 (symbol CloseBrace) ∷ []

abbrev tree_of_constructor_of_member_class : M.Member Span
tree_of_constructor_of_member_class = (M.constructor (at 0 40) ((record { mark = (at 0 6); word = PublicWord }) ∷ []) (record { mark = (at 7 8); text = codes "C" }) ((record { mark = (at 9 14); is_final = false; type = (named (at 9 12) (Some (record { mark = (at 9 10); text = codes "A" })) (record { mark = (at 11 12); text = codes "B" })); name = (record { mark = (at 13 14); text = codes "a" }) }) ∷ []) (Some (more (name (at 24 25) (record { mark = (at 24 25); text = codes "a" })) (more (number (at 27 28) 2) end))) (S.more (S.return (at 31 38) None) S.end))

constructor_of_member_class : IsMarkedMember true (codes "C") tokens_of_constructor_of_member_class tree_of_constructor_of_member_class
constructor_of_member_class = record { shaped = grind arith; spells = refl; marks = lay_stands (member_layout tree_of_constructor_of_member_class) tokens_of_constructor_of_member_class refl }

-- ---- final local within

-- if (a) { final A.B b = c; } else m();
abbrev tokens_of_final_local_within : Tokens
tokens_of_final_local_within = put 0 2 (keyword If) ∷ put 3 4 (symbol OpenParen) ∷ put 4 5 (word (codes "a")) ∷ put 5 6 (symbol CloseParen) ∷ put 7 8 (symbol OpenBrace) ∷ put 9 14 (keyword Final) ∷ put 15 16 (word (codes "A")) ∷ put 16 17 (symbol Dot) ∷ put 17 18 (word (codes "B")) ∷ put 19 20 (word (codes "b")) ∷ put 21 22 (symbol Equals) ∷ put 23 24 (word (codes "c")) ∷ put 24 25 (symbol Semicolon) ∷ put 26 27 (symbol CloseBrace) ∷ put 28 32 (keyword Else) ∷ put 33 34 (word (codes "m")) ∷ put 34 35 (symbol OpenParen) ∷ put 35 36 (symbol CloseParen) ∷ put 36 37 (symbol Semicolon) ∷ []

abbrev tree_of_final_local_within : S.Stmt Span
tree_of_final_local_within = (S.branch (at 0 37) (name (at 4 5) (record { mark = (at 4 5); text = codes "a" })) (S.block (at 7 27) (S.more (S.local (at 9 25) true (named (at 15 18) (Some (record { mark = (at 15 16); text = codes "A" })) (record { mark = (at 17 18); text = codes "B" })) (record { mark = (at 19 20); text = codes "b" }) (name (at 23 24) (record { mark = (at 23 24); text = codes "c" }))) S.end)) (S.otherwise (S.eval (at 33 37) (call (at 33 36) no_target (record { mark = (at 33 34); text = codes "m" }) end))))

final_local_within : Stands (stmt_layout tree_of_final_local_within) tokens_of_final_local_within
final_local_within = lay_stands (stmt_layout tree_of_final_local_within) tokens_of_final_local_within refl

-- ---- method without parameters

-- void m() { }
abbrev tokens_of_method_without_parameters : Tokens
tokens_of_method_without_parameters = put 0 4 (keyword Void) ∷ put 5 6 (word (codes "m")) ∷ put 6 7 (symbol OpenParen) ∷ put 7 8 (symbol CloseParen) ∷ put 9 10 (symbol OpenBrace) ∷ put 11 12 (symbol CloseBrace) ∷ []

abbrev tree_of_method_without_parameters : M.Member Span
tree_of_method_without_parameters = (M.method (at 0 12) [] None (record { mark = (at 5 6); text = codes "m" }) ([]) S.end)

method_without_parameters : IsMarkedMember true (codes "C") tokens_of_method_without_parameters tree_of_method_without_parameters
method_without_parameters = record { shaped = grind arith; spells = refl; marks = lay_stands (member_layout tree_of_method_without_parameters) tokens_of_method_without_parameters refl }

-- ---- member class

-- class D { }
abbrev tokens_of_member_class : Tokens
tokens_of_member_class = put 0 5 (keyword Class) ∷ put 6 7 (word (codes "D")) ∷ put 8 9 (symbol OpenBrace) ∷ put 10 11 (symbol CloseBrace) ∷ []

abbrev tree_of_member_class : M.Member Span
tree_of_member_class = (M.inner (at 0 11) (M.class (at 0 11) [] (record { mark = (at 6 7); text = codes "D" }) None M.end))

member_class : IsMarkedMember false (codes "C") tokens_of_member_class tree_of_member_class
member_class = record { shaped = grind arith; spells = refl; marks = lay_stands (member_layout tree_of_member_class) tokens_of_member_class refl }

-- ---- field with difference

-- private int a = b.c - -d;
abbrev tokens_of_field_with_difference : Tokens
tokens_of_field_with_difference = put 0 7 (keyword Private) ∷ put 8 11 (keyword Int) ∷ put 12 13 (word (codes "a")) ∷ put 14 15 (symbol Equals) ∷ put 16 17 (word (codes "b")) ∷ put 17 18 (symbol Dot) ∷ put 18 19 (word (codes "c")) ∷ put 20 21 (symbol MinusSign) ∷ put 22 23 (symbol MinusSign) ∷ put 23 24 (word (codes "d")) ∷ put 24 25 (symbol Semicolon) ∷ []

abbrev tree_of_field_with_difference : M.Member Span
tree_of_field_with_difference = (M.field (at 0 25) ((record { mark = (at 0 7); word = PrivateWord }) ∷ []) (int (at 8 11)) (record { mark = (at 12 13); text = codes "a" }) (Some (binary (at 16 24) Sub (field (at 16 19) (name (at 16 17) (record { mark = (at 16 17); text = codes "b" })) (record { mark = (at 18 19); text = codes "c" })) (unary (at 22 24) Minus (name (at 23 24) (record { mark = (at 23 24); text = codes "d" }))))))

field_with_difference : IsMarkedMember false (codes "C") tokens_of_field_with_difference tree_of_field_with_difference
field_with_difference = record { shaped = grind arith; spells = refl; marks = lay_stands (member_layout tree_of_field_with_difference) tokens_of_field_with_difference refl }

-- a member class holds no class; javac takes it
member_class_within_another : IsMarkedMember true (codes "C") tokens_of_member_class tree_of_member_class → ⊥
member_class_within_another h = h.shaped.0

-- ---- wrong places

abbrev end_of : Span → ℕ
end_of s = s.to

-- ·; ·
statement_of_a_blank : Stands (stmt_layout (S.empty (at 0 2))) (put 0 1 (symbol Semicolon) ∷ []) → ⊥
statement_of_a_blank h = omega (arith, ap end_of h.mark)

-- a++;
-- a statement ends with its semicolon
statement_without_its_semicolon : Stands (stmt_layout (S.eval (at 0 3) (bump (at 0 3) PostInc (name (at 0 1) (record { mark = at 0 1; text = codes "a" }))))) (put 0 1 (word (codes "a")) ∷ put 1 3 (symbol PlusPlus) ∷ put 3 4 (symbol Semicolon) ∷ []) → ⊥
statement_without_its_semicolon h = omega (arith, ap end_of h.mark)

-- · class A{} ·
-- a unit is the whole file, and not from its first token to its last
unit_without_its_blanks : IsMarkedUnit (length (codes " class A{} ")) (placed_of (codes " class A{} ") (blank 0 1 ∷ tk 1 6 (KeywordKind Class) ∷ blank 6 7 ∷ tk 7 8 WordKind ∷ tk 8 9 (Mark OpenBrace) ∷ tk 9 10 (Mark CloseBrace) ∷ blank 10 11 ∷ [])) (record { mark = at 1 10; package_name = []; classes = (M.class (at 1 10) [] (record { mark = at 7 8; text = codes "A" }) None M.end) ∷ [] }) → ⊥
unit_without_its_blanks h = omega (arith, ap end_of h.file)
