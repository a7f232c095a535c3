-- Marks that are counted from the parents: what they tell, read downwards from the root, are the spans of the tokens.
use Rattle.std.proofs.Common.{ℕ, ◌+◌, List, [], ◌∷◌, refl, arith}
use Rattle.std.specs.Prelude.{codes}
use Rattle.jr_text.specs.declared.spans.Span.{Span}
use Rattle.jr_text.specs.declared.marks.Widths.{Widths}
use Rattle.jr_lex.specs.declared.items.Item.{Item}
use Rattle.jr_lex.specs.declared.items.ItemKind.TheVariants.{Token as TokenItem, Blank}
use Rattle.jr_lex.specs.declared.items.TokenKind.TheVariants.{Word as WordKind, Mark}
use Rattle.jr_lex.specs.declared.items.Symbol.TheVariants.{Plus as PlusSign, Star}
use Rattle.jr_lex.specs.Characters.{is_word_start, is_word_part}
use Rattle.jr_lex.specs.Scan.{scan, extended, keyword_of}
use Rattle.unicode_ident.proofs.Computing.{unicode_ident}
use Rattle.jr_ast.specs.declared.operators.BinOp.TheVariants.{Add, Mul}
use Rattle.jr_ast.specs.Tree.{Exp, name, binary}
use Rattle.jr_grammar.specs.Tokens.{placed_of}
use Rattle.jr_grammar.specs.ExpressionLayout.{exp_layout}
use Rattle.jr_grammar.specs.Reads.{ReadsExpressionWithSpans}
use Rattle.jr_grammar.proofs.Layouts.{lay_stands}
use Rattle.jr_grammar.proofs.Cases.Scanned.{lexes}

-- as `Widths` tells its span
abbrev told : Widths → ℕ → Span
told w base = record { from = base + w.before; to = base + w.before + w.len }

abbrev wide : ℕ → ℕ → Widths
wide before len = record { before = before; len = len }

abbrev variable : ℕ → ℕ → List ℕ → Exp Widths
variable before len text = name (wide before len) (record { mark = wide 0 len; text = text })

abbrev at : ℕ → ℕ → Span
at a b = record { from = a; to = b }

-- · ab + c*d·
abbrev items_of_sum : List Item
items_of_sum =
    record { kind = Blank; span = at 0 1 } ∷ record { kind = TokenItem WordKind; span = at 1 3 } ∷ record { kind = Blank; span = at 3 4 } ∷ record { kind = TokenItem (Mark PlusSign); span = at 4 5 } ∷ record { kind = Blank; span = at 5 6 }
    ∷ record { kind = TokenItem WordKind; span = at 6 7 } ∷ record { kind = TokenItem (Mark Star); span = at 7 8 } ∷ record { kind = TokenItem WordKind; span = at 8 9 } ∷ record { kind = Blank; span = at 9 10 } ∷ []

-- the sum begins at 1, the product 5 bytes behind it, and d 2 bytes behind the product's beginning
abbrev tree_of_sum : Exp Widths
tree_of_sum = binary (wide 1 8) Add (variable 0 2 (codes "ab")) (binary (wide 5 3) Mul (variable 0 1 (codes "c")) (variable 2 1 (codes "d")))

sum : ReadsExpressionWithSpans told (codes " ab + c*d ") tree_of_sum
unfolding scan extended keyword_of is_word_start is_word_part unicode_ident
sum =
    record {
      items = items_of_sum;
      lexes = lexes (codes " ab + c*d ") items_of_sum refl refl refl;
      is = record { shaped = grind arith; spells = refl };
      spans = lay_stands (exp_layout tree_of_sum) (placed_of (codes " ab + c*d ") items_of_sum) refl;
    }
