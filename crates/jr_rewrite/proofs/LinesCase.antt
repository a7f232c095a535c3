-- A declaration goes with its line: the places that are asked for, in a small text.
use Rattle.std.proofs.Common.{◌≡◌, ℕ, List, [], ◌∷◌, ◌++◌, take, false, refl, inr, arith}
use Rattle.std.specs.Prelude.{codes}
use Rattle.jr_text.specs.declared.spans.Span.{Span}
use Rattle.jr_text.specs.Splices.{splice}
use Rattle.jr_lex.specs.declared.items.Keyword.TheVariants.{Int}
use Rattle.jr_lex.specs.declared.items.Symbol.TheVariants.{Semicolon}
use Rattle.jr_grammar.specs.Tokens.{keyword, symbol}
use Rattle.jr_grammar.specs.Stands.{Tokens}
use Rattle.jr_rewrite.specs.Rewritten.{change}
use Rattle.jr_rewrite.specs.Edited.{entries_of}
use Rattle.jr_rewrite.specs.Woven.{ends_in, is_indent}
use Rattle.jr_rewrite.proofs.WholeLines.{AreLines}

abbrev span : ℕ → ℕ → Span
span from to = record { from = from; to = to }

-- a block of two lines
abbrev block : List ℕ
block = codes "{" ++ 10 ∷ codes "  int t=1;" ++ 10 ∷ codes "  x();" ++ 10 ∷ codes "}"

-- the first and the last token of the declaration
abbrev declaration : Tokens
declaration = record { mark = span 4 7; token = keyword Int } ∷ record { mark = span 11 12; token = symbol Semicolon } ∷ []

pub its_line : AreLines block declaration (span 2 13)
its_line = record { begins = omega arith; ends = omega arith; within = omega arith; indent = refl; blank = refl; start = inr (inr refl) }

-- without it the rest stays as it was, and a line begins where it stood
pub without_line : splice block (entries_of (change (span 2 13) [] ∷ [])) ≡ codes "{" ++ 10 ∷ codes "  x();" ++ 10 ∷ codes "}"
without_line = refl

pub line_begins : ends_in is_indent (take 13 block) ≡ false
line_begins = refl
