-- The files' texts, and their tokens.
use Rattle.std.specs.Prelude.{◌≡◌, ℕ, List, Some, slice_get}
use Rattle.jr_text.specs.declared.spans.Span.{Span}
use Rattle.jr_lex.specs.declared.items.Item.{Item}
use Rattle.jr_lex.specs.declared.items.TokenKind.{TokenKind}
use Rattle.jr_lex.specs.Lexes.{Lexes}
use Rattle.jr_bind.specs.Programs.{File, Program}
use Rattle.jr_moved_texts.specs.Spaces.{ending_at}

abbrev pub HasText : Program Span → (file : ℕ) → List ℕ → Type 0
HasText p file text = (f : File Span) × (slice_get p.files file ≡ Some f) × (f.text ≡ text)

-- a token of the kind ends there
pub record EndsToken (p : Program Span) (file at : ℕ) (k : TokenKind) : Type 0 where
  pub text : List ℕ
  pub items : List Item
  pub is_text : HasText p file text
  pub lexes : Lexes text items
  pub ends : ending_at at items ≡ Some k
