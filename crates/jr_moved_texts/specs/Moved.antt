-- What moves in a text: a run of tokens with its own changes, in front of a text that comes there.
use Rattle.std.specs.Prelude.{◌≡◌, ◌≢◌, ℕ, true, false, List, [], ◌∷◌, ◌++◌, length}
use Rattle.std.specs.Str.{chars}
use Rattle.jr_text.specs.declared.spans.Span.{Span}
use Rattle.jr_lex.specs.declared.items.Item.{Item}
use Rattle.jr_lex.specs.declared.items.ItemKind.TheVariants.{Token as TokenItem}
use Rattle.jr_lex.specs.declared.items.TokenKind.{TokenKind}
use Rattle.jr_lex.specs.declared.items.TokenKind.TheVariants.{Mark}
use Rattle.jr_lex.specs.declared.items.Symbol.TheVariants.{Dot}
use Rattle.jr_lex.specs.Lexemes.{IsLexeme}
use Rattle.jr_lex.specs.Beside.{EndsBefore, token_beside}
use Rattle.jr_lex.specs.Near.{IsCut}
use Rattle.jr_grammar.specs.Tokens.{Token, Placed, placed_of}
use Rattle.jr_grammar.specs.Stands.{Tokens, span_of}
use Rattle.jr_splice.proofs.Gluing.{Glued}
use Rattle.jr_rewrite.specs.Respellings.{Change}
use Rattle.jr_rewrite.specs.Woven.{Fronts, YieldsAt, Tiled, with_changes, Weaving}
use Rattle.jr_rewrite.proofs.Steps.{Stepped}
use Rattle.jr_moved_texts.specs.Spaces.{kind_of}

-- each token may stand anywhere
abbrev pub anywhere : Fronts
anywhere at k = Unit {0}

-- no run is woven in a way of its own
abbrev pub nowhere_weaves : Weaving
nowhere_weaves from run cs ts to = ⊥

-- the last of some tokens is of the kind
abbrev pub EndsWith : TokenKind → Tokens → Type 0
EndsWith k [] = ⊥
EndsWith k (p ∷ []) = kind_of p.token ≡ k
EndsWith k (p ∷ q ∷ ps) = EndsWith k (q ∷ ps)

-- The run stands in the text, from its first token's place on.
pub record RunStands (bytes : List ℕ) (p : Placed Span) (run : Tokens) : Type 0 where
  pub pre : List ℕ
  pub post : List ℕ
  pub items : List Item
  pub more : Tokens
  pub whole : bytes ≡ pre ++ post
  pub tiled : Tiled anywhere (length pre) post items
  pub placed : placed_of bytes items ≡ p ∷ (run ++ more)
  pub from : p.mark.from ≡ length pre

-- Each token of the kind ends in front of the characters.
abbrev pub EndsThere : TokenKind → List ℕ → Type 0
EndsThere k new = (f : List ℕ) → IsLexeme (TokenItem k) f → IsCut (TokenItem k) f new

-- What the run becomes by its changes, in front of a text that is cut into tokens: it is cut into
-- its tokens and these, and what might stand in front of the run, there, may stand in front of it.
pub record Moves (bytes : List ℕ) (p : Placed Span) (run : Tokens) (cs : List Change)
    (ts : List Token) (new : List ℕ) (us : List Token) : Type 0 where
  pub old : List ℕ
  pub glued : Glued (with_changes bytes (span_of (p ∷ run)) cs ++ new) (ts ++ us)
  pub yields : YieldsAt anywhere p.mark.from old
      (chars (with_changes bytes (span_of (p ∷ run)) cs ++ new))
  -- in the old text, the first token stands there
  pub begins : (k : TokenKind) → token_beside k (kind_of p.token) ≡ true
      → EndsBefore (TokenItem k) old

-- A run that changes without spots, and ends in no dot, may move in front of any text in front of
-- which its last token ends.
abbrev pub RunsMove : Type 0
RunsMove = (bytes : List ℕ) (p : Placed Span) (run : Tokens) (cs : List Change) (ts : List Token)
    (k : TokenKind) (new : List ℕ) (us : List Token) → RunStands bytes p run
    → EndsWith k (p ∷ run) → k ≢ Mark Dot → Stepped nowhere_weaves false (p ∷ run) cs ts
    → Glued new us → EndsThere k (chars new) → Moves bytes p run cs ts new us
