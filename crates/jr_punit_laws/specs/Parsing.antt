-- What is read of a text: its unit, or the place where none can be.
use Rattle.std.specs.Prelude.{◌≡◌, ℕ, List, length}
use Rattle.jr_text.specs.declared.spans.Span.{Span}
use Rattle.jr_lex.specs.declared.items.Item.{Item}
use Rattle.jr_ast.specs.MemberTree.{Unit as UnitTree}
use Rattle.jr_grammar.specs.Tokens.{Token, tokens_of, placed_of}
use Rattle.jr_grammar.specs.Bare.{Bare}
use Rattle.jr_grammar.specs.Units.{IsUnit, IsNoUnit, IsMarkedUnit, IsUnitStop}
use Rattle.jr_punit_laws.specs.StopPlaces.{StandsAt}

-- the tokens are some unit
abbrev pub AreUnit : List Token → Type 0
AreUnit tokens = (unit : UnitTree Bare) × IsUnit tokens unit

-- the text's tokens are this unit, and each mark is the span of its node's tokens, the unit's own
-- that of the whole text
abbrev pub IsUnitOf : List ℕ → List Item → UnitTree Span → Type 0
IsUnitOf bytes items unit = IsMarkedUnit (length bytes) (placed_of bytes items) unit

-- The text's tokens are no unit. The first `tokens_read` of them begin some unit, and with the one
-- behind them they begin none: that one begins at this byte, or there is none, and the byte is the
-- text's length.
pub record IsNoUnitAt (bytes : List ℕ) (items : List Item) (at : ℕ) : Type 0 where
  pub none : IsNoUnit (tokens_of bytes items)
  pub tokens_read : ℕ
  pub exact : IsUnitStop (tokens_of bytes items) tokens_read
  pub item : ℕ
  pub place : StandsAt bytes items tokens_read at item

-- a text is one unit at most with its spans, or has one place where none can be, and never both
pub record OneAnswer : Type 0 where
  pub unit : (bytes : List ℕ) (items : List Item) (a b : UnitTree Span) → IsUnitOf bytes items a →
      IsUnitOf bytes items b → a ≡ b
  pub place : (bytes : List ℕ) (items : List Item) (i j : ℕ) → IsNoUnitAt bytes items i →
      IsNoUnitAt bytes items j → i ≡ j
  pub never_both : (bytes : List ℕ) (items : List Item) (a : UnitTree Span) (at : ℕ) →
      IsUnitOf bytes items a → IsNoUnitAt bytes items at → ⊥
