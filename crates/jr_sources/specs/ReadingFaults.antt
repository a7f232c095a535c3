-- What is wrong with a text by itself, and what it reads as where nothing is.
use Rattle.std.specs.Prelude.{◌≡◌, ℕ, List, [], ◌∷◌, Option, Some, None, ◌⊎◌, map}
use Rattle.jr_text.specs.declared.spans.Span.{Span}
use Rattle.jr_lex.specs.declared.items.Item.{Item}
use Rattle.jr_lex.specs.declared.items.ItemKind.{ItemKind}
use Rattle.jr_lex.specs.declared.items.ItemKind.TheVariants as item
use Rattle.jr_lex.specs.declared.faults.LexFault.{LexFault}
use Rattle.jr_lex.specs.declared.faults.LexFault.TheVariants as lexical
use Rattle.jr_lex.specs.Lexes.{Lexes, IsFirstFault}
use Rattle.jr_lex.specs.Depth.{IsFirstBeyond, AreWithin}
use Rattle.jr_ast.specs.MemberTree.{Unit as UnitTree}
use Rattle.jr_punit_laws.specs.Parsing.{IsUnitOf, IsNoUnitAt}
use Rattle.jr_sources.specs.declared.faults.FaultKind.{FaultKind}
use Rattle.jr_sources.specs.declared.faults.FaultKind.TheVariants as kind
use Rattle.jr_sources.specs.declared.faults.ReadingFault.{ReadingFault}

-- ---- faults

-- a lexical fault of this kind stands there
abbrev pub IsLexical : LexFault → ReadingFault → Type 0
IsLexical (lexical.BadByte at) f = (f.at ≡ at) × (f.kind ≡ kind.BadByte)
IsLexical (lexical.OpenComment at) f = (f.at ≡ at) × (f.kind ≡ kind.OpenComment)
IsLexical (lexical.OpenString at) f = (f.at ≡ at) × (f.kind ≡ kind.OpenString)
IsLexical (lexical.Escape at) f = (f.at ≡ at) × (f.kind ≡ kind.Escape)
IsLexical (lexical.BadNumber at) f = (f.at ≡ at) × (f.kind ≡ kind.BadNumber)
IsLexical lexical.Memory f = ⊥

-- the first of its lexemes that is wrong (JLS 3)
pub record HasLexical (text : List ℕ) (f : ReadingFault) : Type 0 where
  pub fault : LexFault
  pub first : IsFirstFault text fault
  pub told : IsLexical fault f

-- or else the first token with which it goes beyond a limit of depth or length
pub record IsTooDeep (text : List ℕ) (f : ReadingFault) : Type 0 where
  pub items : List Item
  pub lexes : Lexes text items
  pub first : IsFirstBeyond items f.at
  pub told : f.kind ≡ kind.Deep

-- or else the first token with which no unit begins, or the text's end (JLS 7.3)
pub record HasSyntax (text : List ℕ) (f : ReadingFault) : Type 0 where
  pub items : List Item
  pub lexes : Lexes text items
  pub within : AreWithin items
  pub stops : IsNoUnitAt text items f.at
  pub told : f.kind ≡ kind.Syntax

-- the text's own fault
abbrev pub HasFault : List ℕ → ReadingFault → Type 0
HasFault text f = HasLexical text f ⊎ (IsTooDeep text f ⊎ HasSyntax text f)

-- ---- readings

-- where the first token begins; 0 where there is none
abbrev pub first_token_at : List Item → ℕ
first_token_at [] = 0
first_token_at (i ∷ items) = place_of i.kind i.span.from (first_token_at items)
  where
    place_of : ItemKind → ℕ → ℕ → ℕ
    place_of (item.Token t) at rest = at
    place_of item.Blank at rest = rest
    place_of item.Comment at rest = rest

-- the text reads as the unit, whose marks are the spans of its nodes, and its first token begins
-- at `word`
pub record ReadsAs (text : List ℕ) (unit : UnitTree Span) (word : ℕ) : Type 0 where
  pub items : List Item
  pub lexes : Lexes text items
  pub within : AreWithin items
  pub is : IsUnitOf text items unit
  pub begins : word ≡ first_token_at items

-- what is kept of a text that was read: its unit and its tokens, or its fault
abbrev pub IsReading : List ℕ → UnitTree Span → ℕ → List Item → Option ReadingFault → Type 0
IsReading text unit word items None = ReadsAs text unit word × Lexes text items
IsReading text unit word items (Some f) = HasFault text f
