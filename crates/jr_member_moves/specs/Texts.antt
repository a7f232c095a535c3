-- The text of a member that goes elsewhere: its bytes with the changes of its references, without
-- some of its modifiers, and with its body in the monitor of its old class (JLS 8.4.3.6, 14.19).
use Rattle.std.specs.Prelude.{
  ◌≡◌,
  ◌⊎◌,
  ℕ,
  ◌+◌,
  ◌-◌,
  ◌<◌,
  ◌≤◌,
  Bool,
  true,
  false,
  not,
  List,
  [],
  ◌∷◌,
  ◌++◌,
  filter,
  All,
  Contains,
  codes,
}
use Rattle.jr_text.specs.declared.spans.Span.{Span}
use Rattle.jr_lex.specs.declared.items.Item.{Item}
use Rattle.jr_lex.specs.declared.items.ItemKind.TheVariants.{Token as TokenItem}
use Rattle.jr_lex.specs.declared.items.TokenKind.TheVariants.{Mark}
use Rattle.jr_lex.specs.declared.items.Symbol.TheVariants.{OpenBrace}
use Rattle.jr_ast.specs.declared.operators.ModWord.{ModWord}
use Rattle.jr_ast.specs.Tree as tree
use Rattle.jr_ast.specs.StatementTree as statement
use Rattle.jr_ast.specs.MemberTree as syntax
use Rattle.jr_print.specs.ExpressionText.{printed_type}
use Rattle.jr_layout.specs.Layouts.{IsWithBlank}
use Rattle.jr_rewrite.specs.Respellings.{Change}
use Rattle.jr_rewrite.specs.Rewritten.{change}

-- ---- modifiers

abbrev pub keeps : (drops : ModWord → Bool) → syntax.Modifier Span → Bool
keeps drops w = not (drops w.word)

-- a modifier that is dropped takes the blank behind it
abbrev pub AreDropped : List ℕ → (drops : ModWord → Bool) → List (syntax.Modifier Span)
    → List Change → Type 0
AreDropped text drops [] cs = cs ≡ []
AreDropped text drops (w ∷ ws) cs = ((drops w.word ≡ false) × AreDropped text drops ws cs)
    ⊎ ((drops w.word ≡ true) × (gone : Span) × (ds : List Change) × IsWithBlank text w.mark gone
    × AreDropped text drops ws ds × (cs ≡ change gone [] ∷ ds))

-- ---- the monitor

-- the first brace in a member's text, which begins its body
pub record IsFirstBrace (items : List Item) (member : Span) (at : ℕ) : Type 0 where
  pub item : Item
  pub stands : Contains items item
  pub is : item.kind ≡ TokenItem (Mark OpenBrace)
  pub place : item.span.from ≡ at
  pub inside : member.from ≤ at
  pub first : (other : Item) → Contains items other
      → other.kind ≡ TokenItem (Mark OpenBrace) → member.from ≤ other.span.from
      → at ≤ other.span.from

abbrev pub at_byte : ℕ → Span
at_byte at = record { from = at; to = at }

abbrev pub open_monitor : (class : tree.TypeName Span) → List ℕ
open_monitor t = codes " synchronized (" ++ printed_type t ++ codes ".class) {"

-- what stands behind the first brace, and in front of the last one
pub record IsWrapped (items : List Item) (member : Span) (class : tree.TypeName Span)
    (inner all : List Change) : Type 0 where
  pub brace : ℕ
  pub opens : IsFirstBrace items member brace
  pub front : List Change
  pub back : List Change
  pub inner_is : inner ≡ front ++ back
  pub in_head : All (λ (c : Change). c.span.to ≤ brace) front
  pub in_body : All (λ (c : Change). brace < c.span.from) back
  pub all_is : all ≡ front ++ (change (at_byte (brace + 1)) (open_monitor class)
      ∷ (back ++ change (at_byte (member.to - 1)) (codes "} ") ∷ []))

-- ---- trees

abbrev pub without : (drops : ModWord → Bool) → syntax.Member Span → syntax.Member Span
without drops (syntax.field m mods t w init) =
    syntax.field m (filter (keeps drops) mods) t w init
without drops (syntax.method m mods t w ps body) =
    syntax.method m (filter (keeps drops) mods) t w ps body
without drops (syntax.constructor m mods w ps args body) =
    syntax.constructor m (filter (keeps drops) mods) w ps args body
without drops (syntax.inner m c) = syntax.inner m c

abbrev pub in_monitor : (class : tree.TypeName Span) → Span → statement.Stmts Span
    → statement.Stmts Span
in_monitor t m body =
    statement.more (statement.sync m (tree.class_literal m t) body) statement.end

-- a method's body in the monitor of a class; new nodes have the member's mark
abbrev pub wrapped : (class : tree.TypeName Span) → syntax.Member Span → syntax.Member Span
wrapped k (syntax.method m mods t w ps body) = syntax.method m mods t w ps (in_monitor k m body)
wrapped k x = x

abbrev pub modifiers_of : syntax.Member Span → List (syntax.Modifier Span)
modifiers_of (syntax.field m mods t w init) = mods
modifiers_of (syntax.method m mods t w ps body) = mods
modifiers_of (syntax.constructor m mods w ps args body) = mods
modifiers_of (syntax.inner m c) = []
