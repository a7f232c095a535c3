-- What is kept of a text that has a fault.
use Rattle.std.proofs.Common.{◌≡◌, ℕ, List, [], refl, sym, subst, inr}
use Rattle.std.specs.Prelude.{Option, Some}
use Rattle.std.specs.Str.{chars}
use Rattle.std.proofs.lemmas.Str.{IsUtf8-nil, chars_from_encodes}
use Rattle.jr_text.specs.declared.spans.Span.{Span}
use Rattle.jr_lex.specs.declared.items.Item.{Item}
use Rattle.jr_lex.specs.Depth.{AreWithin}
use Rattle.jr_lex.specs.Lexes.{Lexes}
use Rattle.jr_ast.specs.MemberTree.{Unit as UnitTree}
use Rattle.jr_punit_laws.specs.Parsing.{IsNoUnitAt}
use Rattle.jr_sources.specs.declared.faults.FaultKind.TheVariants as kind
use Rattle.jr_sources.specs.declared.faults.ReadingFault.{ReadingFault}
use Rattle.jr_sources.specs.ReadingFaults.{IsReading}

-- an empty text has no items
pub nothing_lexes : Lexes [] []
nothing_lexes = record { is_text = IsUtf8-nil; cut = sym (chars_from_encodes [] [] IsUtf8-nil refl) }

-- a text whose items are no unit
pub syntax_kept : (text : List ℕ) (items : List Item) (at : ℕ) → Lexes text items → AreWithin items → IsNoUnitAt text items at → (unit : UnitTree Span) (word : ℕ) (others : List Item) (f : Option ReadingFault) → f ≡ Some (record { at = at; kind = kind.Syntax }) → IsReading text unit word others f
syntax_kept text items at lexes within stops unit word others f e =
    subst (λ (g : Option ReadingFault). IsReading text unit word others g) (sym e) (inr (inr (record { items = items; lexes = lexes; within = within; stops = stops; told = refl })))
