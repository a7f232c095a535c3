-- What is kept of the texts of sources: what each reads as, made from it alone.
use Rattle.std.specs.Prelude.{◌≡◌, ℕ, List, length, slice_get, Option, Some}
use Rattle.jr_text.specs.declared.spans.Span.{Span}
use Rattle.jr_lex.specs.declared.items.Item.{Item}
use Rattle.jr_ast.specs.declared.members.Unit.{Unit}
use Rattle.jr_ast.specs.View.{unit_of}
use Rattle.jr_sources.specs.declared.faults.ReadingFault.{ReadingFault}
use Rattle.jr_sources.specs.declared.kept.Readings.{Readings}
use Rattle.jr_sources.specs.ReadingFaults.{IsReading}

-- the readings are those of the texts, each by itself
pub record AreReadings (texts : List (List ℕ)) (r : Readings) : Type 0 where
  pub units : length r.units.items ≡ length texts
  pub words : length r.words.items ≡ length texts
  pub tokens : length r.tokens.items ≡ length texts
  pub faults : length r.faults.items ≡ length texts
  pub each : (i : ℕ) (text : List ℕ) (unit : Unit Span) (word : ℕ) (items : List Item)
      (fault : Option ReadingFault)
      → slice_get texts i ≡ Some text → slice_get r.units.items i ≡ Some unit
      → slice_get r.words.items i ≡ Some word → slice_get r.tokens.items i ≡ Some items
      → slice_get r.faults.items i ≡ Some fault
      → IsReading text (unit_of unit) word items fault
