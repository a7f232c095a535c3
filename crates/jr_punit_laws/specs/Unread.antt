-- Where the machine for units can't go on.
use Rattle.std.specs.Prelude.{◌≡◌, ℕ, List, None, length}
use Rattle.jr_lex.specs.declared.items.Item.{Item}
use Rattle.jr_grammar.specs.Tokens.{placed_of}
use Rattle.jr_punit_laws.specs.Marked.{span_unit_read, span_unit_stop}
use Rattle.jr_punit_laws.specs.StopPlaces.{byte_of}

-- it reads no unit, and stops at the byte
pub record IsUnread (bytes : List ℕ) (items : List Item) (at : ℕ) : Type 0 where
  pub read : span_unit_read (length bytes) (placed_of bytes items) ≡ None
  pub byte : at ≡ byte_of (length bytes) (placed_of bytes items)
      (span_unit_stop (length bytes) (placed_of bytes items))
