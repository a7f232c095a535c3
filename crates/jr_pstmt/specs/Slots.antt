-- The token that ends an expression in a statement.
use Rattle.std.specs.Prelude.{Bool, true, false}
use Rattle.jr_pstmt.specs.Cues.{Cue, a_semicolon, a_close}
use Rattle.jr_pstmt.specs.StatementMachine.{Slot, for_local, for_return, for_head}

abbrev pub is_semicolon : Cue → Bool
is_semicolon a_semicolon = true
is_semicolon _ = false

abbrev pub is_close : Cue → Bool
is_close a_close = true
is_close _ = false

module _ {A : Type 0} where
  abbrev pub closer : Slot A → Cue
  closer (for_local m f t w) = a_semicolon
  closer (for_return m) = a_semicolon
  closer (for_head m h) = a_close

  abbrev pub closes : Slot A → Cue → Bool
  closes (for_local m f t w) c = is_semicolon c
  closes (for_return m) c = is_semicolon c
  closes (for_head m h) c = is_close c
