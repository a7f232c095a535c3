-- Whether a token is that one.
use Rattle.std.specs.Prelude.{Bool, true, false}
use Rattle.jr_pstmt.specs.Cues.{
  Cue,
  a_word,
  a_semicolon,
  a_comma,
  an_open,
  a_close,
  a_close_brace,
  a_super,
}

abbrev pub is_semicolon : Cue → Bool
is_semicolon a_semicolon = true
is_semicolon _ = false

abbrev pub is_comma : Cue → Bool
is_comma a_comma = true
is_comma _ = false

abbrev pub is_close : Cue → Bool
is_close a_close = true
is_close _ = false

abbrev pub is_close_brace : Cue → Bool
is_close_brace a_close_brace = true
is_close_brace _ = false

abbrev pub is_open : Cue → Bool
is_open an_open = true
is_open _ = false

abbrev pub is_super : Cue → Bool
is_super a_super = true
is_super _ = false

-- a statement expression, or the type of a local, may end with it
abbrev pub ends_eval : Cue → Bool
ends_eval a_semicolon = true
ends_eval (a_word w) = true
ends_eval _ = false
