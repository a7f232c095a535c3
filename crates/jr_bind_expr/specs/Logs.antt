-- The log of a walk.
use Rattle.std.specs.Prelude.{List, map, ◌⊎◌, ◌↔◌}
use Rattle.jr_table.specs.Decls.{MemberKey}
use Rattle.jr_table.specs.Rows.{Row}
use Rattle.jr_table.specs.Notes.{Note, Has}
use Rattle.jr_bind_expr.specs.declared.findings.Note as raw
use Rattle.jr_bind_expr.specs.Findings.{note_of}

-- by keys
abbrev pub notes_of : List Row → MemberKey → List raw.Note → List Note
notes_of rows k log = map (note_of rows k) log

-- the new log has what the old one has and these notes, in some order
pub record Adds (old more new : List Note) : Type 0 where
  pub each : (n : Note) → Has new n ↔ (Has old n ⊎ Has more n)
