-- What is found, and noted, by keys.
use Rattle.std.specs.Prelude.{List}
use Rattle.jr_table.specs.Decls.{MemberKey, local_decl}
use Rattle.jr_table.specs.Rows.{Row}
use Rattle.jr_table.specs.Found.{Found, one}
use Rattle.jr_table.specs.Lookup.{shown}
use Rattle.jr_table.specs.Binding as pure
use Rattle.jr_table.specs.Notes as notes
use Rattle.jr_bind_expr.specs.declared.findings.Finding as raw
use Rattle.jr_bind_expr.specs.declared.findings.Finding.TheVariants as finding
use Rattle.jr_bind_expr.specs.declared.findings.Sought as raw_sought
use Rattle.jr_bind_expr.specs.declared.findings.Sought.TheVariants as sought
use Rattle.jr_bind_expr.specs.declared.findings.Note as raw_note
use Rattle.jr_bind_expr.specs.declared.findings.Note.TheVariants as note
use Rattle.jr_scopes.specs.Helds.{key_of}

abbrev pub found_of : List Row → MemberKey → raw.Finding → Found
found_of rows k (finding.Local number) = one (local_decl (key_of k number))
found_of rows k (finding.Rows a) = shown rows a

abbrev pub sought_of : raw_sought.Sought → pure.Sought
sought_of sought.Variable = pure.variable
sought_of sought.Type = pure.type
sought_of sought.Method = pure.method

abbrev pub note_of : List Row → MemberKey → raw_note.Note → notes.Note
note_of rows k (note.Finds at q f) = notes.found_note at (sought_of q) (found_of rows k f)
note_of rows k (note.Breaks at r) = notes.breaks at r
