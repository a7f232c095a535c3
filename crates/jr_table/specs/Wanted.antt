-- What is looked for among the members of a class.
use Rattle.std.specs.Prelude.{ℕ, List, Bool}
use Rattle.jr_table.specs.declared.entries.Entry.{Entry}
use Rattle.jr_table.specs.declared.wanted.Wanted as raw
use Rattle.jr_table.specs.declared.wanted.Wanted.TheVariants.{Field, Inner, Method, Virtual}
use Rattle.jr_table.specs.Looking.{is_field, is_type, is_method, is_virtual}

abbrev pub passes : raw.Wanted → ℕ → Entry → Bool
passes (Field name) = is_field name.now
passes (Inner name) = is_type name.now
passes (Method name params) = is_method name.now params.now
passes (Virtual name params) = is_virtual name.now params.now

-- its name
abbrev pub wanted_name : raw.Wanted → List ℕ
wanted_name (Field name) = name.now
wanted_name (Inner name) = name.now
wanted_name (Method name params) = name.now
wanted_name (Virtual name params) = name.now
