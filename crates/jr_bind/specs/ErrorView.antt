-- The errors of a member as contracts see them, and the rule that a note tells.
use Rattle.std.specs.Prelude.{Option, Some, None}
use Rattle.jr_table.specs.Found.{Found, one, nothing, many, not_accessible, from_static}
use Rattle.jr_table.specs.Binding.{Sought}
use Rattle.jr_table.specs.Errors.{Error}
use Rattle.jr_table.specs.Notes.{missing_rule}
use Rattle.jr_table.specs.declared.rules.Rule.{Rule}
use Rattle.jr_table.specs.declared.rules.Rule.TheVariants as rule
use Rattle.jr_bind.specs.declared.errors.BindError as raw

abbrev pub error_of : raw.BindError → Error
error_of e = record { at = e.at; rule = e.rule }

-- the rule that a reference breaks which finds this
abbrev pub found_rule : Sought → Found → Option Rule
found_rule q (one d) = None
found_rule q nothing = Some (missing_rule q)
found_rule q (many d e) = Some rule.Ambiguous
found_rule q (not_accessible d) = Some rule.Private
found_rule q (from_static d) = Some rule.StaticContext
