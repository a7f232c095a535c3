-- The number of each refusal, in the order in which they are checked, and its name.
use Rattle.std.specs.Prelude.{ℕ, List, codes}
use Rattle.jr_names.specs.Refusals.{Refusal, no_such_file, bad_place, bad_name, source_error}
use Rattle.jr_names.specs.Refusals.{bad_target, prelude_method, conditional, has_return}
use Rattle.jr_names.specs.Refusals.{two_results, many_targets, may_be_null, recursive, assigned}
use Rattle.jr_names.specs.Refusals.{clash, override_changed, lost_binding, would_not_compile}
use Rattle.jr_names.specs.Refusals.{lost_dependence, bad_span, too_long, nothing_to_undo}
use Rattle.jr_names.specs.Refusals.{nothing_to_redo, report_full, too_many_sites}

abbrev pub refusal_number : Refusal → ℕ
refusal_number (no_such_file name) = 1
refusal_number (bad_place file at) = 2
refusal_number (bad_name name) = 3
refusal_number (source_error file at kind) = 4
refusal_number (bad_target at need) = 5
refusal_number (prelude_method method) = 6
refusal_number (conditional at) = 7
refusal_number (has_return at) = 8
refusal_number (two_results first second) = 9
refusal_number (many_targets call method) = 10
refusal_number (may_be_null at) = 11
refusal_number (recursive call) = 12
refusal_number (assigned local at) = 13
refusal_number (clash with) = 14
refusal_number (override_changed class method) = 15
refusal_number (lost_binding reference declaration found) = 16
refusal_number (would_not_compile at rule) = 17
refusal_number (lost_dependence kind first second) = 18
refusal_number (bad_span from to) = 19
refusal_number (too_long len) = 20
refusal_number nothing_to_undo = 21
refusal_number nothing_to_redo = 22
refusal_number (report_full len) = 23
refusal_number (too_many_sites member count) = 24

abbrev pub refusal_name : Refusal → List ℕ
refusal_name (no_such_file name) = codes "NoSuchFile"
refusal_name (bad_place file at) = codes "BadPlace"
refusal_name (bad_name name) = codes "BadName"
refusal_name (source_error file at kind) = codes "SourceError"
refusal_name (bad_target at need) = codes "BadTarget"
refusal_name (prelude_method method) = codes "PreludeMethod"
refusal_name (conditional at) = codes "Conditional"
refusal_name (has_return at) = codes "HasReturn"
refusal_name (two_results first second) = codes "TwoResults"
refusal_name (many_targets call method) = codes "ManyTargets"
refusal_name (may_be_null at) = codes "MayBeNull"
refusal_name (recursive call) = codes "Recursive"
refusal_name (assigned local at) = codes "Assigned"
refusal_name (clash with) = codes "Clash"
refusal_name (override_changed class method) = codes "OverrideChanged"
refusal_name (lost_binding reference declaration found) = codes "LostBinding"
refusal_name (would_not_compile at rule) = codes "WouldNotCompile"
refusal_name (lost_dependence kind first second) = codes "LostDependence"
refusal_name (bad_span from to) = codes "BadSpan"
refusal_name (too_long len) = codes "TooLong"
refusal_name nothing_to_undo = codes "NothingToUndo"
refusal_name nothing_to_redo = codes "NothingToRedo"
refusal_name (report_full len) = codes "ReportFull"
refusal_name (too_many_sites member count) = codes "TooManySites"
